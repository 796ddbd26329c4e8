-- The five steps of a cycle: what is due completes, the debt and the mode go on, the choice is issued, and the clock.
use Rattle.std.proofs.Common.{◌≡◌, ◌++◌, None, Result, Ok, Err, OnErr, IfSome, IsTrue, List, not, eqb, length, Option, option_map, refl, sym, ap, ap₂, subst, ◌∙◌, arith}
use Rattle.std.specs.List.{filter, slice_get}
use Rattle.circular_buffer.specs.Buffer.{Buffer}
use Rattle.ddr_legality.specs.Bus.{Bus, broken_now, ticked}
use Rattle.ddr_address_map.specs.Requests.{Completion}
use Rattle.ddr_refresh.specs.Refreshes.{Refreshes}
use Rattle.ddr_trace.specs.declared.command.Command.{Command}
use Rattle.ddr_arbiter.specs.declared.choice.Choice.{Choice}
use Rattle.ddr_channel.specs.declared.issued.Served.{Served}
use Rattle.ddr_channel.specs.Choice.{choice_of}
use Rattle.ddr_channel.specs.Cycle.{at_choice, recorded, served_by, after_cycle}
use Rattle.ddr_channel.specs.Issue.{bus_with, refreshes_with}
use Rattle.ddr_channel.specs.Kept.{Kept, state_of, AgreesWith}
use Rattle.ddr_channel.specs.Room.{KeepsRoom, wants_memory}
use Rattle.ddr_channel.specs.Told.{column_request, served_as, issued_with, issued_by, issued_in}
use Rattle.ddr_channel.specs.View.{kept_of}
use Rattle.ddr_channel.proofs.CycleLemmas.{choosing, chosen_legal, chosen_due, chosen_room, chosen_served, same_cells, Made, after, state_after, whole_after, state_refused, whole_refused}
use Rattle.ddr_channel.proofs.ChannelLemmas.{ticks_below}
use Rattle.ddr_channel.proofs.IssueLemmas.{agrees_ready}
use Rattle.ddr_channel.proofs.RoomLemmas.{ready_kept, wanted}
use Rattle.ddr_channel.proofs.channel.Channel.make_cycle.Goals as goal

pub reserve-requires-clause-legal : goal.reserve-requires-clause-legal
reserve-requires-clause-legal c =
    let chosen = c.choice-choice.ensures ∙ ap (λ (k : Kept). choice_of (at_choice (state_of k))) (sym c.self.view_is) in
    chosen_legal c.self.inside c.choice-choice.result c.command_of-command.result c.self.invariant chosen c.command_of-command.ensures

on_err : {T E : Type 0} (r : Result T E) (P : Type 0) → P → OnErr r P
on_err (Ok x) P holds = tt
on_err (Err e) P holds = holds

pub invariant_of-self : goal.invariant_of-self
invariant_of-self c =
    whole_refused c.self.inside c.reserve.new.legality c.reserve.new.rows c.self.invariant c.reserve.ensures.bus c.reserve.ensures.bytes c.reserve.ensures.shape c.reserve.ensures.opened

pub returns-in_err-reserve-clause-err : goal.returns-in_err-reserve-clause-err
returns-in_err-reserve-clause-err c =
    on_err c.from_residual.result _ (state_refused c.self.inside c.reserve.new.legality c.reserve.new.rows c.reserve.ensures.bus c.reserve.ensures.bytes ∙ ap state_of c.self.view_is)

pub returns-in_err-reserve-clause-memory : goal.returns-in_err-reserve-clause-memory
returns-in_err-reserve-clause-memory c =
    let chosen = c.choice-choice.ensures ∙ ap (λ (k : Kept). choice_of (at_choice (state_of k))) (sym c.self.view_is) in
    on_err c.from_residual.result _ (subst (λ (k : Kept). IsTrue (wants_memory k)) c.self.view_is
    (wanted c.self.inside c.choice-choice.result c.command_of-command.result chosen c.command_of-command.ensures c.in_err-reserve.ensures.memory))

pub returns-in_err-reserve-clause-room : goal.returns-in_err-reserve-clause-room
returns-in_err-reserve-clause-room c =
    subst (λ (k : Kept). KeepsRoom k (kept_of (record c.self.inside { legality = c.reserve.new.legality; rows = c.reserve.new.rows }))) c.self.view_is (record {
      stored = c.reserve.ensures.stored;
      entries = omega (arith, c.reserve.ensures.spare, ap (λ (b : Bus). length b.trace) c.reserve.ensures.bus);
      keeps = c.reserve.ensures.keeps;
    })

pub issue-requires-clause-legal : goal.issue-requires-clause-legal
issue-requires-clause-legal c =
    let chosen = c.choice-choice.ensures ∙ ap (λ (k : Kept). choice_of (at_choice (state_of k))) (sym c.self.view_is) in
    subst (λ (b : Bus). IfSome c.command_of-command.result (λ d. broken_now b d ≡ None)) (sym c.reserve.ensures.bus)
    (chosen_legal c.self.inside c.choice-choice.result c.command_of-command.result c.self.invariant chosen c.command_of-command.ensures)

pub tick-requires : goal.tick-requires
tick-requires c = ticks_below c.self.inside c.self.invariant (omega (arith, c.requires, ap (λ (k : Kept). k.now) c.self.view_is))

pub issue-requires-clause-agrees : goal.issue-requires-clause-agrees
issue-requires-clause-agrees c =
    let a = c.self.inside in
    subst (λ (b : Bus). AgreesWith a.config b.trace c.serve-served.new.rows) (sym c.reserve.ensures.bus)
    (agrees_ready a.config a.legality.bus.trace c.reserve.new.rows c.serve-served.new.rows
    (agrees_ready a.config a.legality.bus.trace a.rows c.reserve.new.rows c.self.invariant.agrees c.reserve.ensures.shape c.reserve.ensures.opened)
    c.serve-served.ensures.shape c.serve-served.ensures.opened)

pub issue-requires-clause-ready : goal.issue-requires-clause-ready
issue-requires-clause-ready c = ready_kept c.self.inside.config.geometry c.reserve.new.legality.spare c.reserve.new.rows c.serve-served.new.rows c.command_of-command.result c.serve-served.ensures.stored c.in_ok-reserve.ensures.ready

pub count-requires : goal.count-requires
count-requires c =
    let chosen = c.choice-choice.ensures ∙ ap (λ (k : Kept). choice_of (at_choice (state_of k))) (sym c.self.view_is) in
    chosen_due c.self.inside c.choice-choice.result c.command_of-command.result c.tick.new.debts c.self.invariant chosen c.command_of-command.ensures c.tick.ensures

pub serve-served-requires-clause-may : goal.serve-served-requires-clause-may
serve-served-requires-clause-may c =
    let a = c.self.inside in
    let chosen = c.choice-choice.ensures ∙ ap (λ (k : Kept). choice_of (at_choice (state_of k))) (sym c.self.view_is) in
    chosen_served a c.choice-choice.result c.reserve.new.rows c.self.invariant chosen
    (agrees_ready a.config a.legality.bus.trace a.rows c.reserve.new.rows c.self.invariant.agrees c.reserve.ensures.shape c.reserve.ensures.opened)

pub serve-served-requires-clause-room : goal.serve-served-requires-clause-room
serve-served-requires-clause-room c =
    let a = c.self.inside in
    let chosen = c.choice-choice.ensures ∙ ap (λ (k : Kept). choice_of (at_choice (state_of k))) (sym c.self.view_is) in
    let flight_is : c.complete.new.flight.items ≡ (choosing a).flight =
    ap (λ (b : Buffer Completion). b.items) c.complete.ensures.flight ∙ ap (λ n. filter (λ (d : Completion). not (eqb d.due n)) a.flight.items) c.now-now.ensures.value in
    chosen_room a c.choice-choice.result c.complete.new.flight c.self.invariant chosen flight_is (ap (λ (b : Buffer Completion). b.capacity) c.complete.ensures.flight)

pub invariant_of-self-2 : goal.invariant_of-self-2
invariant_of-self-2 c =
    let a = c.self.inside in
    let chosen = c.choice-choice.ensures ∙ ap (λ (k : Kept). choice_of (at_choice (state_of k))) (sym c.self.view_is) in
    let command = c.command_of-command.result in
    let flight_is : c.complete.new.flight.items ≡ (choosing a).flight =
    ap (λ (b : Buffer Completion). b.items) c.complete.ensures.flight ∙ ap (λ n. filter (λ (d : Completion). not (eqb d.due n)) a.flight.items) c.now-now.ensures.value in
    let done_is : c.complete.new.done.items ≡ (choosing a).done =
    ap (λ (b : Buffer Completion). b.items) c.complete.ensures.done ∙ ap (λ n. a.done.items ++ filter (λ (d : Completion). eqb d.due n) a.flight.items) c.now-now.ensures.value in
    let issued : c.issue.new.legality.bus ≡ bus_with command a.legality.bus = c.issue.ensures.bus ∙ ap (bus_with command) c.reserve.ensures.bus in
    let served = c.serve-served.ensures.holds (recorded command (choosing a)) refl (sym c.now-now.ensures.value) (record {
      pending_are = refl;
      flight_is = sym flight_is;
      bytes = same_cells a.config.geometry a.rows c.reserve.new.rows c.reserve.ensures.bytes;
    }) in
    let made : Made a c.choice-choice.result command c.serve-served.new.pending c.next_drain-drain.result c.serve-served.new.flight c.complete.new.done c.tick-2.new.self.bus c.issue.new.rows = record {
      chosen = chosen;
      command = c.command_of-command.ensures;
      on_bus = c.tick-2.ensures.bus ∙ ap ticked issued;
      mode = c.next_drain-drain.ensures ∙ ap (λ (k : Kept). (at_choice (state_of k)).drain) (sym c.self.view_is);
      done_is = done_is;
      holds = record {
        pending_are = served.pending_are;
        flight_is = served.flight_is;
        bytes = λ address. same_cells (served_by c.choice-choice.result (recorded command (choosing a))).config.geometry c.serve-served.new.rows c.issue.new.rows c.issue.ensures.bytes.bytes address ∙ served.bytes address;
      };
    } in
    whole_after a c.choice-choice.result command c.serve-served.new.pending c.next_drain-drain.result c.count.new.debts c.serve-served.new.flight c.complete.new.done c.tick-2.new.self c.issue.new.rows
    c.self.invariant made (omega (arith, c.requires, ap (λ (k : Kept). k.now) c.self.view_is))
    (λ rank. c.count.ensures rank ∙ ap (λ (rs : List Refreshes). option_map (refreshes_with rank command) (slice_get rs rank)) c.tick.ensures)
    c.serve-served.ensures.limits.0 c.serve-served.ensures.limits.1 (c.serve-served.ensures.capacity ∙ ap (λ (b : Buffer Completion). b.capacity) c.complete.ensures.flight)
    (ap (λ (b : Buffer Completion). b.capacity) c.complete.ensures.done)
    (subst (λ (b : Bus). AgreesWith a.config b.trace c.issue.new.rows) (sym c.tick-2.ensures.bus) c.issue.ensures.agrees)

pub returns-clause-ok : goal.returns-clause-ok
returns-clause-ok c =
    let a = c.self.inside in
    let chosen = c.choice-choice.ensures ∙ ap (λ (k : Kept). choice_of (at_choice (state_of k))) (sym c.self.view_is) in
    let command = c.command_of-command.result in
    let flight_is : c.complete.new.flight.items ≡ (choosing a).flight =
    ap (λ (b : Buffer Completion). b.items) c.complete.ensures.flight ∙ ap (λ n. filter (λ (d : Completion). not (eqb d.due n)) a.flight.items) c.now-now.ensures.value in
    let done_is : c.complete.new.done.items ≡ (choosing a).done =
    ap (λ (b : Buffer Completion). b.items) c.complete.ensures.done ∙ ap (λ n. a.done.items ++ filter (λ (d : Completion). eqb d.due n) a.flight.items) c.now-now.ensures.value in
    let issued : c.issue.new.legality.bus ≡ bus_with command a.legality.bus = c.issue.ensures.bus ∙ ap (bus_with command) c.reserve.ensures.bus in
    let served = c.serve-served.ensures.holds (recorded command (choosing a)) refl (sym c.now-now.ensures.value) (record {
      pending_are = refl;
      flight_is = sym flight_is;
      bytes = same_cells a.config.geometry a.rows c.reserve.new.rows c.reserve.ensures.bytes;
    }) in
    let made : Made a c.choice-choice.result command c.serve-served.new.pending c.next_drain-drain.result c.serve-served.new.flight c.complete.new.done c.tick-2.new.self.bus c.issue.new.rows = record {
      chosen = chosen;
      command = c.command_of-command.ensures;
      on_bus = c.tick-2.ensures.bus ∙ ap ticked issued;
      mode = c.next_drain-drain.ensures ∙ ap (λ (k : Kept). (at_choice (state_of k)).drain) (sym c.self.view_is);
      done_is = done_is;
      holds = record {
        pending_are = served.pending_are;
        flight_is = served.flight_is;
        bytes = λ address. same_cells (served_by c.choice-choice.result (recorded command (choosing a))).config.geometry c.serve-served.new.rows c.issue.new.rows c.issue.ensures.bytes.bytes address ∙ served.bytes address;
      };
    } in
    state_after a c.choice-choice.result command c.serve-served.new.pending c.next_drain-drain.result c.count.new.debts c.serve-served.new.flight c.complete.new.done c.tick-2.new.self c.issue.new.rows made
    ∙ ap (λ (k : Kept). after_cycle (state_of k)) c.self.view_is

pub returns-clause-room : goal.returns-clause-room
returns-clause-room c =
    let traced = ap (λ (b : Bus). length b.trace) c.tick-2.ensures.bus in
    let reserved = ap (λ (b : Bus). length b.trace) c.reserve.ensures.bus in
    subst (λ (k : Kept). KeepsRoom k (kept_of (after c.self.inside c.serve-served.new.pending c.next_drain-drain.result c.count.new.debts c.serve-served.new.flight c.complete.new.done c.tick-2.new.self c.issue.new.rows))) c.self.view_is (record {
      stored = λ bank row is. c.issue.ensures.bytes.stored bank row ∙ c.serve-served.ensures.stored bank row ∙ c.reserve.ensures.stored bank row is;
      entries = omega (arith, c.reserve.ensures.spare, reserved, c.issue.ensures.spare, c.tick-2.ensures.spare, traced);
      keeps = c.tick-2.ensures.keeps ∙ (c.issue.ensures.keeps ∙ c.reserve.ensures.keeps);
    })

pub returns-clause-issued : goal.returns-clause-issued
returns-clause-issued c =
    let a = c.self.inside in
    let chosen = c.choice-choice.ensures ∙ ap (λ (k : Kept). choice_of (at_choice (state_of k))) (sym c.self.view_is) in
    c.issued_with.ensures
    ∙ ap₂ (λ now (o : Option Served). option_map (issued_with now o) c.command_of-command.result) c.now-now.ensures.value
    (c.serve-served.ensures.told ∙ ap (λ now. option_map (served_as a.config now) (column_request a.pending.waiting c.choice-choice.result)) c.now-now.ensures.value)
    ∙ ap (λ (o : Option Command). option_map (issued_with a.legality.bus.now (option_map (served_as a.config a.legality.bus.now) (column_request a.pending.waiting c.choice-choice.result))) o) c.command_of-command.ensures
    ∙ ap (λ (ch : Choice). issued_by (choosing a) ch) chosen
    ∙ ap (λ (k : Kept). issued_in (state_of k)) c.self.view_is
