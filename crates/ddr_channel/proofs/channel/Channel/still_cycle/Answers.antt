-- What is due completes, and the debts, the drain mode and the clock go on.
use Rattle.std.proofs.Common.{◌≡◌, ◌++◌, eqb, not, sym, ap, subst, ◌∙◌, arith}
use Rattle.std.specs.List.{filter}
use Rattle.circular_buffer.specs.Buffer.{buffer}
use Rattle.ddr_address_map.specs.Requests.{Completion}
use Rattle.ddr_arbiter.specs.declared.choice.Choice.TheVariants as choice
use Rattle.ddr_channel.specs.Choice.{choice_of}
use Rattle.ddr_channel.specs.Cycle.{after_cycle, at_choice, drained}
use Rattle.ddr_channel.specs.Kept.{Kept, state_of}
use Rattle.ddr_channel.proofs.SleepLemmas.{Stilled, state_stilled, whole_stilled}
use Rattle.ddr_channel.proofs.channel.Channel.still_cycle.Goals as goal

pub invariant_of-self : goal.invariant_of-self
invariant_of-self c =
    let a = c.self.inside in
    let still : Stilled a c.next_drain-drained.result c.tick.new.debts c.complete.new.flight c.complete.new.done c.tick-2.new.self = record {
      chosen = subst (λ (k : Kept). choice_of (at_choice (state_of k)) ≡ choice.Nothing) (sym c.self.view_is) c.requires.chosen;
      mode = c.next_drain-drained.ensures ∙ ap (λ (k : Kept). (drained (state_of k)).drain) (sym c.self.view_is);
      debts_are = c.tick.ensures;
      flight_is = c.complete.ensures.flight ∙ ap (λ n. buffer (filter (λ (d : Completion). not (eqb d.due n)) a.flight.items) a.flight.capacity) c.now-cycle.ensures.value;
      done_is = c.complete.ensures.done ∙ ap (λ n. buffer (a.done.items ++ filter (λ (d : Completion). eqb d.due n) a.flight.items) a.done.capacity) c.now-cycle.ensures.value;
      on_bus = c.tick-2.ensures.bus;
    } in
    whole_stilled a c.next_drain-drained.result c.tick.new.debts c.complete.new.flight c.complete.new.done c.tick-2.new.self c.self.invariant
    (omega (arith, c.requires.clock, ap (λ (k : Kept). k.now) c.self.view_is)) still

pub returns-clause-state : goal.returns-clause-state
returns-clause-state c =
    let a = c.self.inside in
    let still : Stilled a c.next_drain-drained.result c.tick.new.debts c.complete.new.flight c.complete.new.done c.tick-2.new.self = record {
      chosen = subst (λ (k : Kept). choice_of (at_choice (state_of k)) ≡ choice.Nothing) (sym c.self.view_is) c.requires.chosen;
      mode = c.next_drain-drained.ensures ∙ ap (λ (k : Kept). (drained (state_of k)).drain) (sym c.self.view_is);
      debts_are = c.tick.ensures;
      flight_is = c.complete.ensures.flight ∙ ap (λ n. buffer (filter (λ (d : Completion). not (eqb d.due n)) a.flight.items) a.flight.capacity) c.now-cycle.ensures.value;
      done_is = c.complete.ensures.done ∙ ap (λ n. buffer (a.done.items ++ filter (λ (d : Completion). eqb d.due n) a.flight.items) a.done.capacity) c.now-cycle.ensures.value;
      on_bus = c.tick-2.ensures.bus;
    } in
    state_stilled a c.next_drain-drained.result c.tick.new.debts c.complete.new.flight c.complete.new.done c.tick-2.new.self still
    ∙ ap (λ (k : Kept). after_cycle (state_of k)) c.self.view_is
