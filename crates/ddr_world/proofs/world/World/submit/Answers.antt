-- The port prepares a request and pushes it on the queue of its channel.
use Rattle.std.proofs.Common.{Bool, ◌≡◌, false, Some, Result, Ok, Err, sym, ap, subst, ◌∙◌, arith}
use Rattle.ddr_timing.specs.declared.config.Config.{Config}
use Rattle.std.specs.List.{slice_set}
use Rattle.std.specs.Vec.{with_item}
use Rattle.ddr_address_map.specs.Requests.{Request}
use Rattle.ddr_ports.specs.Asked.{asked_of}
use Rattle.ddr_world.specs.declared.event.Outcome.{Outcome}
use Rattle.ddr_world.specs.declared.event.Outcome.TheVariants.{Accepted}
use Rattle.ddr_world.specs.declared.event.Refusal.{Refusal}
use Rattle.ddr_world.specs.declared.event.Refusal.TheVariants.{Busy}
use Rattle.ddr_world.specs.declared.item.Item.TheVariants as item
use Rattle.ddr_world.specs.Answer.{IsAnswered}
use Rattle.ddr_world.specs.Events.{Submit}
use Rattle.ddr_world.specs.Kept.{KeptSide, Kept, side_of}
use Rattle.ddr_world.specs.Refusals.{refusal_from}
use Rattle.ddr_world.specs.State.{is_busy}
use Rattle.ddr_world.specs.Step.{queued}
use Rattle.ddr_world.specs.View.{kept_of}
use Rattle.ddr_world.proofs.StepLemmas.{submit_refused, submit_busy, submit_made}
use Rattle.ddr_world.proofs.SubmitLemmas.{has_port, has_channel_of, whole_still}
use Rattle.ddr_world.proofs.WholeLemmas.{channel_there, old_channel, whole_port, whole_channel, of_submit, err_of, same_channel, served_there}
use Rattle.ddr_world.proofs.world.World.submit.Goals as goal

pub invariant_of-self : goal.invariant_of-self
invariant_of-self c =
    let a = c.self.inside in
    let old = c.index_mut-side.result.now in
    let port = has_port a c.args.port old c.self.invariant c.self.view_is (c.has_port.ensures.0 c.if-not-has_port.false) c.index_mut-side.ensures.value in
    whole_still a c.args.port old c.submit.new.self port c.in_err-made.ensures.err

pub returns-in_err-made : goal.returns-in_err-made
returns-in_err-made c =
    let a = c.self.inside in
    let old = c.index_mut-side.result.now in
    let port = has_port a c.args.port old c.self.invariant c.self.view_is (c.has_port.ensures.0 c.if-not-has_port.false) c.index_mut-side.ensures.value in
    let asked = asked_of c.args.request in
    let cause = c.in_err-made.field-0.0 in
    let found = err_of c.from_residual.result _ c.from_residual.ensures.1 in
    let is : c.from_residual.result ≡ Err (refusal_from cause) = found.1 ∙ ap (λ (e : Refusal). Err e) found.2 in
    let after = record (kept_of a) { ports = slice_set a.ports.items c.args.port c.submit.new.self } in
    subst (λ (r : Result Outcome Refusal). IsAnswered c.args.self.now after (Submit c.args.port asked) r) (sym is)
    (subst (λ (k : Kept). IsAnswered k after (Submit c.args.port asked) (Err (refusal_from cause))) c.self.view_is
    (submit_refused (kept_of a) c.args.port old c.submit.new.self asked cause port.there (sym c.in_err-made.ensures.refused) c.in_err-made.ensures.err))

pub index-requires : goal.index-requires
index-requires c =
    let a = c.self.inside in
    let old = c.index_mut-side.result.now in
    let port = has_port a c.args.port old c.self.invariant c.self.view_is (c.has_port.ensures.0 c.if-not-has_port.false) c.index_mut-side.ensures.value in
    let on_channel = has_channel_of a c.args.port old port c.made.view_is c.in_ok-made.ensures.placed in
    omega (arith, on_channel, a.channels.ok.0)

pub retract-requires : goal.retract-requires
retract-requires c = c.in_ok-made.ensures.newest

pub invariant_of-self-then-is_busy : goal.invariant_of-self-then-is_busy
invariant_of-self-then-is_busy c =
    let a = c.self.inside in
    let old = c.index_mut-side.result.now in
    let port = has_port a c.args.port old c.self.invariant c.self.view_is (c.has_port.ensures.0 c.if-not-has_port.false) c.index_mut-side.ensures.value in
    whole_still a c.args.port old c.retract.new.self port (c.retract.ensures.undone old (asked_of c.args.request) c.in_ok-made.ensures.ok)

pub returns-then-is_busy : goal.returns-then-is_busy
returns-then-is_busy c =
    let a = c.self.inside in
    let old = c.index_mut-side.result.now in
    let port = has_port a c.args.port old c.self.invariant c.self.view_is (c.has_port.ensures.0 c.if-not-has_port.false) c.index_mut-side.ensures.value in
    let on_channel = has_channel_of a c.args.port old port c.made.view_is c.in_ok-made.ensures.placed in
    let asked = asked_of c.args.request in
    let prepared = c.in_ok-made.ensures.prepared ∙ ap (λ (r : Request). Some r) (sym c.made.view_is) in
    let channel = channel_there a c.made.inside.place.channel c.index.result.now on_channel c.index.ensures in
    subst (λ (k : Kept). IsAnswered k (record (kept_of a) { ports = slice_set a.ports.items c.args.port c.retract.new.self }) (Submit c.args.port asked) (Err (Busy c.made.inside.place.channel))) c.self.view_is
    (submit_busy (kept_of a) c.args.port old c.retract.new.self asked _ c.index.result.now port.there (sym c.in_ok-made.ensures.refused) prepared channel
    (sym c.is_busy.ensures ∙ c.if-is_busy.true) (c.retract.ensures.undone old asked c.in_ok-made.ensures.ok))

pub index_mut-requires : goal.index_mut-requires
index_mut-requires c =
    let a = c.self.inside in
    let old = c.index_mut-side.result.now in
    let port = has_port a c.args.port old c.self.invariant c.self.view_is (c.has_port.ensures.0 c.if-not-has_port.false) c.index_mut-side.ensures.value in
    let on_channel = has_channel_of a c.args.port old port c.made.view_is c.in_ok-made.ensures.placed in
    omega (arith, on_channel, a.channels.ok.0)

pub push-requires-clause-free : goal.push-requires-clause-free
push-requires-clause-free c =
    let a = c.self.inside in
    let old = c.index_mut-side.result.now in
    let port = has_port a c.args.port old c.self.invariant c.self.view_is (c.has_port.ensures.0 c.if-not-has_port.false) c.index_mut-side.ensures.value in
    let on_channel = has_channel_of a c.args.port old port c.made.view_is c.in_ok-made.ensures.placed in
    ap (λ (side : KeptSide). is_busy (side_of side)) (same_channel a c.made.inside.place.channel c.index_mut.result.now c.index.result.now on_channel c.index_mut.ensures.value c.index.ensures)
    ∙ sym c.is_busy.ensures ∙ c.if-is_busy.false

pub push-requires-clause-served : goal.push-requires-clause-served
push-requires-clause-served c =
    let a = c.self.inside in
    let old = c.index_mut-side.result.now in
    let port = has_port a c.args.port old c.self.invariant c.self.view_is (c.has_port.ensures.0 c.if-not-has_port.false) c.index_mut-side.ensures.value in
    let on_channel = has_channel_of a c.args.port old port c.made.view_is c.in_ok-made.ensures.placed in
    served_there a old c.index_mut.result.now c.in_ok-made.made.place port.of
    (ap (λ (x : Config × Bool). x.0) (old_channel a c.made.inside.place.channel c.index_mut.result.now c.self.invariant on_channel c.index_mut.ensures.value)) c.in_ok-made.ensures.placed

pub invariant_of-self-2 : goal.invariant_of-self-2
invariant_of-self-2 c =
    let a = c.self.inside in
    let old = c.index_mut-side.result.now in
    let port = has_port a c.args.port old c.self.invariant c.self.view_is (c.has_port.ensures.0 c.if-not-has_port.false) c.index_mut-side.ensures.value in
    let on_channel = has_channel_of a c.args.port old port c.made.view_is c.in_ok-made.ensures.placed in
    whole_channel (record a { ports = with_item a.ports c.args.port c.submit.new.self }) c.made.inside.place.channel c.push.new.self
    (whole_port a c.args.port c.submit.new.self c.self.invariant (of_submit a.config old c.submit.new.self (asked_of c.args.request) port.of c.in_ok-made.ensures.ok))
    (c.push.ensures.opened ∙ old_channel a c.made.inside.place.channel c.index_mut.result.now c.self.invariant on_channel c.index_mut.ensures.value)

pub returns : goal.returns
returns c =
    let a = c.self.inside in
    let old = c.index_mut-side.result.now in
    let port = has_port a c.args.port old c.self.invariant c.self.view_is (c.has_port.ensures.0 c.if-not-has_port.false) c.index_mut-side.ensures.value in
    let on_channel = has_channel_of a c.args.port old port c.made.view_is c.in_ok-made.ensures.placed in
    let asked = asked_of c.args.request in
    let prepared = c.in_ok-made.ensures.prepared ∙ ap (λ (r : Request). Some r) (sym c.made.view_is) in
    let side = c.index_mut.result.now in
    let channel = channel_there a c.made.inside.place.channel side on_channel c.index_mut.ensures.value in
    let free : is_busy (side_of side) ≡ false = ap (λ (s : KeptSide). is_busy (side_of s)) (same_channel a c.made.inside.place.channel side c.index.result.now on_channel c.index_mut.ensures.value c.index.ensures)
    ∙ sym c.is_busy.ensures ∙ c.if-is_busy.false in
    subst (λ (k : Kept). IsAnswered k (record (kept_of a) { ports = slice_set a.ports.items c.args.port c.submit.new.self; channels = slice_set a.channels.items c.made.inside.place.channel c.push.new.self }) (Submit c.args.port asked) (Ok (Accepted c.made.inside.number))) c.self.view_is
    (submit_made (kept_of a) c.args.port old c.submit.new.self asked _ side c.push.new.self port.there (sym c.in_ok-made.ensures.refused) prepared channel free c.in_ok-made.ensures.ok
    (c.push.ensures.state ∙ ap (λ (r : Request). queued (item.Request r) (side_of side)) (sym c.made.view_is)))
