-- The channel pops an item of its queue.
use Rattle.std.proofs.Common.{◌≡◌, ◌<◌, Result, Ok, Err, length, refl, sym, ap, subst, ◌∙◌}
use Rattle.std.specs.List.{slice_set}
use Rattle.ddr_world.specs.declared.event.Outcome.{Outcome}
use Rattle.ddr_world.specs.declared.event.Outcome.TheVariants.{Taken}
use Rattle.ddr_world.specs.declared.event.Refusal.{Refusal}
use Rattle.ddr_world.specs.Answer.{IsAnswered}
use Rattle.ddr_world.specs.Events.{Take}
use Rattle.ddr_world.specs.Kept.{Kept, side_of}
use Rattle.ddr_world.specs.Step.{taken}
use Rattle.ddr_world.specs.View.{kept_of}
use Rattle.ddr_world.proofs.StepLemmas.{channel_made, channel_refused}
use Rattle.ddr_world.proofs.WholeLemmas.{channel_there, old_channel, whole_channel, err_of}
use Rattle.ddr_world.proofs.world.World.take.Goals as goal

pub returns-in_err-take : goal.returns-in_err-take
returns-in_err-take c =
    let a = c.self.inside in
    let cause = c.in_err-take.field-0.0 in
    let within = subst (λ (k : Kept). c.args.channel < length k.channels) (sym c.self.view_is) (c.has_channel.ensures.0 c.if-not-has_channel.false) in
    let there = channel_there a c.args.channel c.index_mut.result.now within c.index_mut.ensures.value in
    let found = err_of c.from_residual.result _ c.from_residual.ensures.1 in
    let is : c.from_residual.result ≡ Err cause = found.1 ∙ ap (λ (e : Refusal). Err e) found.2 in
    let after = record (kept_of a) { channels = slice_set a.channels.items c.args.channel c.take.new.self } in
    subst (λ (r : Result Outcome Refusal). IsAnswered c.args.self.now after (Take c.args.channel) r) (sym is)
    (subst (λ (k : Kept). IsAnswered k after (Take c.args.channel) (Err cause)) c.self.view_is
    (channel_refused (kept_of a) c.args.channel c.index_mut.result.now c.take.new.self (Take c.args.channel) Taken cause taken refl there c.in_err-take.ensures.refused (ap side_of c.in_err-take.ensures.err)))

pub invariant_of-self-2 : goal.invariant_of-self-2
invariant_of-self-2 c =
    let a = c.self.inside in
    let within = subst (λ (k : Kept). c.args.channel < length k.channels) (sym c.self.view_is) (c.has_channel.ensures.0 c.if-not-has_channel.false) in
    whole_channel a c.args.channel c.take.new.self c.self.invariant
    (c.take.ensures.opened ∙ old_channel a c.args.channel c.index_mut.result.now c.self.invariant within c.index_mut.ensures.value)

pub returns : goal.returns
returns c =
    let a = c.self.inside in
    let within = subst (λ (k : Kept). c.args.channel < length k.channels) (sym c.self.view_is) (c.has_channel.ensures.0 c.if-not-has_channel.false) in
    let there = channel_there a c.args.channel c.index_mut.result.now within c.index_mut.ensures.value in
    subst (λ (k : Kept). IsAnswered k (record (kept_of a) { channels = slice_set a.channels.items c.args.channel c.take.new.self }) (Take c.args.channel) (Ok Taken)) c.self.view_is
    (channel_made (kept_of a) c.args.channel c.index_mut.result.now c.take.new.self (Take c.args.channel) Taken taken refl there c.in_ok-take.ensures.ok)
