-- The channel makes a cycle, and tells what it issued.
use Rattle.std.proofs.Common.{◌≡◌, ◌<◌, ℕ, Option, Some, IsTrue, Result, Ok, Err, length, refl, sym, ap, subst, ◌∙◌}
use Rattle.std.specs.List.{slice_get, slice_set}
use Rattle.circular_buffer.proofs.Places.{slice_get-set_same}
use Rattle.ddr_channel.specs.declared.issued.Issued.{Issued}
use Rattle.ddr_channel.specs.Room.{wants_memory}
use Rattle.ddr_world.specs.declared.event.Outcome.TheVariants.{Cycled}
use Rattle.ddr_world.specs.declared.event.Refusal.{Refusal}
use Rattle.ddr_world.specs.declared.event.Refusal.TheVariants.{NoSuch, OutOfMemory}
use Rattle.ddr_world.specs.Answer.{IsAnswered}
use Rattle.ddr_world.specs.Events.{Cycle}
use Rattle.ddr_world.specs.Kept.{KeptSide, Kept, side_of, state_of}
use Rattle.ddr_world.specs.Step.{IsRefusedFor, change_channel, cycled}
use Rattle.ddr_world.specs.Told.{TellsOf, cycle_answer}
use Rattle.ddr_world.specs.View.{kept_of}
use Rattle.ddr_world.proofs.StandsLemmas.{stands_more}
use Rattle.ddr_world.proofs.StepLemmas.{no_channel, refused, channel_made, cycle_refused}
use Rattle.ddr_world.proofs.WholeLemmas.{channel_there, old_channel, whole_channel, err_of, not_within}
use Rattle.ddr_world.proofs.world.World.cycle.Goals as goal

-- the core with this side of the channel
abbrev with_side : Kept → ℕ → KeptSide → Kept
with_side k channel side = record k { channels = slice_set k.channels channel side }

failed : (k : Kept) (channel : ℕ) (old new : KeptSide) (cause : Refusal) (r : Result (Option Issued) Refusal) → r ≡ Err cause → slice_get k.channels channel ≡ Some old → IsRefusedFor cause (cycled (side_of old)) →
    (cause ≡ OutOfMemory → IsTrue (wants_memory old.channel)) → side_of new ≡ side_of old → IsAnswered k (with_side k channel new) (Cycle channel) (cycle_answer r)
failed k channel old new cause r is there by_name wanted same =
    subst (λ (x : Result (Option Issued) Refusal). IsAnswered k (with_side k channel new) (Cycle channel) (cycle_answer x)) (sym is)
    (cycle_refused k channel old new Cycled cause cycled refl there by_name wanted same)

pub returns-then-not-has_channel-clause-stands : goal.returns-then-not-has_channel-clause-stands
returns-then-not-has_channel-clause-stands c = λ opening earlier stands.
    stands_more c.args.self.now c.args.self.now opening earlier (Cycle c.args.channel) (Err NoSuch) stands
    (refused c.args.self.now c.args.self.now (Cycle c.args.channel) NoSuch
    (no_channel c.args.self.now c.args.channel (λ side. change_channel (state_of c.args.self.now) c.args.channel Cycled (cycled side))
    (not_within c.has_channel.result c.args.channel (length c.args.self.now.channels) c.has_channel.ensures c.if-not-has_channel.true)) refl refl refl)

pub returns-in_err-issued-clause-answer : goal.returns-in_err-issued-clause-answer
returns-in_err-issued-clause-answer c =
    let a = c.self.inside in
    let within = subst (λ (k : Kept). c.args.channel < length k.channels) (sym c.self.view_is) (c.has_channel.ensures.0 c.if-not-has_channel.false) in
    let found = err_of c.from_residual.result _ c.from_residual.ensures.1 in
    subst (λ (k : Kept). IsAnswered k (with_side (kept_of a) c.args.channel c.cycle.new.self) (Cycle c.args.channel) (cycle_answer c.from_residual.result)) c.self.view_is
    (failed (kept_of a) c.args.channel c.index_mut.result.now c.cycle.new.self c.in_err-issued.field-0.0 c.from_residual.result (found.1 ∙ ap (λ (e : Refusal). Err e) found.2)
    (channel_there a c.args.channel c.index_mut.result.now within c.index_mut.ensures.value) c.in_err-issued.ensures.refused c.in_err-issued.ensures.memory c.in_err-issued.ensures.err)

pub returns-in_err-issued-clause-stands : goal.returns-in_err-issued-clause-stands
returns-in_err-issued-clause-stands c = λ opening earlier stands.
    let a = c.self.inside in
    let within = subst (λ (k : Kept). c.args.channel < length k.channels) (sym c.self.view_is) (c.has_channel.ensures.0 c.if-not-has_channel.false) in
    let found = err_of c.from_residual.result _ c.from_residual.ensures.1 in
    stands_more c.args.self.now (with_side (kept_of a) c.args.channel c.cycle.new.self) opening earlier (Cycle c.args.channel) (cycle_answer c.from_residual.result) stands
    (subst (λ (k : Kept). IsAnswered k (with_side (kept_of a) c.args.channel c.cycle.new.self) (Cycle c.args.channel) (cycle_answer c.from_residual.result)) c.self.view_is
    (failed (kept_of a) c.args.channel c.index_mut.result.now c.cycle.new.self c.in_err-issued.field-0.0 c.from_residual.result (found.1 ∙ ap (λ (e : Refusal). Err e) found.2)
    (channel_there a c.args.channel c.index_mut.result.now within c.index_mut.ensures.value) c.in_err-issued.ensures.refused c.in_err-issued.ensures.memory c.in_err-issued.ensures.err))

pub invariant_of-self : goal.invariant_of-self
invariant_of-self c =
    let a = c.self.inside in
    let within = subst (λ (k : Kept). c.args.channel < length k.channels) (sym c.self.view_is) (c.has_channel.ensures.0 c.if-not-has_channel.false) in
    whole_channel a c.args.channel c.cycle.new.self c.self.invariant
    (c.cycle.ensures.opened ∙ old_channel a c.args.channel c.index_mut.result.now c.self.invariant within c.index_mut.ensures.value)

pub invariant_of-self-2 : goal.invariant_of-self-2
invariant_of-self-2 c =
    let a = c.self.inside in
    let within = subst (λ (k : Kept). c.args.channel < length k.channels) (sym c.self.view_is) (c.has_channel.ensures.0 c.if-not-has_channel.false) in
    whole_channel a c.args.channel c.cycle.new.self c.self.invariant
    (c.cycle.ensures.opened ∙ old_channel a c.args.channel c.index_mut.result.now c.self.invariant within c.index_mut.ensures.value)

pub returns-clause-answer : goal.returns-clause-answer
returns-clause-answer c =
    let a = c.self.inside in
    let within = subst (λ (k : Kept). c.args.channel < length k.channels) (sym c.self.view_is) (c.has_channel.ensures.0 c.if-not-has_channel.false) in
    let there = channel_there a c.args.channel c.index_mut.result.now within c.index_mut.ensures.value in
    subst (λ (k : Kept). IsAnswered k (with_side (kept_of a) c.args.channel c.cycle.new.self) (Cycle c.args.channel) (Ok Cycled)) c.self.view_is
    (channel_made (kept_of a) c.args.channel c.index_mut.result.now c.cycle.new.self (Cycle c.args.channel) Cycled cycled refl there c.in_ok-issued.ensures.ok)

pub returns-clause-stands : goal.returns-clause-stands
returns-clause-stands c = λ opening earlier stands.
    let a = c.self.inside in
    let within = subst (λ (k : Kept). c.args.channel < length k.channels) (sym c.self.view_is) (c.has_channel.ensures.0 c.if-not-has_channel.false) in
    let there = channel_there a c.args.channel c.index_mut.result.now within c.index_mut.ensures.value in
    stands_more c.args.self.now (with_side (kept_of a) c.args.channel c.cycle.new.self) opening earlier (Cycle c.args.channel) (Ok Cycled) stands
    (subst (λ (k : Kept). IsAnswered k (with_side (kept_of a) c.args.channel c.cycle.new.self) (Cycle c.args.channel) (Ok Cycled)) c.self.view_is
    (channel_made (kept_of a) c.args.channel c.index_mut.result.now c.cycle.new.self (Cycle c.args.channel) Cycled cycled refl there c.in_ok-issued.ensures.ok))

pub returns-clause-told : goal.returns-clause-told
returns-clause-told c =
    let a = c.self.inside in
    let within = subst (λ (k : Kept). c.args.channel < length k.channels) (sym c.self.view_is) (c.has_channel.ensures.0 c.if-not-has_channel.false) in
    let there = channel_there a c.args.channel c.index_mut.result.now within c.index_mut.ensures.value in
    subst (λ (k : Kept). TellsOf c.args.channel k (with_side (kept_of a) c.args.channel c.cycle.new.self) c.in_ok-issued.issued) c.self.view_is (record {
      old = c.index_mut.result.now;
      new = c.cycle.new.self;
      before_is = there;
      after_is = slice_get-set_same a.channels.items c.args.channel c.cycle.new.self within;
      told = c.in_ok-issued.ensures.told;
    })
