-- The judge is told of what a cycle issued, and of nothing where it issued nothing.
use Rattle.std.proofs.Common.{◌≡◌, ◌+◌, List, [], ◌∷◌, ◌++◌, IsTrue, sym, ap, subst, ◌∙◌, arith}
use Rattle.std.specs.Result.{IsErrOf}
use Rattle.ddr_arbiter.specs.declared.choice.Choice.TheVariants.{Nothing}
use Rattle.ddr_channel.specs.declared.channel.CycleError.TheVariants.{OutOfMemory}
use Rattle.ddr_channel.specs.Choice.{choice_of}
use Rattle.ddr_channel.specs.Cycle.{after_cycle, at_choice}
use Rattle.ddr_channel.specs.History.{Call, Cycle}
use Rattle.ddr_channel.specs.Kept.{Kept, state_of}
use Rattle.ddr_channel.specs.Promise.{StandsFor}
use Rattle.ddr_channel.specs.Room.{wants_memory}
use Rattle.ddr_channel.specs.Told.{with_issued}
use Rattle.ddr_channel.proofs.StandsLemmas.{cycle_start}
use Rattle.ddr_workers.proofs.JudgedLemmas.{heard_few, issued_now, none_issued, refused_alike, whole_kept, whole_told}
use Rattle.ddr_workers.proofs.judged.JudgedChannel.cycle.Goals as goal

pub returns-in_err-issued-clause-idle : goal.returns-in_err-issued-clause-idle
returns-in_err-issued-clause-idle c =
    subst (λ (k : Kept). choice_of (at_choice (state_of k)) ≡ Nothing → IsErrOf c.from_residual.result OutOfMemory → ⊥) c.self.view_is
    (λ nothing refused. c.in_err-issued.ensures.idle nothing (refused_alike c.in_err-issued.field-0.0 OutOfMemory c.from_residual.result c.from_residual.ensures.1 refused))

pub returns-in_err-issued-clause-memory : goal.returns-in_err-issued-clause-memory
returns-in_err-issued-clause-memory c =
    subst (λ (k : Kept). IsErrOf c.from_residual.result OutOfMemory → IsTrue (wants_memory k)) c.self.view_is
    (λ refused. c.in_err-issued.ensures.memory (refused_alike c.in_err-issued.field-0.0 OutOfMemory c.from_residual.result c.from_residual.ensures.1 refused))

pub pass-requires-clause-early : goal.pass-requires-clause-early
pass-requires-clause-early c =
    let a = c.self.inside in
    omega (arith, issued_now (state_of a.channel) c.in-Some.issued (sym c.in_ok-issued.ensures.issued ∙ c.in-Some.is), c.now-cycle.ensures.value, c.now-cycle.ensures.bound)

pub pass-requires-clause-countable : goal.pass-requires-clause-countable
pass-requires-clause-countable c = omega (arith, heard_few c.self.inside c.self.invariant, c.now-cycle.ensures.value, c.now-cycle.ensures.bound)

pub invariant_of-self-in-Some : goal.invariant_of-self-in-Some
invariant_of-self-in-Some c =
    let a = c.self.inside in
    let k : Kept = c.cycle_observed.new.self in
    let now = issued_now (state_of a.channel) c.in-Some.issued (sym c.in_ok-issued.ensures.issued ∙ c.in-Some.is) in
    whole_told a k c.pass.new.self c.and-self-inside.result c.in-Some.issued.entry c.now-cycle.result c.self.invariant c.cycle_observed.ensures.config (cycle_start a.channel k c.in_ok-issued.ensures.ok)
    (c.in_ok-issued.ensures.trace ∙ ap (λ o. with_issued o a.channel.trace) c.in-Some.is) c.in_ok-issued.ensures.clock (c.now-cycle.ensures.value ∙ sym now) now c.and-self-inside.ensures c.pass.ensures.end c.pass.ensures.judged

pub invariant_of-self-in_default : goal.invariant_of-self-in_default
invariant_of-self-in_default c =
    let a = c.self.inside in
    let k : Kept = c.cycle_observed.new.self in
    whole_kept a k c.self.invariant c.cycle_observed.ensures.config (cycle_start a.channel k c.in_ok-issued.ensures.ok)
    (c.in_ok-issued.ensures.trace ∙ none_issued c.in_ok-issued.field-0 a.channel.trace (λ i is. c.in_default.not-Some i is)) (omega (arith, c.in_ok-issued.ensures.clock))

pub returns-in-Some-clause-ok : goal.returns-in-Some-clause-ok
returns-in-Some-clause-ok c = c.in_ok-issued.ensures.ok ∙ ap (λ (k : Kept). after_cycle (state_of k)) c.self.view_is

pub returns-in-Some-clause-stands : goal.returns-in-Some-clause-stands
returns-in-Some-clause-stands c = subst (λ (k : Kept). (calls : List Call) → StandsFor k calls → StandsFor c.cycle_observed.new.self (calls ++ Cycle ∷ [])) c.self.view_is c.in_ok-issued.ensures.stands

pub returns-in_default-clause-ok : goal.returns-in_default-clause-ok
returns-in_default-clause-ok c = c.in_ok-issued.ensures.ok ∙ ap (λ (k : Kept). after_cycle (state_of k)) c.self.view_is

pub returns-in_default-clause-stands : goal.returns-in_default-clause-stands
returns-in_default-clause-stands c = subst (λ (k : Kept). (calls : List Call) → StandsFor k calls → StandsFor c.cycle_observed.new.self (calls ++ Cycle ∷ [])) c.self.view_is c.in_ok-issued.ensures.stands
