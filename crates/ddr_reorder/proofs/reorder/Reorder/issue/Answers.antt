-- A number is issued, unless all are spent or the ring is full.
use Rattle.std.proofs.Common.{◌≡◌, ◌<◌, ◌+◌, ◌∙◌, vec_len, ap, arith, refl, sym, subst}
use Rattle.ddr_timing.specs.declared.units.TheConstants.{CLOCK_STOP}
use Rattle.ddr_reorder.specs.Sound.{IsSound}
use Rattle.ddr_reorder.specs.State.{ReorderState, issue_refusal, after_issue}
use Rattle.ddr_reorder.proofs.Wholes.{sound_whole, whole_issued, recallable_issued, state_issued, refusal_whole}
use Rattle.ddr_reorder.proofs.reorder.Reorder.issue.Goals as goal

pub returns-then-self-eq-CLOCK_STOP-clause-sound : goal.returns-then-self-eq-CLOCK_STOP-clause-sound
returns-then-self-eq-CLOCK_STOP-clause-sound c = subst IsSound c.self.view_is (sound_whole c.self.inside c.self.invariant)

pub returns-then-is_full-clause-refused : goal.returns-then-is_full-clause-refused
returns-then-is_full-clause-refused c =
    sym (refusal_whole c.self.inside _ c.if-self-eq-CLOCK_STOP.false c.if-is_full.ensures) ∙ ap issue_refusal c.self.view_is

pub returns-then-is_full-clause-sound : goal.returns-then-is_full-clause-sound
returns-then-is_full-clause-sound c = subst IsSound c.self.view_is (sound_whole c.self.inside c.self.invariant)

pub invariant_of-self : goal.invariant_of-self
invariant_of-self c =
    let left : c.self.inside.next < CLOCK_STOP = omega (arith, c.self.invariant.spent, c.if-self-eq-CLOCK_STOP.false) in
    let taken : vec_len c.pop.new.self + 1 ≡ vec_len c.self.inside.spares = rw c.unwrap-line.ensures at c.pop.ensures.len in
    whole_issued c.self.inside _ c.args.echo c.self.invariant left c.requires refl refl c.push.ensures taken c.pop.ensures.capacity

pub returns-clause-refused : goal.returns-clause-refused
returns-clause-refused c =
    sym (refusal_whole c.self.inside _ c.if-self-eq-CLOCK_STOP.false c.if-is_full.ensures) ∙ ap issue_refusal c.self.view_is

pub returns-clause-ok : goal.returns-clause-ok
returns-clause-ok c =
    let k = c.self.inside in
    state_issued k (record { next = k.next + 1; slots = c.push.new.slots; ready = k.ready; spares = c.pop.new.self }) c.args.echo c.self.invariant refl c.push.ensures
    ∙ ap (after_issue c.args.echo) c.self.view_is

pub returns-clause-sound : goal.returns-clause-sound
returns-clause-sound c = sound_whole _ (invariant_of-self c)

pub returns-clause-newest : goal.returns-clause-newest
returns-clause-newest c =
    let number = ap (λ (s : ReorderState). s.next) c.self.view_is in
    recallable_issued c.args.self.now _ c.args.echo _ (returns-clause-ok c) number
