-- The newest number is gone, and its box is a spare one.
use Rattle.std.proofs.Common.{◌≡◌, ◌+◌, ◌∙◌, ap, refl, subst, sym, vec_len}
use Rattle.ddr_reorder.specs.State.{IsRecallable, after_recall}
use Rattle.ddr_reorder.proofs.Wholes.{last_slot, recall-issue, sound_whole, state_recalled, whole_recalled}
use Rattle.ddr_reorder.proofs.reorder.Reorder.recall.Goals as goal

pub invariant_of-self : goal.invariant_of-self
invariant_of-self c =
    let last = last_slot c.self.inside c.args.number c.self.invariant (subst (λ s. IsRecallable s c.args.number) (sym c.self.view_is) c.requires) in
    let more : vec_len c.push.new.self ≡ vec_len c.self.inside.spares + 1 = rw c.unwrap.ensures at c.push.ensures.len in
    whole_recalled c.self.inside _ last.0 c.self.invariant last.1 refl c.pop_newest.ensures more c.push.ensures.capacity

pub returns-clause-state : goal.returns-clause-state
returns-clause-state c =
    let k = c.self.inside in
    let last = last_slot k c.args.number c.self.invariant (subst (λ s. IsRecallable s c.args.number) (sym c.self.view_is) c.requires) in
    state_recalled k (record { next = c.args.number; slots = c.pop_newest.new.slots; ready = k.ready; spares = c.push.new.self }) last.0 c.self.invariant last.1 c.pop_newest.ensures
    ∙ ap after_recall c.self.view_is

pub returns-clause-undone : goal.returns-clause-undone
returns-clause-undone c = λ before echo issued. returns-clause-state c ∙ ap after_recall issued ∙ recall-issue before echo

pub returns-clause-sound : goal.returns-clause-sound
returns-clause-sound c = sound_whole _ (invariant_of-self c)
