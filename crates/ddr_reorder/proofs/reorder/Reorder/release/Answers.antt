-- The oldest number is gone where it was ready, and its box is a spare one.
use Rattle.std.proofs.Common.{◌≡◌, ◌<◌, ◌≤◌, ◌+◌, ◌-◌, ◌∙◌, ap, arith, refl, subst, sym, vec_len}
use Rattle.std.specs.Option.{option_map}
use Rattle.ddr_reorder.specs.Replies.{Answer, front_number}
use Rattle.ddr_reorder.specs.Sound.{IsSound}
use Rattle.ddr_reorder.specs.State.{after_release}
use Rattle.ddr_reorder.proofs.Ready.{first_is, front_ready, nth_past}
use Rattle.ddr_reorder.proofs.Wholes.{sound_whole, state_released, whole_released}
use Rattle.ddr_reorder.proofs.reorder.Reorder.release.Goals as goal

pub returns-then-self-eq0-clause-number : goal.returns-then-self-eq0-clause-number
returns-then-self-eq0-clause-number c =
    let none : c.self.inside.ready ≤ 0 = omega (arith, c.if-self-eq0.true) in
    sym (ap (option_map (λ (o : Answer). o.number)) (nth_past c.self.inside 0 c.self.invariant none)) ∙ ap front_number c.self.view_is

pub returns-then-self-eq0-clause-sound : goal.returns-then-self-eq0-clause-sound
returns-then-self-eq0-clause-sound c = subst IsSound c.self.view_is (sound_whole c.self.inside c.self.invariant)

pub invariant_of-self : goal.invariant_of-self
invariant_of-self c =
    let some : 0 < c.self.inside.ready = omega (arith, c.if-self-eq0.false) in
    let more : vec_len c.push.new.self ≡ vec_len c.self.inside.spares + 1 = rw c.unwrap-2.ensures at c.push.ensures.len in
    whole_released c.self.inside _ c.self.invariant some refl refl c.pop_front.ensures.items more c.push.ensures.capacity

pub returns-clause-number : goal.returns-clause-number
returns-clause-number c =
    let k = c.self.inside in
    let some : 0 < k.ready = omega (arith, c.if-self-eq0.false) in
    let first = first_is k c.args.self.now c.first-number.result c.self.invariant c.self.view_is c.first-number.ensures in
    let at = sym c.pop_front.ensures.value ∙ c.unwrap-slot.ensures in
    front_ready k c.first-number.result c.unwrap-slot.result c.unwrap.result c.self.invariant some first at c.unwrap.ensures
    ∙ ap front_number c.self.view_is

pub returns-clause-some : goal.returns-clause-some
returns-clause-some c =
    let k = c.self.inside in
    let some : 0 < k.ready = omega (arith, c.if-self-eq0.false) in
    state_released k (record { next = k.next; slots = c.pop_front.new.self; ready = k.ready - 1; spares = c.push.new.self }) c.self.invariant some refl c.pop_front.ensures.items
    ∙ ap after_release c.self.view_is

pub returns-clause-sound : goal.returns-clause-sound
returns-clause-sound c = sound_whole _ (invariant_of-self c)
