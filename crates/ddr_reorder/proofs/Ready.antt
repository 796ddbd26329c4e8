-- What stands ready in a reorder buffer, by its slots.
use Rattle.std.proofs.Common.{◌≡◌, ℕ, zero, suc, ◌+◌, ◌-◌, ◌<◌, ◌≤◌, List, [], ◌∷◌, length, take, Option, Some, None, refl, sym, ap, subst, ◌∙◌, arith}
use Rattle.std.specs.List.{AllByRecursion, prefix_len, slice_get}
use Rattle.std.specs.Option.{option_and_then, option_map}
use Rattle.std.proofs.lemmas.List.{length-take-le}
use Rattle.std.proofs.lemmas.List.Sums.{prefix_len-le-length}
use Rattle.std.proofs.lemmas.Option.{slice_get_past}
use Rattle.ddr_reorder.specs.Replies.{Answer, answer_of, filled_prefix, front_number, is_filled, nth_answer, nth_service, outstanding_at, ready_count}
use Rattle.ddr_reorder.specs.State.{Outstanding, ReorderState}
use Rattle.ddr_reorder.specs.View.{outstanding_of, state_of, IsWithin, IsWhole}
use Rattle.ddr_reorder.specs.declared.reorder.Reorder.TheInside.{Inside}
use Rattle.ddr_reorder.specs.declared.slot.Returned.{Returned}
use Rattle.ddr_reorder.specs.declared.slot.Slot.{Slot}
use Rattle.ddr_reorder.proofs.Numbered.{found_at, found_below, length-numbered, prefix_len-numbered, slice_get-numbered}
use Rattle.ddr_reorder.proofs.Prefix.{slice_get-take}

-- the number of the oldest slot
abbrev pub first_of : Inside → ℕ
first_of a = a.next - length a.slots.items

ready_prefix : (a : Inside) → IsWhole a → prefix_len is_filled (state_of a).outstanding ≡ a.ready
ready_prefix a whole = prefix_len-numbered (first_of a) a.slots.items ∙ sym whole.ready

pub ready_whole : (a : Inside) → IsWhole a → a.ready ≡ ready_count (state_of a)
ready_whole a whole =
    let os = (state_of a).outstanding in
    sym (ready_prefix a whole) ∙ sym (length-take-le (prefix_len is_filled os) os (prefix_len-le-length is_filled os))

-- past what is ready there is nothing
past_ready : {Y : Type 0} (f : Outstanding → Option Y) (a : Inside) (k : ℕ) → IsWhole a → a.ready ≤ k → option_and_then f (slice_get (filled_prefix (state_of a)) k) ≡ None
past_ready f a k whole past =
    let os = (state_of a).outstanding in
    ap (option_and_then f) (slice_get_past (take (prefix_len is_filled os) os) k (omega (arith, ready_whole a whole)))

pub nth_past : (a : Inside) (k : ℕ) → IsWhole a → a.ready ≤ k → nth_answer (state_of a) k ≡ None
nth_past a k whole past = past_ready answer_of a k whole past

pub service_past : (a : Inside) (k : ℕ) → IsWhole a → a.ready ≤ k → nth_service (state_of a) k ≡ None
service_past a k whole past = past_ready (λ o. o.service) a k whole past

and_then-map : {X Y Z : Type 0} (f : Y → Option Z) (g : X → Y) (o : Option X) → option_and_then f (option_map g o) ≡ option_and_then (λ x. f (g x)) o
and_then-map f g (Some x) = refl
and_then-map f g None = refl

-- within it there is what the slot has
within_ready : {Y : Type 0} (f : Outstanding → Option Y) (a : Inside) (k n : ℕ) (o : Option Slot) → IsWhole a → k < a.ready → n ≡ first_of a → slice_get a.slots.items k ≡ o
    → option_and_then f (slice_get (filled_prefix (state_of a)) k) ≡ option_and_then (λ slot. f (outstanding_of (n + k) slot)) o
within_ready f a k n o whole within first at =
    let os = (state_of a).outstanding in
    let taken = slice_get-take (prefix_len is_filled os) os k (omega (arith, ready_prefix a whole)) in
    let number : first_of a + k ≡ n + k = omega arith in
    ap (option_and_then f) (taken ∙ slice_get-numbered (first_of a) (first_of a + k) a.slots.items k refl)
    ∙ and_then-map f (outstanding_of (first_of a + k)) (slice_get a.slots.items k)
    ∙ ap (option_and_then (λ slot. f (outstanding_of (first_of a + k) slot))) at
    ∙ ap (λ m. option_and_then (λ slot. f (outstanding_of m slot)) o) number

-- the answer of a slot that is ready, if there is one
pub nth_slot : (a : Inside) (k n : ℕ) (o : Option Slot) → IsWhole a → k < a.ready → n ≡ first_of a → slice_get a.slots.items k ≡ o
    → nth_answer (state_of a) k ≡ option_and_then (λ slot. answer_of (outstanding_of (n + k) slot)) o
nth_slot a k n o whole within first at = within_ready answer_of a k n o whole within first at

-- and when it was served
pub service_slot : (a : Inside) (k n : ℕ) (o : Option Slot) → IsWhole a → k < a.ready → n ≡ first_of a → slice_get a.slots.items k ≡ o
    → nth_service (state_of a) k ≡ option_and_then (λ slot. (outstanding_of (n + k) slot).service) o
service_slot a k n o whole within first at = within_ready (λ o. o.service) a k n o whole within first at

-- what an outstanding number has come to, by its slot
pub served_slot : {Y : Type 0} (f : Outstanding → Option Y) (a : Inside) (number i : ℕ) (o : Option Slot) → first_of a + i ≡ number → slice_get a.slots.items i ≡ o
    → option_and_then f (outstanding_at (state_of a) number) ≡ option_and_then (λ slot. f (outstanding_of number slot)) o
served_slot f a number i o at there =
    ap (option_and_then f) (found_at number (first_of a) a.slots.items i at)
    ∙ and_then-map f (outstanding_of number) (slice_get a.slots.items i)
    ∙ ap (option_and_then (λ slot. f (outstanding_of number slot))) there

-- a number before the oldest is none
pub served_below : {Y : Type 0} (f : Outstanding → Option Y) (a : Inside) (number : ℕ) → number < first_of a → option_and_then f (outstanding_at (state_of a) number) ≡ None
served_below f a number below = ap (option_and_then f) (found_below number (first_of a) a.slots.items below)

-- the oldest number, as it was told
pub first_is : (a : Inside) (s : ReorderState) (n : ℕ) → IsWhole a → state_of a ≡ s → n + length s.outstanding ≡ s.next → n ≡ first_of a
first_is a s n whole is told =
    let count = ap (λ (r : ReorderState). length r.outstanding) is in
    let next = ap (λ (r : ReorderState). r.next) is in
    omega (arith, count, next, told, length-numbered (first_of a) a.slots.items, whole.begun)

-- what a slot of the ring keeps
pub within_at : (slots : List Slot) (k : ℕ) (slot : Slot) → AllByRecursion IsWithin slots → slice_get slots k ≡ Some slot → IsWithin slot
within_at [] k slot all at = absurd (cc)
within_at (first ∷ slots) zero slot all at = let same : first ≡ slot = cc in subst IsWithin same all.0
within_at (first ∷ slots) (suc k) slot all at = within_at slots k slot all.1 at

-- the number of the oldest slot, which is ready
pub front_ready : (a : Inside) (n : ℕ) (slot : Slot) (back : Returned) → IsWhole a → 0 < a.ready → n ≡ first_of a → slice_get a.slots.items 0 ≡ Some slot → slot.returned ≡ Some back → Some n ≡ front_number (state_of a)
front_ready a n slot back whole some first at filled =
    let answer = nth_slot a 0 n (Some slot) whole some first at in
    let number : n ≡ n + 0 = omega arith in
    ap Some number
    ∙ sym (ap (λ r. option_map (λ (o : Answer). o.number) (answer_of (outstanding_of (n + 0) (record { echo = slot.echo; returned = r })))) filled)
    ∙ ap (option_map (λ (o : Answer). o.number)) (sym answer)
