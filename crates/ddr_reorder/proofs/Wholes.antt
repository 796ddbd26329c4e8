-- What the fields of a reorder buffer keep, and what every state has of it.
use Rattle.std.proofs.Common.{◌≡◌, Bool, cond, nat_eq, ℕ, zero, suc, ◌+◌, ◌-◌, ◌<◌, ◌≤◌, List, [], ◌∷◌, ◌++◌, length, take, drop, Option, Some, None, is_some, IsSomeAnd, vec_len, vec_capacity, refl, sym, ap, subst, ◌∙◌, arith}
use Rattle.std.specs.List.{AllByRecursion, prefix_len, slice_get}
use Rattle.std.specs.Option.{option_map}
use Rattle.std.proofs.lemmas.Bool.{ne_eqb}
use Rattle.std.proofs.lemmas.List.{length_push, length-drop, length-take-le, take_at}
use Rattle.std.proofs.lemmas.List.Sums.{prefix_len-le-length}
use Rattle.std.proofs.lemmas.Option.{slice_get_within}
use Rattle.std.proofs.lemmas.List.Elements.{All-from_recursion}
use Rattle.circular_buffer.proofs.Places.{slice_get-append_right}
use Rattle.circular_buffer.specs.Buffer.{Buffer, buffer}
use Rattle.ddr_timing.specs.declared.units.TheConstants.{CLOCK_STOP}
use Rattle.ddr_address_map.specs.declared.request.Echo.{Echo}
use Rattle.ddr_reorder.specs.Sound.{IsSound}
use Rattle.ddr_reorder.specs.declared.refusal.ReorderError.TheVariants.{WindowFull}
use Rattle.ddr_reorder.specs.State.{Outstanding, ReorderState, IsWithinLine, IsRecallable, issue_refusal, after_issue, newest, after_recall, after_release}
use Rattle.ddr_reorder.specs.View.{has_line, outstanding_of, numbered, state_of, IsWithin, IsWhole}
use Rattle.ddr_reorder.specs.declared.reorder.Reorder.TheInside.{Inside}
use Rattle.ddr_reorder.specs.declared.slot.Returned.{Returned}
use Rattle.ddr_reorder.specs.declared.slot.Slot.{Slot}
use Rattle.ddr_reorder.proofs.Numbered.{length-numbered, map-numbered, numbered-append, slice_get-numbered, take-numbered, drop-numbered}
use Rattle.ddr_reorder.proofs.Prefix.{prefix_len-push, prefix_len-drop, split_last}

-- what holds of every slot holds of every outstanding number
all-numbered : (P : Slot → Type 0) (Q : Outstanding → Type 0) → ((n : ℕ) (slot : Slot) → P slot → Q (outstanding_of n slot)) → (f : ℕ) (slots : List Slot) → AllByRecursion P slots → AllByRecursion Q (numbered f slots)
all-numbered P Q gives f [] all = tt
all-numbered P Q gives f (slot ∷ slots) all = (gives f slot all.0, all-numbered P Q gives (f + 1) slots all.1)

pub sound_whole : (a : Inside) → IsWhole a → IsSound (state_of a)
sound_whole a whole =
    let slots = a.slots.items in
    let first = a.next - length slots in
    let len = length-numbered first slots in
    record {
      numbers = rw len (map-numbered first slots);
      begun = rw len whole.begun;
      spent = whole.spent;
      window = rw len (omega (arith, whole.boxes));
      within_line = All-from_recursion (λ o. IsWithinLine o.echo) _ (all-numbered IsWithin (λ o. IsWithinLine o.echo) (λ n slot within. within) first slots whole.within_line);
    }

-- the number of the oldest, and the next one
pub first_next : (a : Inside) → IsWhole a → (a.next - length a.slots.items) + length (state_of a).outstanding ≡ a.next
first_next a whole = omega (arith, length-numbered (a.next - length a.slots.items) a.slots.items, whole.begun)

-- with no slot, and as many boxes as the ring has room for
pub whole_opened : (a : Inside) → a.slots ≡ buffer [] a.slots.capacity → a.ready ≡ 0 → a.next ≤ CLOCK_STOP → vec_len a.spares ≡ a.slots.capacity → a.slots.capacity ≤ vec_capacity a.spares → IsWhole a
whole_opened a empty none spent boxes room =
    let items = ap (λ (b : Buffer Slot). b.items) empty in
    let no_slots = ap (λ (xs : List Slot). length xs) items in
    record {
      begun = omega arith;
      spent = spent;
      within_line = subst (AllByRecursion IsWithin) (sym items) tt;
      ready = none ∙ ap (prefix_len has_line) (sym items);
      boxes = omega arith;
      room = room;
    }

within_push : (slots : List Slot) (slot : Slot) → AllByRecursion IsWithin slots → IsWithin slot → AllByRecursion IsWithin (slots ++ slot ∷ [])
within_push [] slot all fit = (fit, tt)
within_push (first ∷ slots) slot all fit = (all.0, within_push slots slot all.1 fit)

-- a slot for a number that was just issued
abbrev pub issued_slot : Echo → Slot
issued_slot echo = record { echo = echo; returned = None }

-- one more slot, and one box less
pub whole_issued : (a b : Inside) (echo : Echo) → IsWhole a → a.next < CLOCK_STOP → IsWithinLine echo → b.next ≡ a.next + 1 → b.ready ≡ a.ready → b.slots ≡ buffer (a.slots.items ++ issued_slot echo ∷ []) a.slots.capacity → vec_len b.spares + 1 ≡ vec_len a.spares → vec_capacity b.spares ≡ vec_capacity a.spares → IsWhole b
whole_issued a b echo whole left within next ready slots taken room =
    let items = ap (λ (r : Buffer Slot). r.items) slots in
    let capacity = ap (λ (r : Buffer Slot). r.capacity) slots in
    let more = ap (λ (xs : List Slot). length xs) items ∙ length_push a.slots.items (issued_slot echo) in
    record {
      begun = omega (arith, whole.begun);
      spent = omega arith;
      within_line = subst (AllByRecursion IsWithin) (sym items) (within_push a.slots.items (issued_slot echo) whole.within_line within);
      ready = ready ∙ whole.ready ∙ sym (prefix_len-push has_line a.slots.items (issued_slot echo) refl) ∙ ap (prefix_len has_line) (sym items);
      boxes = omega (arith, whole.boxes);
      room = omega (arith, whole.room);
    }

-- the next number stands behind the others
pub state_issued : (a b : Inside) (echo : Echo) → IsWhole a → b.next ≡ a.next + 1 → b.slots ≡ buffer (a.slots.items ++ issued_slot echo ∷ []) a.slots.capacity → state_of b ≡ after_issue echo (state_of a)
state_issued a b echo whole next slots =
    let old = a.slots.items in
    let first = a.next - length old in
    let more = length_push old (issued_slot echo) in
    let behind = numbered-append first a.next old (issued_slot echo ∷ []) (omega (arith, whole.begun)) in
    let same : a.next + 1 - length (old ++ issued_slot echo ∷ []) ≡ first = omega arith in
    rw (slots, next, same, behind) refl

-- no number is issued where the ring is full
pub refusal_whole : (a : Inside) (full : Bool) → (a.next ≡ CLOCK_STOP → ⊥) → full ≡ nat_eq (length a.slots.items) a.slots.capacity → issue_refusal (state_of a) ≡ cond full (Some WindowFull) None
refusal_whole a full left is_full =
    rw (ne_eqb a.next CLOCK_STOP left, length-numbered (a.next - length a.slots.items) a.slots.items, sym is_full) refl

-- the newest number is that of the last slot, whose line has yet to come back
pub record IsLast (a : Inside) (number : ℕ) (slot : Slot) : Type 0 where
  pub some : length a.slots.items ≡ (length a.slots.items - 1) + 1
  pub there : slice_get a.slots.items (length a.slots.items - 1) ≡ Some slot
  pub unfilled : slot.returned ≡ None
  pub numbered : number + 1 ≡ a.next

no_line : (o : Option Returned) → option_map (λ b. b.line.value) o ≡ None → o ≡ None
no_line (Some b) e = absurd (cc)
no_line None e = refl

pub last_slot : (a : Inside) (number : ℕ) → IsWhole a → IsRecallable (state_of a) number → (slot : Slot) × IsLast a number slot
last_slot a number whole h =
    let items = a.slots.items in
    let k = length items - 1 in
    let first = a.next - length items in
    let at : newest (state_of a) ≡ option_map (outstanding_of (first + k)) (slice_get items k) =
    rw (length-numbered first items) (slice_get-numbered first (first + k) items k refl) in
    by_slot (slice_get items k) refl (subst (λ o. IsSomeAnd o (λ o. (o.number ≡ number) × (o.line ≡ None))) at h)
  where
    by_slot : (o : Option Slot) → slice_get a.slots.items (length a.slots.items - 1) ≡ o → IsSomeAnd (option_map (outstanding_of (a.next - length a.slots.items + (length a.slots.items - 1))) o) (λ o. (o.number ≡ number) × (o.line ≡ None)) → (slot : Slot) × IsLast a number slot
    by_slot None e h = absurd h
    by_slot (Some slot) e h =
        let within = slice_get_within a.slots.items (length a.slots.items - 1) slot e in
        (slot, record { some = omega arith; there = e; unfilled = no_line slot.returned h.1; numbered = omega (arith, h.0, whole.begun) })

within_take : (k : ℕ) (slots : List Slot) → AllByRecursion IsWithin slots → AllByRecursion IsWithin (take k slots)
within_take zero slots all = tt
within_take (suc k) [] all = tt
within_take (suc k) (slot ∷ slots) all = (all.0, within_take k slots all.1)

-- without the last slot, and with one box more
pub whole_recalled : (a b : Inside) (slot : Slot) → IsWhole a → IsLast a b.next slot → b.ready ≡ a.ready → b.slots ≡ buffer (take (length a.slots.items - 1) a.slots.items) a.slots.capacity → vec_len b.spares ≡ vec_len a.spares + 1 → vec_capacity a.spares ≤ vec_capacity b.spares → IsWhole b
whole_recalled a b slot whole last ready slots more room =
    let old = a.slots.items in
    let k = length old - 1 in
    let items = ap (λ (r : Buffer Slot). r.items) slots in
    let capacity = ap (λ (r : Buffer Slot). r.capacity) slots in
    let fewer = ap (λ (xs : List Slot). length xs) items ∙ length-take-le k old (omega arith) in
    let split = split_last old k slot last.some last.there in
    let unfilled = prefix_len-push has_line (take k old) slot (ap is_some last.unfilled) in
    record {
      begun = omega (arith, whole.begun, last.some, last.numbered);
      spent = omega (arith, whole.spent, last.numbered);
      within_line = subst (AllByRecursion IsWithin) (sym items) (within_take k old whole.within_line);
      ready = ready ∙ whole.ready ∙ ap (prefix_len has_line) split ∙ unfilled ∙ ap (prefix_len has_line) (sym items);
      boxes = omega (arith, whole.boxes, last.some);
      room = omega (arith, whole.room);
    }

-- the newest number is gone
pub state_recalled : (a b : Inside) (slot : Slot) → IsWhole a → IsLast a b.next slot → b.slots ≡ buffer (take (length a.slots.items - 1) a.slots.items) a.slots.capacity → state_of b ≡ after_recall (state_of a)
state_recalled a b slot whole last slots =
    let old = a.slots.items in
    let k = length old - 1 in
    let first = a.next - length old in
    let fewer = length-take-le k old (omega arith) in
    let next : b.next ≡ a.next - 1 = omega (arith, last.numbered) in
    let same : a.next - 1 - length (take k old) ≡ first = omega (arith, fewer, last.some, whole.begun) in
    rw (slots, next, same, length-numbered first old, take-numbered k first old) refl

-- a number that was just issued is the newest
recallable-issue : (s : ReorderState) (echo : Echo) → IsRecallable (after_issue echo s) s.next
recallable-issue s echo =
    let last : Outstanding = record { number = s.next; echo = echo; line = None; service = None } in
    let one : length (s.outstanding ++ last ∷ []) - 1 ≡ length s.outstanding + 0 = omega (arith, length_push s.outstanding last) in
    let at = slice_get-append_right s.outstanding (last ∷ []) (length (s.outstanding ++ last ∷ []) - 1) 0 one in
    rw at (refl, refl)

pub recallable_issued : (s t : ReorderState) (echo : Echo) (number : ℕ) → t ≡ after_issue echo s → number ≡ s.next → IsRecallable t number
recallable_issued s t echo number after is = rw (after, is) (recallable-issue s echo)

-- to take the newest number back undoes its issue
pub recall-issue : (s : ReorderState) (echo : Echo) → after_recall (after_issue echo s) ≡ s
recall-issue s echo =
    let newest : Outstanding = record { number = s.next; echo = echo; line = None; service = None } in
    let next : s.next + 1 - 1 ≡ s.next = omega arith in
    let one : length (s.outstanding ++ newest ∷ []) - 1 ≡ length s.outstanding = omega (arith, length_push s.outstanding newest) in
    let rest = take_at s.outstanding (newest ∷ []) (length s.outstanding) refl in
    rw (next, one, rest) refl

within_rest : (slots : List Slot) → AllByRecursion IsWithin slots → AllByRecursion IsWithin (drop 1 slots)
within_rest [] all = tt
within_rest (slot ∷ slots) all = all.1

-- without the first slot, which is ready, and with one box more
pub whole_released : (a b : Inside) → IsWhole a → 0 < a.ready → b.next ≡ a.next → b.ready ≡ a.ready - 1 → b.slots ≡ buffer (drop 1 a.slots.items) a.slots.capacity → vec_len b.spares ≡ vec_len a.spares + 1 → vec_capacity a.spares ≤ vec_capacity b.spares → IsWhole b
whole_released a b whole some next ready slots more room =
    let old = a.slots.items in
    let items = ap (λ (r : Buffer Slot). r.items) slots in
    let capacity = ap (λ (r : Buffer Slot). r.capacity) slots in
    let fewer = ap (λ (xs : List Slot). length xs) items ∙ length-drop 1 old in
    let within = prefix_len-le-length has_line old in
    let rest = prefix_len-drop has_line old (omega (arith, whole.ready)) in
    record {
      begun = omega (arith, whole.begun);
      spent = omega (arith, whole.spent);
      within_line = subst (AllByRecursion IsWithin) (sym items) (within_rest old whole.within_line);
      ready = ready ∙ ap (λ n. n - 1) whole.ready ∙ sym rest ∙ ap (prefix_len has_line) (sym items);
      boxes = omega (arith, whole.boxes, whole.ready);
      room = omega (arith, whole.room);
    }

-- the oldest number is gone
pub state_released : (a b : Inside) → IsWhole a → 0 < a.ready → b.next ≡ a.next → b.slots ≡ buffer (drop 1 a.slots.items) a.slots.capacity → state_of b ≡ after_release (state_of a)
state_released a b whole some next slots =
    let old = a.slots.items in
    let first = a.next - length old in
    let within = prefix_len-le-length has_line old in
    let count : 0 < length old = omega (arith, whole.ready) in
    let fewer = length-drop 1 old in
    let same : first + 1 ≡ a.next - length (drop 1 old) = omega (arith, whole.begun) in
    rw (slots, next) (ap (λ os. record { window = a.slots.capacity; next = a.next; outstanding = os }) (sym (drop-numbered 1 first (a.next - length (drop 1 old)) old same)))
