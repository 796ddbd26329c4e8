-- A line that comes back, and the slot that waits for it.
use Rattle.std.proofs.Common.{◌≡◌, ℕ, zero, suc, ◌+◌, ◌<◌, Bool, true, false, ◌&&◌, nat_eq, List, [], ◌∷◌, length, set, Option, Some, None, is_none, refl, sym, ap, subst, ◌∙◌, arith}
use Rattle.std.specs.List.{AllByRecursion, prefix_len, slice_get}
use Rattle.std.specs.Option.{option_map_or}
use Rattle.std.proofs.lemmas.Bool.{and_parts, eqb-true, false≢true}
use Rattle.std.proofs.lemmas.List.{length-set}
use Rattle.circular_buffer.specs.Buffer.{Buffer, buffer}
use Rattle.ddr_address_map.specs.declared.request.Echo.{Echo}
use Rattle.ddr_address_map.specs.declared.request.Kind.{Kind}
use Rattle.ddr_address_map.specs.declared.request.Kind.TheVariants.{Read, Write}
use Rattle.ddr_reorder.specs.State.{IsWithinLine, is_same_kind, is_same_echo, awaits, after_fill}
use Rattle.ddr_reorder.specs.View.{has_line, waits_for, numbered, state_of, IsWithin, IsWhole}
use Rattle.ddr_reorder.specs.declared.reorder.Reorder.TheInside.{Inside}
use Rattle.ddr_reorder.specs.declared.slot.Returned.{Returned}
use Rattle.ddr_reorder.specs.declared.slot.Slot.{Slot}
use Rattle.ddr_reorder.proofs.Numbered.{awaited_at, awaited_below, numbered-set}
use Rattle.ddr_reorder.proofs.Ready.{first_of, within_at}

same_kind : (a b : Kind) → is_same_kind a b ≡ true → a ≡ b
same_kind Read Read e = refl
same_kind Write Write e = refl
same_kind Read Write e = absurd (false≢true e)
same_kind Write Read e = absurd (false≢true e)

-- echoes that pass the test are one
pub same_echo : (a b : Echo) → is_same_echo a b ≡ true → a ≡ b
same_echo a b e =
    let len = and_parts (is_same_kind a.kind b.kind && nat_eq a.addr b.addr) (nat_eq a.len b.len) e in
    let addr = and_parts (is_same_kind a.kind b.kind) (nat_eq a.addr b.addr) len.0 in
    rw (same_kind a.kind b.kind addr.0, eqb-true a.addr b.addr addr.1, eqb-true a.len b.len len.1) refl

-- a slot that waits for a line with this echo
pub record IsWaiting (a : Inside) (i : ℕ) (echo : Echo) (slot : Slot) : Type 0 where
  pub there : slice_get a.slots.items i ≡ Some slot
  pub echo_is : slot.echo ≡ echo

pub waiting_slot : (a : Inside) (i : ℕ) (echo : Echo) → true ≡ option_map_or (waits_for echo) (slice_get a.slots.items i) false → (slot : Slot) × IsWaiting a i echo slot
waiting_slot a i echo waits = by_slot (slice_get a.slots.items i) refl waits
  where
    by_slot : (o : Option Slot) → slice_get a.slots.items i ≡ o → true ≡ option_map_or (waits_for echo) o false → (slot : Slot) × IsWaiting a i echo slot
    by_slot None e waits = absurd (false≢true (sym waits))
    by_slot (Some slot) e waits =
        let parts = and_parts (is_same_echo slot.echo echo) (is_none slot.returned) (sym waits) in
        (slot, record { there = e; echo_is = same_echo slot.echo echo parts.0 })

-- a slot with what came back for it
abbrev pub filled_slot : Echo → Returned → Slot
filled_slot echo back = record { echo = echo; returned = Some back }

within_set : (slots : List Slot) (i : ℕ) (slot : Slot) → AllByRecursion IsWithin slots → IsWithin slot → AllByRecursion IsWithin (set slots i slot)
within_set [] i slot all within = tt
within_set (first ∷ slots) zero slot all within = (within, all.1)
within_set (first ∷ slots) (suc i) slot all within = (all.0, within_set slots i slot all.1 within)

-- a line stands in the slot that waited for it
pub whole_filled : (a b : Inside) (i : ℕ) (echo : Echo) (slot : Slot) (back : Returned) → IsWhole a → IsWaiting a i echo slot → b.next ≡ a.next → b.slots ≡ buffer (set a.slots.items i (filled_slot echo back)) a.slots.capacity → b.ready ≡ prefix_len has_line b.slots.items → b.spares ≡ a.spares → IsWhole b
whole_filled a b i echo slot back whole waiting next slots ready spares =
    let old = a.slots.items in
    let items = ap (λ (r : Buffer Slot). r.items) slots in
    let capacity = ap (λ (r : Buffer Slot). r.capacity) slots in
    let count = ap (λ (xs : List Slot). length xs) items ∙ length-set old i (filled_slot echo back) in
    let within = subst IsWithinLine waiting.echo_is (within_at old i slot whole.within_line waiting.there) in
    record {
      begun = omega (arith, whole.begun);
      spent = omega (arith, whole.spent);
      within_line = subst (AllByRecursion IsWithin) (sym items) (within_set old i (filled_slot echo back) whole.within_line within);
      ready = ready;
      boxes = rw (spares, count, capacity) whole.boxes;
      room = rw (spares, capacity) whole.room;
    }

-- the number has its line, and all else is as it was
pub state_filled : (a b : Inside) (number i : ℕ) (echo : Echo) (slot : Slot) (back : Returned) → IsWaiting a i echo slot → first_of a + i ≡ number → b.next ≡ a.next → b.slots ≡ buffer (set a.slots.items i (filled_slot echo back)) a.slots.capacity → state_of b ≡ after_fill number back.service back.line.value (state_of a)
state_filled a b number i echo slot back waiting at next slots =
    let old = a.slots.items in
    let count = length-set old i (filled_slot echo back) in
    let filled = ap (λ e. numbered (first_of a) (set old i (filled_slot e back))) (sym waiting.echo_is) ∙ numbered-set number (first_of a) old i slot back at waiting.there in
    rw (slots, next, count, filled) refl

-- a number is awaited where its slot waits
pub awaits_at : (a : Inside) (number i : ℕ) (echo : Echo) (b : Bool) → first_of a + i ≡ number → b ≡ option_map_or (waits_for echo) (slice_get a.slots.items i) false → b ≡ awaits (state_of a) number echo
awaits_at a number i echo b at waits = waits ∙ sym (awaited_at number echo (first_of a) a.slots.items i at)

-- no number before the oldest is awaited
pub awaits_below : (a : Inside) (number : ℕ) (echo : Echo) → number < first_of a → false ≡ awaits (state_of a) number echo
awaits_below a number echo below = sym (awaited_below number echo (first_of a) a.slots.items below)
