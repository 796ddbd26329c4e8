-- The outstanding list, as the ring's slots under their numbers.
use Rattle.std.proofs.Common.{◌≡◌, ℕ, zero, suc, ◌+◌, ◌<◌, Bool, true, false, ◌||◌, nat_eq, List, [], ◌∷◌, ◌++◌, length, map, take, drop, set, Option, Some, None, is_some, is_none, refl, ap, arith}
use Rattle.std.specs.List.{find, list_any, prefix_len, range_with_len, slice_get}
use Rattle.std.proofs.lemmas.Bool.Decides.{nat_tests}
use Rattle.std.specs.Option.{option_map, option_map_or}
use Rattle.ddr_address_map.specs.declared.request.Echo.{Echo}
use Rattle.ddr_reorder.specs.Replies.{has_number, is_filled}
use Rattle.ddr_reorder.specs.State.{Outstanding, is_awaited, filled}
use Rattle.ddr_reorder.specs.View.{has_line, waits_for, outstanding_of, numbered}
use Rattle.ddr_reorder.specs.declared.reply.Service.{Service}
use Rattle.ddr_reorder.specs.declared.slot.Returned.{Returned}
use Rattle.ddr_reorder.specs.declared.slot.Slot.{Slot}

pub length-numbered : (f : ℕ) (slots : List Slot) → length (numbered f slots) ≡ length slots
length-numbered f [] = refl
length-numbered f (slot ∷ slots) = ap suc (length-numbered (f + 1) slots)

pub map-numbered : (f : ℕ) (slots : List Slot) → map (λ (o : Outstanding). o.number) (numbered f slots) ≡ range_with_len f (length slots)
map-numbered f [] = refl
map-numbered f (slot ∷ slots) = ap (λ ns. f ∷ ns) (map-numbered (f + 1) slots)

pub numbered-append : (f n : ℕ) (xs ys : List Slot) → f + length xs ≡ n → numbered f (xs ++ ys) ≡ numbered f xs ++ numbered n ys
numbered-append f n [] ys e = let first : f ≡ n = omega arith in ap (λ m. numbered m ys) first
numbered-append f n (x ∷ xs) ys e = ap (λ os. outstanding_of f x ∷ os) (numbered-append (f + 1) n xs ys (omega arith))

pub slice_get-numbered : (f n : ℕ) (slots : List Slot) (k : ℕ) → f + k ≡ n → slice_get (numbered f slots) k ≡ option_map (outstanding_of n) (slice_get slots k)
slice_get-numbered f n [] k e = refl
slice_get-numbered f n (slot ∷ slots) zero e = let first : f ≡ n = omega arith in ap (λ m. Some (outstanding_of m slot)) first
slice_get-numbered f n (slot ∷ slots) (suc k) e = slice_get-numbered (f + 1) n slots k (omega arith)

pub take-numbered : (k f : ℕ) (slots : List Slot) → take k (numbered f slots) ≡ numbered f (take k slots)
take-numbered zero f slots = refl
take-numbered (suc k) f [] = refl
take-numbered (suc k) f (slot ∷ slots) = ap (λ os. outstanding_of f slot ∷ os) (take-numbered k (f + 1) slots)

pub drop-numbered : (k f n : ℕ) (slots : List Slot) → f + k ≡ n → drop k (numbered f slots) ≡ numbered n (drop k slots)
drop-numbered zero f n slots e = let first : f ≡ n = omega arith in ap (λ m. numbered m slots) first
drop-numbered (suc k) f n [] e = refl
drop-numbered (suc k) f n (slot ∷ slots) e = drop-numbered k (f + 1) n slots (omega arith)

is_filled-outstanding_of : (n : ℕ) (slot : Slot) → is_filled (outstanding_of n slot) ≡ has_line slot
is_filled-outstanding_of n slot = elim slot.returned as (λ l. is_some (option_map (λ b. b.line.value) l) ≡ is_some l) [ Some b ↦ refl | None ↦ refl ]

pub prefix_len-numbered : (f : ℕ) (slots : List Slot) → prefix_len is_filled (numbered f slots) ≡ prefix_len has_line slots
prefix_len-numbered f [] = refl
prefix_len-numbered f (slot ∷ slots) = rw (is_filled-outstanding_of f slot, prefix_len-numbered (f + 1) slots) refl

same_number : (m n : ℕ) → m ≡ n → nat_eq m n ≡ true
same_number m n e = grind (arith, nat_tests)

other_number : (m n : ℕ) → n < m → nat_eq m n ≡ false
other_number m n h = grind (arith, nat_tests)

filled-other : (number : ℕ) (service : Service) (line : List ℕ) (o : Outstanding) → nat_eq o.number number ≡ false → filled number service line o ≡ o
filled-other number service line o e = rw e refl

filled-same : (number : ℕ) (service : Service) (line : List ℕ) (o : Outstanding) → nat_eq o.number number ≡ true → filled number service line o ≡ record o { line = Some line; service = Some service }
filled-same number service line o e = rw e refl

-- no slot has a number below the first
map-filled_below : (number : ℕ) (service : Service) (line : List ℕ) (f : ℕ) (slots : List Slot) → number < f → map (filled number service line) (numbered f slots) ≡ numbered f slots
map-filled_below number service line f [] below = refl
map-filled_below number service line f (slot ∷ slots) below =
    let here = filled-other number service line (outstanding_of f slot) (other_number f number below) in
    let rest = map-filled_below number service line (f + 1) slots (omega arith) in
    rw (here, rest) refl

-- a line that has come back stands in its slot
pub numbered-set : (number f : ℕ) (slots : List Slot) (i : ℕ) (old : Slot) (back : Returned) → f + i ≡ number → slice_get slots i ≡ Some old → numbered f (set slots i (record { echo = old.echo; returned = Some back })) ≡ map (filled number back.service back.line.value) (numbered f slots)
numbered-set number f [] i old back e at = refl
numbered-set number f (slot ∷ slots) zero old back e at =
    let same : slot ≡ old = cc in
    let here = filled-same number back.service back.line.value (outstanding_of f slot) (same_number f number (omega arith)) in
    let rest = map-filled_below number back.service back.line.value (f + 1) slots (omega arith) in
    rw (here, rest, same) refl
numbered-set number f (slot ∷ slots) (suc i) old back e at =
    let here = filled-other number back.service back.line.value (outstanding_of f slot) (grind (arith, nat_tests)) in
    let rest = numbered-set number (f + 1) slots i old back (omega arith) at in
    rw (here, rest) refl

or_false : (b : Bool) → (b || false) ≡ b
or_false true = refl
or_false false = refl

is_none-option_map : (o : Option Returned) → is_none (option_map (λ b. b.line.value) o) ≡ is_none o
is_none-option_map (Some b) = refl
is_none-option_map None = refl

-- no slot waits for a number below the first
pub awaited_below : (number : ℕ) (echo : Echo) (f : ℕ) (slots : List Slot) → number < f → list_any (is_awaited number echo) (numbered f slots) ≡ false
awaited_below number echo f [] below = refl
awaited_below number echo f (slot ∷ slots) below =
    rw (other_number f number below, awaited_below number echo (f + 1) slots (omega arith)) refl

-- a number is awaited where its slot waits
pub awaited_at : (number : ℕ) (echo : Echo) (f : ℕ) (slots : List Slot) (i : ℕ) → f + i ≡ number → list_any (is_awaited number echo) (numbered f slots) ≡ option_map_or (waits_for echo) (slice_get slots i) false
awaited_at number echo f [] i e = refl
awaited_at number echo f (slot ∷ slots) zero e =
    rw (same_number f number (omega arith), awaited_below number echo (f + 1) slots (omega arith), is_none-option_map slot.returned) (or_false _)
awaited_at number echo f (slot ∷ slots) (suc i) e =
    let off : nat_eq f number ≡ false = grind (arith, nat_tests) in
    rw off (awaited_at number echo (f + 1) slots i (omega arith))

-- no slot has a number below the first
pub found_below : (number f : ℕ) (slots : List Slot) → number < f → find (has_number number) (numbered f slots) ≡ None
found_below number f [] below = refl
found_below number f (slot ∷ slots) below = rw (other_number f number below) (found_below number (f + 1) slots (omega arith))

-- a number has the slot at its distance from the first
pub found_at : (number f : ℕ) (slots : List Slot) (i : ℕ) → f + i ≡ number → find (has_number number) (numbered f slots) ≡ option_map (outstanding_of number) (slice_get slots i)
found_at number f [] i e = refl
found_at number f (slot ∷ slots) zero e =
    let first : f ≡ number = omega arith in
    rw (same_number f number first) (ap (λ n. Some (outstanding_of n slot)) first)
found_at number f (slot ∷ slots) (suc i) e =
    let off : nat_eq f number ≡ false = grind (arith, nat_tests) in
    rw off (found_at number (f + 1) slots i (omega arith))
