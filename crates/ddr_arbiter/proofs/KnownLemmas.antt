-- Lemmas on the tables of banks that the candidates are gone through with.
use Rattle.std.proofs.Common.{◌≡◌, ◌≢◌, ℕ, zero, suc, ◌<◌, true, false, eqb, List, length, set, get_or, replicate, Option, Some, None, refl, sym, ap, ◌∙◌, inl, inr, arith, All}
use Rattle.std.specs.List.{slice_get}
use Rattle.std.proofs.lemmas.Bool.{cases_Bool, cases_eq, eqb-true, ne_eqb, false≢true, true≢false}
use Rattle.std.proofs.lemmas.List.{get_or-set_same, get_or-set_other, length-set}
use Rattle.std.proofs.lemmas.List.Elements.{All-get_or}
use Rattle.std.proofs.lemmas.Option.{slice_get-get_or, get_or_from_slice_get, slice_get_within}
use Rattle.ddr_trace.specs.Banks.{is_row}
use Rattle.ddr_legality.specs.Bus.{Bus, is_legal_now, open_row_now}
use Rattle.ddr_trace.specs.declared.command.Command.TheVariants.{Pre}
use Rattle.ddr_address_map.specs.declared.place.Place.{Place}
use Rattle.ddr_address_map.specs.declared.request.Kind.{Kind}
use Rattle.ddr_address_map.specs.declared.request.Kind.TheVariants.{Read, Write}
use Rattle.ddr_hazards.specs.declared.waiting.Waiting.{Waiting}
use Rattle.ddr_hazards.specs.Banks.{bank_number}
use Rattle.ddr_hazards.specs.PendingList.{IsInRank}
use Rattle.ddr_arbiter.specs.Choice.{is_row_open, open_row_at}
use Rattle.ddr_arbiter.specs.Commands.{column_at}
use Rattle.ddr_arbiter.specs.Known.{AreInOneBank}
use Rattle.ddr_arbiter.proofs.CommandLemmas.{closed_no_column, first_line, first_line_legal}

-- two places with one number are in one bank
same_bank : (p q : Place) → IsInRank p → IsInRank q → bank_number p ≡ bank_number q → AreInOneBank p q
same_bank p q in_p in_q same =
    (omega (arith, in_p.0, in_q.0, in_p.1, in_q.1, same), omega (arith, in_p.0, in_q.0, in_p.1, in_q.1, same), omega (arith, in_p.0, in_q.0, in_p.1, in_q.1, same))

pub number_below : (p : Place) → IsInRank p → bank_number p < 32
number_below p inside = omega (arith, inside.0, inside.1, inside.2)

-- a pending request lies in the rank
pub in_rank_at : (waiting : List Waiting) (place : ℕ) (w : Waiting) → All (λ w. IsInRank w.request.place) waiting → slice_get waiting place ≡ Some w → IsInRank w.request.place
in_rank_at waiting place w inside found =
    let w_is : get_or waiting place w ≡ w = get_or_from_slice_get waiting place w w found in
    rw w_is at (All-get_or (λ w. IsInRank w.request.place) waiting place w (slice_get_within waiting place w found) inside)

-- a table in which one entry is changed

entry_here : {X : Type 0} (xs : List X) (n k : ℕ) (x : X) → n < length xs → k ≡ n → slice_get (set xs n x) k ≡ Some x
entry_here xs n k x within same =
    let inside : k < length (set xs n x) = rw (length-set xs n x) (rw same within) in
    let value : get_or (set xs n x) k x ≡ x = ap (λ (j : ℕ). get_or (set xs n x) j x) same ∙ get_or-set_same xs n x x within in
    slice_get-get_or (set xs n x) k x inside ∙ ap Some value

entry_other : {X : Type 0} (xs : List X) (n k : ℕ) (x : X) → k < length xs → k ≢ n → slice_get (set xs n x) k ≡ slice_get xs k
entry_other xs n k x within other =
    let inside : k < length (set xs n x) = rw (length-set xs n x) within in
    slice_get-get_or (set xs n x) k x inside ∙ ap Some (get_or-set_other xs n k x x other) ∙ sym (slice_get-get_or xs k x within)

-- what holds of the places of one bank for the new entry, and held of the others, holds of all
pub table_set : {X : Type 0} (P : Place → Option X → Type 0) (xs : List X) (n : ℕ) (at : Place) (x : X) → length xs ≡ 32 → n ≡ bank_number at → IsInRank at → ((p : Place) → AreInOneBank at p → P p (Some x)) →
    ((p : Place) → IsInRank p → P p (slice_get xs (bank_number p))) → (p : Place) → IsInRank p → P p (slice_get (set xs n x) (bank_number p))
table_set P xs n at x len is inside new old p in_p =
    let at_in : n < length xs = rw (len, is) (number_below at inside) in
    let p_in : bank_number p < length xs = rw len (number_below p in_p) in
    elim (cases_eq (bank_number p) n) [
      | inl same ↦ rw (entry_here xs n (bank_number p) x at_in same) (new p (same_bank at p inside in_p (sym is ∙ sym same)))
      | inr other ↦ rw (entry_other xs n (bank_number p) x p_in other) (old p in_p)
    ]

-- the entry of a place's bank
pub table_at : {X : Type 0} (P : Place → Option X → Type 0) (xs : List X) (n : ℕ) (at : Place) (x d : X) → length xs ≡ 32 → n ≡ bank_number at → IsInRank at →
    ((p : Place) → IsInRank p → P p (slice_get xs (bank_number p))) → get_or xs n d ≡ x → P at (Some x)
table_at P xs n at x d len is inside known entry =
    let at_in : bank_number at < length xs = rw len (number_below at inside) in
    let here : slice_get xs (bank_number at) ≡ Some x = slice_get-get_or xs (bank_number at) d at_in ∙ ap Some (ap (λ (k : ℕ). get_or xs k d) (sym is) ∙ entry) in
    rw here at (known at inside)

pub table_start : {X : Type 0} (P : Place → Option X → Type 0) (x : X) → ((p : Place) → P p (Some x)) → (p : Place) → IsInRank p → P p (slice_get (replicate 32 x) (bank_number p))
table_start P x new p in_p = rw (all_one 32 (bank_number p) (number_below p in_p)) (new p)
  where
    all_one : (n k : ℕ) → k < n → slice_get (replicate n x) k ≡ Some x
    all_one zero k within = absurd (omega arith)
    all_one (suc n) zero within = refl
    all_one (suc n) (suc k) within = all_one n k (omega (arith, within))

-- places of one bank

pub same_open_row : (b : Bus) (p q : Place) → AreInOneBank p q → open_row_at b q ≡ open_row_at b p
same_open_row b p q same =
    ap (λ (r : ℕ). open_row_now b (Pre r q.group q.bank)) (sym same.0) ∙ ap (λ (g : ℕ). open_row_now b (Pre p.rank g q.bank)) (sym same.1)
    ∙ ap (λ (k : ℕ). open_row_now b (Pre p.rank p.group k)) (sym same.2)

-- the place is of the row that is open there, or not
pub row_is : (b : Bus) (p : Place) (row : ℕ) → open_row_at b p ≡ Some row → is_row_open b p ≡ eqb row p.row
row_is b p row is = ap (λ o. is_row o p.row) is

pub no_row : (b : Bus) (p : Place) → open_row_at b p ≡ None → is_row_open b p ≡ false
no_row b p none = ap (λ o. is_row o p.row) none

-- where the first line of the open row is refused, so is each line of the bank

pub line_refused : (b : Bus) (kind : Kind) (p : Place) → is_legal_now b (column_at false kind (first_line p)) ≡ false → is_legal_now b (column_at false kind p) ≡ false
line_refused b kind p first = elim (cases_Bool (is_legal_now b (column_at false kind p))) [
  | inl legal ↦ absurd (true≢false (sym (first_line_legal b kind p legal) ∙ first))
  | inr not_legal ↦ not_legal
]

open_is : (b : Bus) (p : Place) (o : Option ℕ) → open_row_at b p ≡ o → is_row_open b p ≡ true → o ≡ Some p.row
open_is b p None is opened = absurd (false≢true (sym (no_row b p is) ∙ opened))
open_is b p (Some row) is opened = ap Some (eqb-true row p.row (sym (row_is b p row is) ∙ opened))

line_of : (kind : Kind) (p q : Place) → AreInOneBank p q → p.row ≡ q.row → column_at false kind (first_line q) ≡ column_at false kind (first_line p)
line_of Read p q same row = rw (same.0, same.1, same.2, row) refl
line_of Write p q same row = rw (same.0, same.1, same.2, row) refl

pub bank_refused : (b : Bus) (kind : Kind) (p : Place) → is_row_open b p ≡ true → is_legal_now b (column_at false kind (first_line p)) ≡ false →
    (q : Place) → AreInOneBank p q → is_legal_now b (column_at false kind q) ≡ false
bank_refused b kind p opened first q same =
    let is : open_row_at b q ≡ Some p.row = same_open_row b p q same ∙ open_is b p (open_row_at b p) refl opened in
    elim (cases_eq p.row q.row) [
      | inr other ↦ closed_no_column b kind q (row_is b q p.row is ∙ ne_eqb p.row q.row other)
      | inl row ↦ line_refused b kind q (ap (is_legal_now b) (line_of kind p q same row) ∙ first)
    ]
