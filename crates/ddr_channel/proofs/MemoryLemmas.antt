-- Lemmas on what requests leave in a line.
use Rattle.std.proofs.Common.{◌≡◌, ℕ, zero, suc, ◌+◌, ◌<◌, ◌≤◌, Bool, true, false, ◌&&◌, cond, eqb, List, [], ◌∷◌, ◌++◌, map, get_or, refl, sym, ap, ap₂, ◌∙◌, arith}
use Rattle.std.specs.List.{fold, list_any, range_with_len}
use Rattle.std.proofs.lemmas.Bool.{eq-eqb, eqb-true, and_parts}
use Rattle.std.specs.Int.{bit_at}
use Rattle.std.proofs.lemmas.List.FromFn.{get_or-map-range_with_len}
use Rattle.std.proofs.lemmas.List.Sums.{fold-append}
use Rattle.ddr_address_map.specs.declared.request.Kind.{Kind}
use Rattle.ddr_address_map.specs.declared.request.Kind.TheVariants.{Read, Write}
use Rattle.ddr_address_map.specs.Requests.{Request}
use Rattle.ddr_row_array.specs.Merge.{merged}
use Rattle.ddr_channel.specs.Cycle.{line_served, cells_after}
use Rattle.ddr_channel.specs.Memory.{LineAddress, line_of, is_same_line, is_write_kind, writes_byte, byte_over, line_over, line_after}
use Rattle.ddr_channel.proofs.ListLemmas.{neither, list_any-narrower}

-- one line is one rank, group, bank, row and line of the row

pub same_parts : (a b : LineAddress) → is_same_line a b ≡ true → a ≡ b
same_parts a b same =
    let ranks = and_parts (eqb a.rank b.rank) (eqb a.group b.group && (eqb a.bank b.bank && (eqb a.row b.row && eqb a.line b.line))) same in
    let groups = and_parts (eqb a.group b.group) (eqb a.bank b.bank && (eqb a.row b.row && eqb a.line b.line)) ranks.1 in
    let banks = and_parts (eqb a.bank b.bank) (eqb a.row b.row && eqb a.line b.line) groups.1 in
    let rows = and_parts (eqb a.row b.row) (eqb a.line b.line) banks.1 in
    ap₂ (λ (rank group : ℕ). at rank group a.bank a.row a.line) (eqb-true a.rank b.rank ranks.0) (eqb-true a.group b.group groups.0)
    ∙ ap₂ (λ (bank row : ℕ). at b.rank b.group bank row a.line) (eqb-true a.bank b.bank banks.0) (eqb-true a.row b.row rows.0)
    ∙ ap (λ (line : ℕ). at b.rank b.group b.bank b.row line) (eqb-true a.line b.line rows.1)
  where
    at : (rank group bank row line : ℕ) → LineAddress
    at rank group bank row line = record { rank = rank; group = group; bank = bank; row = row; line = line }

pub itself : (a : LineAddress) → is_same_line a a ≡ true
itself a = rw (eq-eqb a.rank a.rank refl, eq-eqb a.group a.group refl, eq-eqb a.bank a.bank refl, eq-eqb a.row a.row refl, eq-eqb a.line a.line refl) refl

-- two functions that agree on a range list the same there
pub map-range_same : {X : Type 0} (f g : ℕ → X) (a n : ℕ) → ((i : ℕ) → a ≤ i → i < a + n → f i ≡ g i) → map f (range_with_len a n) ≡ map g (range_with_len a n)
map-range_same f g a zero agree = refl
map-range_same f g a (suc n) agree =
    ap₂ ◌∷◌ (agree a (omega arith) (omega arith)) (map-range_same f g (a + 1) n (λ i low high. agree i (omega arith) (omega arith)))

-- a byte after some requests, and then others
pub byte_over-append : (before : ℕ) (xs ys : List Request) (address : LineAddress) (i : ℕ) → byte_over before (xs ++ ys) address i ≡ byte_over (byte_over before xs address i) ys address i
byte_over-append before xs ys address i = fold-append _ before xs ys

-- requests over what others left are those requests after the others
pub line_over-line_after : (xs ys : List Request) (address : LineAddress) → line_over (line_after xs address) ys address ≡ line_after (xs ++ ys) address
line_over-line_after xs ys address = map-range_same _ _ 0 64 (λ i low high.
    ap (λ byte. byte_over byte ys address i) (get_or-map-range_with_len (λ j. byte_over 0 xs address j) 0 64 i i 0 high (omega arith))
    ∙ sym (byte_over-append 0 xs ys address i))

-- requests, one list after another
pub line_over-append : (before : List ℕ) (xs ys : List Request) (address : LineAddress) → line_over (line_over before xs address) ys address ≡ line_over before (xs ++ ys) address
line_over-append before xs ys address = map-range_same _ _ 0 64 (λ i low high.
    ap (λ byte. byte_over byte ys address i) (get_or-map-range_with_len (λ j. byte_over (get_or before j 0) xs address j) 0 64 i i 0 high (omega arith))
    ∙ sym (byte_over-append (get_or before i 0) xs ys address i))

-- a command of a line's first request

-- what writes replace, one after another
abbrev over : {X : Type 0} → (X → Bool) → (X → ℕ) → ℕ → List X → ℕ
over writes value before xs = fold (λ byte x. cond (writes x) (value x) byte) before xs

kept_over : {X : Type 0} (writes : X → Bool) (value : X → ℕ) (before : ℕ) (xs : List X) → list_any writes xs ≡ false → over writes value before xs ≡ before
kept_over writes value before [] none = refl
kept_over writes value before (x ∷ xs) none =
    let parts = neither (writes x) (list_any writes xs) none in
    rw (parts.0) (kept_over writes value before xs parts.1)

-- a write comes to the same before others that don't write as behind them
moved : {X : Type 0} (writes : X → Bool) (value : X → ℕ) (before : ℕ) (xs ys : List X) (x : X) → (writes x ≡ true → list_any writes xs ≡ false) →
    over writes value (over writes value before (x ∷ [])) (xs ++ ys) ≡ over writes value before (xs ++ x ∷ ys)
moved writes value before xs ys x first =
    fold-append _ (over writes value before (x ∷ [])) xs ys
    ∙ ap (λ byte. over writes value byte ys) (by_write (writes x) refl)
    ∙ sym (fold-append _ before xs (x ∷ ys))
  where
    by_write : (w : Bool) → writes x ≡ w → over writes value (over writes value before (x ∷ [])) xs ≡ cond (writes x) (value x) (over writes value before xs)
    by_write true is = rw is (kept_over writes value (value x) xs (first is))
    by_write false is = rw is refl

-- no request of the list is to the line
abbrev pub NoneTo : LineAddress → List Request → Type 0
NoneTo address xs = list_any (λ r. is_same_line address (line_of r.place)) xs ≡ false

not_written : (address : LineAddress) (i : ℕ) (r : Request) → is_same_line address (line_of r.place) ≡ false → writes_byte address i r ≡ false
not_written address i r elsewhere = rw elsewhere (out (is_write_kind r.echo.kind))
  where
    out : (w : Bool) → ((w && false) && eqb (bit_at r.mask i) 1) ≡ false
    out true = refl
    out false = refl

none_written : (address : LineAddress) (i : ℕ) (xs : List Request) → NoneTo address xs → list_any (writes_byte address i) xs ≡ false
none_written address i xs none = list_any-narrower (λ r. is_same_line address (line_of r.place)) (writes_byte address i) xs (not_written address i) none

written_there : (address : LineAddress) (i : ℕ) (r : Request) → writes_byte address i r ≡ true → is_same_line address (line_of r.place) ≡ true
written_there address i r written =
    (and_parts (is_write_kind r.echo.kind) (is_same_line address (line_of r.place)) (and_parts (is_write_kind r.echo.kind && is_same_line address (line_of r.place)) (eqb (bit_at r.mask i) 1) written).0).1

-- what a column command does to a byte of a line is what its request does, by its kind and by whether it is to this line
serve_one : (kind : Kind) (same : Bool) (mask : ℕ) (line old : List ℕ) (i : ℕ) → i < 64 →
    get_or (cond same (line_served kind old (merged mask line old)) old) i 0
    ≡ cond ((is_write_kind kind && same) && eqb (bit_at mask i) 1) (get_or line i 0) (get_or old i 0)
unfolding merged
serve_one Read true mask line old i within = refl
serve_one Read false mask line old i within = refl
serve_one Write false mask line old i within = refl
serve_one Write true mask line old i within =
    get_or-map-range_with_len (λ j. cond (eqb (bit_at mask j) 1) (get_or line j 0) (get_or old j 0)) 0 64 i i 0 within (omega arith)

-- the bytes of a line where a request to it is served before others, none of them to its line
pub serve_line : (r : Request) (bytes : LineAddress → List ℕ) (xs ys : List Request) (address : LineAddress) →
    (is_same_line address (line_of r.place) ≡ true → NoneTo address xs) →
    line_over (cells_after r bytes address) (xs ++ ys) address ≡ line_over (bytes address) (xs ++ r ∷ ys) address
serve_line r bytes xs ys address first = map-range_same _ _ 0 64 (λ i low high.
    ap (λ byte. byte_over byte (xs ++ ys) address i) (serve_one r.echo.kind (is_same_line address (line_of r.place)) r.mask r.line (bytes address) i high)
    ∙ moved (writes_byte address i) (λ q. get_or q.line i 0) (get_or (bytes address) i 0) xs ys r
    (λ written. none_written address i xs (first (written_there address i r written))))

-- a line of which a list of requests has none
pub line_kept : (bytes : List ℕ) (xs : List Request) (address : LineAddress) → NoneTo address xs → line_over bytes xs address ≡ line_over bytes [] address
line_kept bytes xs address none = map-range_same _ _ 0 64 (λ i low high.
    kept_over (writes_byte address i) (λ q. get_or q.line i 0) (get_or bytes i 0) xs (none_written address i xs none))

-- the line has its 64 bytes, and no others
abbrev pub IsFormed : List ℕ → Type 0
IsFormed bytes = map (λ i. get_or bytes i 0) (range_with_len 0 64) ≡ bytes

pub formed_range : (f : ℕ → ℕ) → IsFormed (map f (range_with_len 0 64))
formed_range f = map-range_same _ _ 0 64 (λ i low high. get_or-map-range_with_len f 0 64 i i 0 high (omega arith))

formed_one : (kind : Kind) (same : Bool) (mask : ℕ) (line old : List ℕ) → IsFormed old → IsFormed (cond same (line_served kind old (merged mask line old)) old)
unfolding merged
formed_one Read true mask line old formed = formed
formed_one Read false mask line old formed = formed
formed_one Write false mask line old formed = formed
formed_one Write true mask line old formed = formed_range (λ i. cond (eqb (bit_at mask i) 1) (get_or line i 0) (get_or old i 0))

pub formed_after : (r : Request) (bytes : LineAddress → List ℕ) (address : LineAddress) → IsFormed (bytes address) → IsFormed (cells_after r bytes address)
formed_after r bytes address formed = formed_one r.echo.kind (is_same_line address (line_of r.place)) r.mask r.line (bytes address) formed
