-- The address map: each way undoes the other, and each answers exactly where it should.
use Rattle.std.proofs.Common.{◌≡◌, ℕ, zero, suc, ◌+◌, ◌*◌, ◌/◌, ◌%◌, ◌<◌, ◌≤◌, Bool, true, false, cond, ◌&&◌, ◌||◌, nat_lt, nat_eq, Some, None, is_some, refl, sym, ap, ◌∙◌, arith, length, ◌^◌, bit_xor, inl, inr}
use Rattle.std.proofs.lemmas.Bool.Decides.{nat_tests}
use Rattle.std.proofs.lemmas.Nat.{xor_lt, mul-le}
use Rattle.std.proofs.lemmas.Bool.{cases_lt, lt-ltb, le-ltb}
use Rattle.std.proofs.Math.Nat.{lt-div-mul-add, div-eq_of_lt}
use Rattle.ddr_timing.specs.declared.geometry.Digit.{Digit}
use Rattle.ddr_timing.specs.declared.geometry.Digit.TheVariants.{Channel, Group, Bank, Column, Row, Rank}
use Rattle.ddr_timing.specs.declared.geometry.Geometry.{Geometry}
use Rattle.ddr_address_map.specs.declared.place.Place.{Place}
use Rattle.ddr_address_map.specs.Map.{size_of, capacity_of, digit_of, number_of, digit_in, place_with, with_bank_xor, in_range, place_of, address_of}
use Rattle.ddr_address_map.proofs.Radix.{times, times-each_once, length-each_once, numbers, numbers-positive, numbers-each_once, digit_of-below, number_of-same, number_of-digits, number_of-below, digit_of-number}

two_or_four : (n : ℕ) → (nat_eq n 2 || nat_eq n 4) ≡ true → (2 ≤ n) × (n ≤ 4)
two_or_four n h = (grind (arith, nat_tests), grind (arith, nat_tests))

-- each digit has at least one value, and no digit has more than the row
pub size_of-positive : (shape : Geometry) (d : Digit) → 0 < size_of shape d
size_of-positive shape Channel = omega (arith, shape.channels_range)
size_of-positive shape Group = omega (arith, two_or_four shape.groups shape.groups_are)
size_of-positive shape Bank = omega arith
size_of-positive shape Column = omega (arith, shape.columns_range)
size_of-positive shape Row = omega (arith, shape.rows_range)
size_of-positive shape Rank = omega (arith, shape.ranks_range)

-- each digit stands at most once
pub times-map : (shape : Geometry) (d : Digit) → times shape.map d ≡ 1
times-map shape d = times-each_once shape.map shape.map_order d

-- the order has six digits
pub length-map : (shape : Geometry) → length shape.map ≡ 6
length-map shape = length-each_once shape.map shape.map_order

-- the rank's size may stand at any place of the product
rank_last : (channels ranks groups lines rows : ℕ) → channels * ranks * groups * 4 * lines * rows ≡ channels * groups * 4 * lines * rows * ranks
rank_last channels ranks groups lines rows = omega arith

-- the memory's lines, counted along the order
pub capacity_of-numbers : (shape : Geometry) → capacity_of shape ≡ 64 * numbers (size_of shape) shape.map
capacity_of-numbers shape =
    ap (λ n. 64 * n)
    (rank_last shape.channels shape.ranks shape.groups (shape.columns / 8) shape.rows
    ∙ sym (numbers-each_once (size_of shape) shape.map shape.map_order))

-- XOR twice with the same bits of the row gives the bank back
xor_back : (b r : ℕ) → b < 4 → r < 4 → bit_xor (bit_xor b r) r ≡ b
xor_back zero zero p q = refl
xor_back zero (suc zero) p q = refl
xor_back zero (suc (suc zero)) p q = refl
xor_back zero (suc (suc (suc zero))) p q = refl
xor_back (suc zero) zero p q = refl
xor_back (suc zero) (suc zero) p q = refl
xor_back (suc zero) (suc (suc zero)) p q = refl
xor_back (suc zero) (suc (suc (suc zero))) p q = refl
xor_back (suc (suc zero)) zero p q = refl
xor_back (suc (suc zero)) (suc zero) p q = refl
xor_back (suc (suc zero)) (suc (suc zero)) p q = refl
xor_back (suc (suc zero)) (suc (suc (suc zero))) p q = refl
xor_back (suc (suc (suc zero))) zero p q = refl
xor_back (suc (suc (suc zero))) (suc zero) p q = refl
xor_back (suc (suc (suc zero))) (suc (suc zero)) p q = refl
xor_back (suc (suc (suc zero))) (suc (suc (suc zero))) p q = refl
xor_back b (suc (suc (suc (suc r)))) p q = absurd (omega arith)
xor_back (suc (suc (suc (suc b)))) r p q = absurd (omega arith)

with_bank_xor-back : (shape : Geometry) (place : Place) → place.bank < 4 → with_bank_xor shape (with_bank_xor shape place) ≡ place
with_bank_xor-back shape place low = by_test shape.bank_xor
  where
    flipped : Place → Place
    flipped p = record p { bank = bit_xor p.bank (p.row % 4) }

    by_test : (b : Bool) → cond b (flipped (cond b (flipped place) place)) (cond b (flipped place) place) ≡ place
    by_test true = ap (λ bank. record place { bank = bank }) (xor_back place.bank (place.row % 4) low (omega arith))
    by_test false = refl

with_bank_xor-bank : (shape : Geometry) (place : Place) → place.bank < 4 → (with_bank_xor shape place).bank < 4
with_bank_xor-bank shape place low = by_test shape.bank_xor
  where
    by_test : (b : Bool) → (cond b (record place { bank = bit_xor place.bank (place.row % 4) }) place).bank < 4
    by_test true = xor_lt 2 place.bank (place.row % 4) low (omega arith)
    by_test false = low

-- what `in_range` tests
pub record IsInRange (shape : Geometry) (place : Place) : Type 0 where
  pub digits : (d : Digit) → digit_in place d < size_of shape d
  pub offset : place.offset < 64

seven_tests : (a b c d e f g a' b' c' d' e' f' g' : ℕ) → (nat_lt a a' && nat_lt b b' && nat_lt c c' && nat_lt d d' && nat_lt e e' && nat_lt f f' && nat_lt g g') ≡ true → (a < a') × (b < b') × (c < c') × (d < d') × (e < e') × (f < f') × (g < g')
seven_tests a b c d e f g a' b' c' d' e' f' g' h = (grind (arith, nat_tests), grind (arith, nat_tests), grind (arith, nat_tests), grind (arith, nat_tests), grind (arith, nat_tests), grind (arith, nat_tests), grind (arith, nat_tests))

pub IsInRange-test : (shape : Geometry) (place : Place) → in_range shape place ≡ true → IsInRange shape place
IsInRange-test shape place test =
    let all = seven_tests place.channel place.rank place.group place.bank place.row place.line place.offset shape.channels shape.ranks shape.groups 4 shape.rows (shape.columns / 8) 64 test in
    record { digits = by_digit all; offset = all.6 }
  where
    by_digit : (place.channel < shape.channels) × (place.rank < shape.ranks) × (place.group < shape.groups) × (place.bank < 4) × (place.row < shape.rows) × (place.line < shape.columns / 8) × (place.offset < 64) → (d : Digit) → digit_in place d < size_of shape d
    by_digit all Channel = all.0
    by_digit all Rank = all.1
    by_digit all Group = all.2
    by_digit all Bank = all.3
    by_digit all Column = all.5
    by_digit all Row = all.4

pub in_range-IsInRange : (shape : Geometry) (place : Place) → IsInRange shape place → in_range shape place ≡ true
in_range-IsInRange shape place r =
    rw (lt-ltb _ _ (r.digits Channel), lt-ltb _ _ (r.digits Rank), lt-ltb _ _ (r.digits Group), lt-ltb _ _ (r.digits Bank), lt-ltb _ _ (r.digits Row), lt-ltb _ _ (r.digits Column), lt-ltb _ _ r.offset) refl

-- the XOR keeps a place in range
with_bank_xor-IsInRange : (shape : Geometry) (place : Place) → IsInRange shape place → IsInRange shape (with_bank_xor shape place)
with_bank_xor-IsInRange shape place r = by_test shape.bank_xor
  where
    flipped : Place
    flipped = record place { bank = bit_xor place.bank (place.row % 4) }

    by_digit : (d : Digit) → digit_in flipped d < size_of shape d
    by_digit Channel = r.digits Channel
    by_digit Group = r.digits Group
    by_digit Bank = xor_lt 2 place.bank (place.row % 4) (r.digits Bank) (omega arith)
    by_digit Column = r.digits Column
    by_digit Row = r.digits Row
    by_digit Rank = r.digits Rank

    by_test : (b : Bool) → IsInRange shape (cond b flipped place)
    by_test true = record { digits = by_digit; offset = r.offset }
    by_test false = r

with_bank_xor-offset : (shape : Geometry) (place : Place) → (with_bank_xor shape place).offset ≡ place.offset
with_bank_xor-offset shape place = by_test shape.bank_xor
  where
    by_test : (b : Bool) → (cond b (record place { bank = bit_xor place.bank (place.row % 4) }) place).offset ≡ place.offset
    by_test true = refl
    by_test false = refl

-- the digits of a place, before the XOR
unfoldable pub digits_at : Geometry → ℕ → Place
digits_at shape addr = place_with (digit_of (size_of shape) shape.map (addr / 64)) (addr % 64)

digit_in-place_with : (f : Digit → ℕ) (byte : ℕ) (d : Digit) → digit_in (place_with f byte) d ≡ f d
digit_in-place_with f byte Channel = refl
digit_in-place_with f byte Group = refl
digit_in-place_with f byte Bank = refl
digit_in-place_with f byte Column = refl
digit_in-place_with f byte Row = refl
digit_in-place_with f byte Rank = refl

-- places with the same digits and offset are the same
place_with-same : (f g : Digit → ℕ) (m n : ℕ) → ((d : Digit) → f d ≡ g d) → m ≡ n → place_with f m ≡ place_with g n
place_with-same f g m n same offset =
    let channel = same Channel in
    let rank = same Rank in
    let group = same Group in
    let bank = same Bank in
    let row = same Row in
    let line = same Column in
    rw (channel, rank, group, bank, row, line, offset) refl

-- a place is `digits_at` where its digits and its offset are
pub digits_at-same : (shape : Geometry) (addr : ℕ) (place : Place) → ((d : Digit) → digit_in place d ≡ digit_of (size_of shape) shape.map (addr / 64) d) → place.offset ≡ addr % 64 → place ≡ digits_at shape addr
unfolding digits_at
digits_at-same shape addr place same offset = place_with-same (digit_in place) (digit_of (size_of shape) shape.map (addr / 64)) place.offset (addr % 64) same offset

digits_at-IsInRange : (shape : Geometry) (addr : ℕ) → IsInRange shape (digits_at shape addr)
unfolding digits_at
digits_at-IsInRange shape addr =
    let digits = digit_of (size_of shape) shape.map (addr / 64) in
    record {
      digits = λ d. rw (digit_in-place_with digits (addr % 64) d) (digit_of-below (size_of shape) (size_of-positive shape) shape.map (addr / 64) d);
      offset = omega arith;
    }

-- below the capacity every address has its place, and the place gives it back
pub place_of-below : (shape : Geometry) (addr : ℕ) → addr < capacity_of shape → place_of shape addr ≡ Some (with_bank_xor shape (digits_at shape addr))
unfolding place_of digits_at
place_of-below shape addr low = rw (lt-ltb _ _ low) refl

pub place_of-past : (shape : Geometry) (addr : ℕ) → capacity_of shape ≤ addr → place_of shape addr ≡ None
unfolding place_of
place_of-past shape addr past = rw (le-ltb _ _ past) refl

-- an address has a place exactly where it is below the capacity
pub below-place : (shape : Geometry) (addr : ℕ) → nat_lt addr (capacity_of shape) ≡ is_some (place_of shape addr)
unfolding place_of
below-place shape addr = by_test (nat_lt addr (capacity_of shape))
  where
    place : Place
    place = with_bank_xor shape (place_with (digit_of (size_of shape) shape.map (addr / 64)) (addr % 64))

    by_test : (b : Bool) → b ≡ is_some (cond b (Some place) None)
    by_test true = refl
    by_test false = refl

pub address_of-inside : (shape : Geometry) (place : Place) → IsInRange shape place → address_of shape place ≡ Some (64 * number_of (size_of shape) shape.map (digit_in (with_bank_xor shape place)) + place.offset)
unfolding address_of
address_of-inside shape place r = rw (in_range-IsInRange shape place r) refl

pub address_of-outside : (shape : Geometry) (place : Place) → in_range shape place ≡ false → address_of shape place ≡ None
unfolding address_of
address_of-outside shape place out = rw out refl

line_below : (shape : Geometry) (addr : ℕ) → addr < capacity_of shape → addr / 64 < numbers (size_of shape) shape.map
line_below shape addr low = omega (arith, capacity_of-numbers shape)

pub place-in_range : (shape : Geometry) (addr : ℕ) → in_range shape (with_bank_xor shape (digits_at shape addr)) ≡ true
place-in_range shape addr = in_range-IsInRange shape _ (with_bank_xor-IsInRange shape _ (digits_at-IsInRange shape addr))

number_of-digits_at : (shape : Geometry) (addr : ℕ) → addr < capacity_of shape → number_of (size_of shape) shape.map (digit_in (digits_at shape addr)) ≡ addr / 64
unfolding digits_at
number_of-digits_at shape addr low =
    let size = size_of shape in
    number_of-same size shape.map _ (digit_of size shape.map (addr / 64)) (λ d _. digit_in-place_with (digit_of size shape.map (addr / 64)) (addr % 64) d)
    ∙ number_of-digits size (size_of-positive shape) shape.map (λ d. omega (arith, times-map shape d)) (addr / 64) (line_below shape addr low)

digits_at-offset : (shape : Geometry) (addr : ℕ) → (digits_at shape addr).offset ≡ addr % 64
unfolding digits_at
digits_at-offset shape addr = refl

pub address_of-place : (shape : Geometry) (addr : ℕ) → addr < capacity_of shape → address_of shape (with_bank_xor shape (digits_at shape addr)) ≡ Some addr
address_of-place shape addr low =
    let digits = digits_at shape addr in
    let inside = digits_at-IsInRange shape addr in
    let back : with_bank_xor shape (with_bank_xor shape digits) ≡ digits = with_bank_xor-back shape digits (inside.digits Bank) in
    let number : number_of (size_of shape) shape.map (digit_in (with_bank_xor shape (with_bank_xor shape digits))) ≡ addr / 64 = ap (λ p. number_of (size_of shape) shape.map (digit_in p)) back ∙ number_of-digits_at shape addr low in
    let offset : (with_bank_xor shape digits).offset ≡ addr % 64 = with_bank_xor-offset shape digits ∙ digits_at-offset shape addr in
    let sum : 64 * number_of (size_of shape) shape.map (digit_in (with_bank_xor shape (with_bank_xor shape digits))) + (with_bank_xor shape digits).offset ≡ addr = omega arith in
    address_of-inside shape _ (with_bank_xor-IsInRange shape _ inside) ∙ ap (λ a. Some a) sum

-- every place in range has an address below the capacity, whose place it is
unfoldable pub address_in : Geometry → Place → ℕ
address_in shape place = 64 * number_of (size_of shape) shape.map (digit_in (with_bank_xor shape place)) + place.offset

pub number-below : (shape : Geometry) (place : Place) → IsInRange shape place → number_of (size_of shape) shape.map (digit_in (with_bank_xor shape place)) < numbers (size_of shape) shape.map
number-below shape place r =
    number_of-below (size_of shape) shape.map (digit_in (with_bank_xor shape place)) ((with_bank_xor-IsInRange shape place r).digits)

pub address_in-below : (shape : Geometry) (place : Place) → IsInRange shape place → address_in shape place < capacity_of shape
unfolding address_in
address_in-below shape place r = omega (arith, capacity_of-numbers shape, number-below shape place r, r.offset)

digits_at-address : (shape : Geometry) (place : Place) → IsInRange shape place → digits_at shape (address_in shape place) ≡ with_bank_xor shape place
unfolding address_in
digits_at-address shape place r =
    let size = size_of shape in
    let digits = with_bank_xor shape place in
    let inside = with_bank_xor-IsInRange shape place r in
    let number = number_of size shape.map (digit_in digits) in
    let addr : ℕ = 64 * number + place.offset in
    let byte : place.offset < 64 = r.offset in
    let line : addr / 64 ≡ number = omega arith in
    let offset : digits.offset ≡ addr % 64 = with_bank_xor-offset shape place ∙ omega arith in
    let each = λ (d : Digit). sym (digit_of-number size shape.map (digit_in digits) inside.digits d (omega (arith, times-map shape d))) ∙ ap (λ n. digit_of size shape.map n d) (sym line) in
    sym (digits_at-same shape addr digits each offset)

pub place_of-address : (shape : Geometry) (place : Place) → IsInRange shape place → place_of shape (address_in shape place) ≡ Some place
place_of-address shape place r =
    place_of-below shape (address_in shape place) (address_in-below shape place r)
    ∙ ap (λ p. Some (with_bank_xor shape p)) (digits_at-address shape place r)
    ∙ ap (λ p. Some p) (with_bank_xor-back shape place (r.digits Bank))

-- what is left of a line's number once all digits are taken tells whether it is below the capacity
pub capacity-zero : (shape : Geometry) (addr rest : ℕ) → rest ≡ (addr / 64) / numbers (size_of shape) shape.map → rest ≡ 0 → addr < capacity_of shape
capacity-zero shape addr rest left none =
    let lines = numbers (size_of shape) shape.map in
    let some : 0 < lines = numbers-positive (size_of shape) (size_of-positive shape) shape.map in
    let zero_quotient : (addr / 64) / lines ≡ 0 = sym left ∙ none in
    let low : addr / 64 < (addr / 64) / lines * lines + lines = lt-div-mul-add some in
    let none_left : (addr / 64) / lines * lines ≡ 0 = ap (λ q. q * lines) zero_quotient ∙ omega arith in
    omega (arith, capacity_of-numbers shape)

pub capacity-more : (shape : Geometry) (addr rest : ℕ) → rest ≡ (addr / 64) / numbers (size_of shape) shape.map → 0 < rest → capacity_of shape ≤ addr
capacity-more shape addr rest left more =
    elim (cases_lt addr (capacity_of shape)) [
      | inl low ↦ absurd (omega (arith, div-eq_of_lt (line_below shape addr low)))
      | inr past ↦ past
    ]

pub capacity-bound : (shape : Geometry) → capacity_of shape ≤ 2 ^ 37
capacity-bound shape =
    let group = two_or_four shape.groups shape.groups_are in
    let line : shape.columns / 8 ≤ 128 = omega (arith, shape.columns_range) in
    let ranks : shape.channels * shape.ranks ≤ 4 * 2 = mul-le shape.channels shape.ranks 4 2 shape.channels_range.1 shape.ranks_range.1 in
    let groups : shape.channels * shape.ranks * shape.groups ≤ 8 * 4 = mul-le (shape.channels * shape.ranks) shape.groups 8 4 ranks group.1 in
    let banks : shape.channels * shape.ranks * shape.groups * 4 ≤ 128 = omega (arith, groups) in
    let upper : shape.channels * shape.ranks * shape.groups * 4 * (shape.columns / 8) ≤ 128 * 128 = mul-le (shape.channels * shape.ranks * shape.groups * 4) (shape.columns / 8) 128 128 banks line in
    omega (arith, mul-le (shape.channels * shape.ranks * shape.groups * 4 * (shape.columns / 8)) shape.rows (128 * 128) 131072 upper shape.rows_range.1)

-- the capacity, by numbers that are its factors
pub capacity-factors : (shape : Geometry) (a b c d e f : ℕ) → a ≡ shape.channels → b ≡ shape.ranks → c ≡ shape.groups → d ≡ 4 → e ≡ shape.columns / 8 → f ≡ shape.rows
    → 64 * (a * b * c * d * e * f) ≡ capacity_of shape
capacity-factors shape a b c d e f channels ranks groups banks lines rows = rw (channels, ranks, groups, banks, lines, rows) refl

pub numbers-bound : (shape : Geometry) → numbers (size_of shape) shape.map ≤ 2 ^ 31
numbers-bound shape = omega (arith, capacity-bound shape, capacity_of-numbers shape)
