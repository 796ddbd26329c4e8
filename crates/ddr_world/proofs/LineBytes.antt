-- The bytes of an address, and the line that a channel keeps: what requests leave is the same by both.
use Rattle.std.proofs.Common.{◌≡◌, ℕ, zero, suc, ◌+◌, ◌-◌, ◌*◌, ◌/◌, ◌%◌, ◌<◌, ◌≤◌, Bool, true, false, ◌&&◌, cond, eqb, List, [], ◌∷◌, Some, map, take, drop, refl, sym, ap, ap₂, ◌∙◌, arith, bit_xor}
use Rattle.std.specs.List.{fold, range_with_len, AllByRecursion, slice_index, slice_range}
use Rattle.std.specs.Int.{bit_at}
use Rattle.std.proofs.lemmas.Bool.{eqb-true, eq-eqb}
use Rattle.ddr_timing.specs.declared.geometry.Digit.{Digit}
use Rattle.ddr_timing.specs.declared.geometry.Digit.TheVariants.{Channel, Group, Bank, Column, Row, Rank}
use Rattle.ddr_timing.specs.declared.geometry.Geometry.{Geometry}
use Rattle.ddr_address_map.specs.declared.place.Place.{Place}
use Rattle.ddr_address_map.specs.Map.{size_of, digit_of, number_of, digit_in, place_with, with_bank_xor, in_range, place_of, address_of}
use Rattle.ddr_address_map.specs.Requests.{Request}
use Rattle.ddr_address_map.proofs.MapLemmas.{IsInRange-test, digits_at, address_of-inside, place-in_range, address_of-place}
use Rattle.ddr_address_map.proofs.Radix.{number_of-same}
use Rattle.ddr_channel.specs.Memory.{LineAddress, line_of, is_same_line, is_write_kind, writes_byte, byte_over, line_after}
use Rattle.ddr_channel.proofs.MemoryLemmas.{same_parts, itself}
use Rattle.ddr_reorder.specs.State.{IsWithinLine}
use Rattle.ddr_world.proofs.PlaceLemmas.{Stands, stands}
use Rattle.ddr_world.specs.Promise.{writes, byte_after, bytes_after}

-- the request stands at its address's place, on this channel, and what it asks for lies in one line
pub record IsPlaced (shape : Geometry) (c : ℕ) (r : Request) : Type 0 where
  pub placed : place_of shape r.echo.addr ≡ Some r.place
  pub channel : r.place.channel ≡ c
  pub within : IsWithinLine r.echo

-- the line's number, by the digits of a place
abbrev number : Geometry → Place → ℕ
number shape q = number_of (size_of shape) shape.map (digit_in (with_bank_xor shape q))

moved_digit : (shape : Geometry) (q : Place) (byte : ℕ) (d : Digit) → digit_in (with_bank_xor shape (record q { offset = byte })) d ≡ digit_in (with_bank_xor shape q) d
moved_digit shape q byte d = by_test shape.bank_xor d
  where
    flipped : Place → Place
    flipped p = record p { bank = bit_xor p.bank (p.row % 4) }

    by_test : (b : Bool) (d : Digit) → digit_in (cond b (flipped (record q { offset = byte })) (record q { offset = byte })) d ≡ digit_in (cond b (flipped q) q) d
    by_test true Channel = refl
    by_test true Group = refl
    by_test true Bank = refl
    by_test true Column = refl
    by_test true Row = refl
    by_test true Rank = refl
    by_test false Channel = refl
    by_test false Group = refl
    by_test false Bank = refl
    by_test false Column = refl
    by_test false Row = refl
    by_test false Rank = refl

-- the offset is none of the digits
moved_number : (shape : Geometry) (q : Place) (byte : ℕ) → number shape (record q { offset = byte }) ≡ number shape q
moved_number shape q byte = number_of-same (size_of shape) shape.map (digit_in (with_bank_xor shape (record q { offset = byte }))) (digit_in (with_bank_xor shape q)) (λ d _. moved_digit shape q byte d)

-- an address is its line's number and its offset
line_number : (shape : Geometry) (addr : ℕ) (q : Place) → Stands shape addr q → addr / 64 ≡ number shape q
line_number shape addr q at =
    let inside : in_range shape q ≡ true = ap (in_range shape) at.is ∙ place-in_range shape addr in
    let range = IsInRange-test shape q inside in
    let back : address_of shape q ≡ Some addr = ap (address_of shape) at.is ∙ address_of-place shape addr at.low in
    let sum : Some (64 * number shape q + q.offset) ≡ Some addr = sym (address_of-inside shape q range) ∙ back in
    let plain : 64 * number shape q + q.offset ≡ addr = cc in
    omega (arith, range.offset)

-- places of one line and one channel differ in the offset alone
same_place : (a b : Place) → a.channel ≡ b.channel → line_of a ≡ line_of b → record a { offset = b.offset } ≡ b
same_place a b channel line = λ i. record { channel = channel i; rank = (line i).rank; group = (line i).group; bank = (line i).bank; row = (line i).row; line = (line i).line; offset = b.offset }

-- addresses of one line, by their numbers
line_by_number : (shape : Geometry) (f : Digit → ℕ) (m n : ℕ) → line_of (with_bank_xor shape (place_with f m)) ≡ line_of (with_bank_xor shape (place_with f n))
line_by_number shape f m n = by_test shape.bank_xor
  where
    flipped : Place → Place
    flipped p = record p { bank = bit_xor p.bank (p.row % 4) }

    by_test : (b : Bool) → line_of (cond b (flipped (place_with f m)) (place_with f m)) ≡ line_of (cond b (flipped (place_with f n)) (place_with f n))
    by_test true = refl
    by_test false = refl

line_of_number : (shape : Geometry) (a b : ℕ) → a / 64 ≡ b / 64 → line_of (with_bank_xor shape (digits_at shape a)) ≡ line_of (with_bank_xor shape (digits_at shape b))
unfolding digits_at
line_of_number shape a b same =
    line_by_number shape (digit_of (size_of shape) shape.map (a / 64)) (a % 64) (b % 64)
    ∙ ap (λ n. line_of (with_bank_xor shape (place_with (digit_of (size_of shape) shape.map n) (b % 64)))) same

same_bool : (x y : Bool) → (x ≡ true → y ≡ true) → (y ≡ true → x ≡ true) → x ≡ y
same_bool true y there back = sym (there refl)
same_bool false true there back = back refl
same_bool false false there back = refl

-- on one channel two addresses have one line exactly where their line numbers are the same
line_tests : (shape : Geometry) (a b : ℕ) (p q : Place) → place_of shape a ≡ Some p → place_of shape b ≡ Some q → p.channel ≡ q.channel → is_same_line (line_of p) (line_of q) ≡ eqb (a / 64) (b / 64)
line_tests shape a b p q p_is q_is channel =
    let p_at = stands shape a p p_is in
    let q_at = stands shape b q q_is in
    same_bool (is_same_line (line_of p) (line_of q)) (eqb (a / 64) (b / 64))
    (λ test.
    let one = same_place p q channel (same_parts (line_of p) (line_of q) test) in
    let same : a / 64 ≡ b / 64 = line_number shape a p p_at ∙ sym (moved_number shape p q.offset) ∙ ap (number shape) one ∙ sym (line_number shape b q q_at) in
    ap (λ n. eqb n (b / 64)) same ∙ eq-eqb (b / 64) (b / 64) refl)
    (λ test.
    let same : line_of p ≡ line_of q = ap line_of p_at.is ∙ line_of_number shape a b (eqb-true (a / 64) (b / 64) test) ∙ ap line_of (sym q_at.is) in
    ap (λ (l : LineAddress). is_same_line l (line_of q)) same ∙ itself (line_of q))

-- a request writes a byte of the line exactly where it writes the byte of its address
writes_alike : (shape : Geometry) (c : ℕ) (r w : Request) (k : ℕ) → IsPlaced shape c r → IsPlaced shape c w → r.echo.addr % 64 + k < 64
    → writes_byte (line_of r.place) (r.echo.addr % 64 + k) w ≡ writes w (r.echo.addr + k)
writes_alike shape c r w k r_at w_at low =
    let line = line_tests shape r.echo.addr w.echo.addr r.place w.place r_at.placed w_at.placed (r_at.channel ∙ sym w_at.channel) in
    let here : r.echo.addr / 64 ≡ (r.echo.addr + k) / 64 = omega (arith, low) in
    let byte : r.echo.addr % 64 + k ≡ (r.echo.addr + k) % 64 = omega (arith, low) in
    ap₂ (λ (same : Bool) (i : ℕ). is_write_kind w.echo.kind && same && eqb (bit_at w.mask i) 1) (line ∙ ap (λ n. eqb n (w.echo.addr / 64)) here) byte

bytes_alike : (shape : Geometry) (c : ℕ) (r : Request) (k before : ℕ) (earlier : List Request) → IsPlaced shape c r → AllByRecursion (IsPlaced shape c) earlier → r.echo.addr % 64 + k < 64
    → byte_over before earlier (line_of r.place) (r.echo.addr % 64 + k) ≡ fold (λ byte w. cond (writes w (r.echo.addr + k)) (slice_index w.line ((r.echo.addr + k) % 64)) byte) before earlier
bytes_alike shape c r k before [] r_at all low = refl
bytes_alike shape c r k before (w ∷ ws) r_at all low =
    let byte : r.echo.addr % 64 + k ≡ (r.echo.addr + k) % 64 = omega (arith, low) in
    let first = ap₂ (λ (test : Bool) (i : ℕ). cond test (slice_index w.line i) before) (writes_alike shape c r w k r_at all.0 low) byte in
    ap (λ n. byte_over n ws (line_of r.place) (r.echo.addr % 64 + k)) first
    ∙ bytes_alike shape c r k (cond (writes w (r.echo.addr + k)) (slice_index w.line ((r.echo.addr + k) % 64)) before) ws r_at all.1 low

-- a part of a list that is told by a range

drop-range : {X : Type 0} (f : ℕ → X) (a n k : ℕ) → drop k (map f (range_with_len a n)) ≡ map f (range_with_len (a + k) (n - k))
drop-range f a n zero = ap₂ (λ x y. map f (range_with_len x y)) (omega arith) (omega arith)
drop-range f a zero (suc k) = ap (λ (y : ℕ). map f (range_with_len (a + suc k) y)) (let none : zero ≡ zero - suc k = omega arith in none)
drop-range f a (suc n) (suc k) = drop-range f (a + 1) n k ∙ ap₂ (λ x y. map f (range_with_len x y)) (omega arith) (omega arith)

take-range : {X : Type 0} (f : ℕ → X) (a n k : ℕ) → k ≤ n → take k (map f (range_with_len a n)) ≡ map f (range_with_len a k)
take-range f a n zero below = refl
take-range f a zero (suc k) below = absurd (omega (arith, below))
take-range f a (suc n) (suc k) below = ap (λ (xs : List _). f a ∷ xs) (take-range f (a + 1) n k (omega (arith, below)))

shifted : {X : Type 0} (f g : ℕ → X) (a b n : ℕ) → ((k : ℕ) → k < n → f (a + k) ≡ g (b + k)) → map f (range_with_len a n) ≡ map g (range_with_len b n)
shifted f g a b zero same = refl
shifted f g a b (suc n) same =
    let first : f a ≡ g b = ap f (omega arith) ∙ same 0 (omega arith) ∙ ap g (omega arith) in
    let rest = shifted f g (a + 1) (b + 1) n (λ k below. ap f (omega arith) ∙ same (k + 1) (omega (arith, below)) ∙ ap g (omega arith)) in
    ap₂ ◌∷◌ first rest

-- what is asked of the line that the requests leave is the bytes that they leave from the address on
pub asked_of_line : (shape : Geometry) (c : ℕ) (r : Request) (earlier : List Request) → IsPlaced shape c r → AllByRecursion (IsPlaced shape c) earlier
    → slice_range (line_after earlier (line_of r.place)) (r.echo.addr % 64) (r.echo.addr % 64 + r.echo.len) ≡ bytes_after earlier r.echo.addr r.echo.len
asked_of_line shape c r earlier r_at all =
    let off = r.echo.addr % 64 in
    let len = r.echo.len in
    let within : off + len ≤ 64 = r_at.within in
    let f : ℕ → ℕ = λ i. byte_over 0 earlier (line_of r.place) i in
    ap₂ take (let plain : off + len - off ≡ len = omega arith in plain) (drop-range f 0 64 off)
    ∙ take-range f (0 + off) (64 - off) len (omega (arith, within))
    ∙ shifted f (byte_after earlier) (0 + off) r.echo.addr len (λ k below. ap f (omega arith) ∙ bytes_alike shape c r k 0 earlier r_at all (omega (arith, within, below)))
