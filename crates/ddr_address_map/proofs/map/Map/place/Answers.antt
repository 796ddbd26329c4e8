-- The pass takes each digit once; what is left of the line's number then tells whether the address is
-- below the capacity.
use Rattle.std.proofs.Common.{◌≡◌, ℕ, ◌+◌, ◌/◌, ◌<◌, ◌≤◌, [], ◌∷◌, get_or, drop, Some, refl, sym, ap, ◌∙◌, arith, ◌%◌, true}
use Rattle.std.proofs.Math.ListN.{drop_of_length-le}
use Rattle.std.proofs.lemmas.List.{drop_more}
use Rattle.ddr_timing.specs.declared.geometry.Digit.{Digit}
use Rattle.ddr_timing.specs.declared.geometry.Digit.TheVariants.{Channel, Group, Bank, Column, Row, Rank}
use Rattle.ddr_timing.specs.declared.geometry.Geometry.{Geometry}
use Rattle.ddr_address_map.specs.declared.place.Place.{Place}
use Rattle.ddr_address_map.specs.Map.{size_of, capacity_of, digit_of, digit_in, with_bank_xor, in_range, place_of, address_of}
use Rattle.ddr_address_map.proofs.Radix.{numbers}
use Rattle.ddr_address_map.proofs.Walk.{digit_or, digit_or-zero, once-step, quotient-step, quotient-end, digits-step, digits-end}
use Rattle.ddr_address_map.proofs.MapLemmas.{length-map, times-map, digits_at, digits_at-same, place_of-below, place_of-past, place-in_range, address_of-place, capacity-zero, capacity-more}
use Rattle.ddr_address_map.proofs.map.Map.place.Goals as goal

blank-digit : (byte : ℕ) (d : Digit) → digit_in (record { channel = 0; rank = 0; group = 0; bank = 0; row = 0; line = 0; offset = byte }) d ≡ 0
blank-digit byte Channel = refl
blank-digit byte Group = refl
blank-digit byte Bank = refl
blank-digit byte Column = refl
blank-digit byte Row = refl
blank-digit byte Rank = refl

pub loop-digit-init : goal.loop-digit-init
loop-digit-init c =
    let shape = c.args.self.now.geometry in
    let number = c.args.addr / 64 in
    record {
      once = λ d. omega (arith, times-map shape d);
      quotient = refl;
      digits = λ d. ap (λ old. digit_or (size_of shape) shape.map number old d) (blank-digit (c.args.addr % 64) d) ∙ digit_or-zero (size_of shape) shape.map number d;
      offset = refl;
    }

pub loop-digit-preserved : goal.loop-digit-preserved
loop-digit-preserved c =
    let shape = c.args.self.now.geometry in
    let size = size_of shape in
    let i = c.loop-digit.digit-index in
    let first = get_or shape.map i Channel in
    let rest = drop (i + 1) shape.map in
    let split : drop i shape.map ≡ first ∷ rest = drop_more shape.map i Channel (omega (arith, length-map shape, c.loop-digit-test.true)) in
    let is = c.size-size.ensures.exact in
    let before = c.loop-digit.invariant in
    record {
      once = once-step _ first rest split before.once;
      quotient = quotient-step size _ first rest c.loop-digit.rest _ _ split is before.quotient;
      digits = λ d. digits-step size _ first rest c.loop-digit.rest _ _ _ _ d split is (before.once d) (c.with_digit-place.ensures.digits d) (before.digits d);
      offset = c.with_digit-place.ensures.offset ∙ before.offset;
    }

-- at the end of the pass
record Ended (shape : Geometry) (addr rest : ℕ) (place : Place) : Type 0 where
  left : rest ≡ (addr / 64) / numbers (size_of shape) shape.map
  digits : place ≡ digits_at shape addr

ended : (shape : Geometry) (addr rest i : ℕ) (place : Place) → 6 ≤ i → rest / numbers (size_of shape) (drop i shape.map) ≡ (addr / 64) / numbers (size_of shape) shape.map → ((d : Digit) → digit_or (size_of shape) (drop i shape.map) rest (digit_in place d) d ≡ digit_of (size_of shape) shape.map (addr / 64) d) → place.offset ≡ addr % 64 → Ended shape addr rest place
ended shape addr rest i place past quotient digits offset =
    let none : drop i shape.map ≡ [] = drop_of_length-le shape.map (omega (arith, length-map shape)) in
    record {
      left = quotient-end _ _ rest _ none quotient;
      digits = digits_at-same shape addr place (λ d. digits-end _ _ rest _ _ d none (digits d)) offset;
    }

same_place : (shape : Geometry) (addr : ℕ) (place made : Place) → place ≡ digits_at shape addr → made ≡ with_bank_xor shape place → made ≡ with_bank_xor shape (digits_at shape addr)
same_place shape addr place made is made_is = made_is ∙ ap (with_bank_xor shape) is

-- the answer, where nothing of the number is left
record Found (shape : Geometry) (addr : ℕ) (made : Place) : Type 0 where
  below : addr < capacity_of shape
  exact : Some made ≡ place_of shape addr
  inside : in_range shape made ≡ true
  back : address_of shape made ≡ Some addr

found : (shape : Geometry) (addr rest : ℕ) (place made : Place) → Ended shape addr rest place → rest ≡ 0 → made ≡ with_bank_xor shape place → Found shape addr made
found shape addr rest place made end none made_is =
    let below = capacity-zero shape addr rest end.left none in
    let is = same_place shape addr place made end.digits made_is in
    record {
      below = below;
      exact = ap (λ p. Some p) is ∙ sym (place_of-below shape addr below);
      inside = ap (in_range shape) is ∙ place-in_range shape addr;
      back = ap (address_of shape) is ∙ address_of-place shape addr below;
    }

found_at : (c : goal.After-with_bank_xor) → Found c.args.self.now.geometry c.args.addr c.with_bank_xor.result
found_at c =
    let before = c.loop-digit.invariant in
    let end = ended c.args.self.now.geometry c.args.addr c.loop-digit.rest c.loop-digit.digit-index c.loop-digit.place c.loop-digit-test.false before.quotient before.digits before.offset in
    found c.args.self.now.geometry c.args.addr c.loop-digit.rest c.loop-digit.place c.with_bank_xor.result end c.if-rest-eq0.true c.with_bank_xor.ensures

pub returns-then-rest-eq0-clause-exact : goal.returns-then-rest-eq0-clause-exact
returns-then-rest-eq0-clause-exact c = (found_at c).exact

pub returns-then-rest-eq0-clause-inside : goal.returns-then-rest-eq0-clause-inside
returns-then-rest-eq0-clause-inside c = (λ _. (found_at c).below, λ _. refl)

pub returns-then-rest-eq0-clause-within : goal.returns-then-rest-eq0-clause-within
returns-then-rest-eq0-clause-within c = (found_at c).inside

pub returns-then-rest-eq0-clause-back : goal.returns-then-rest-eq0-clause-back
returns-then-rest-eq0-clause-back c = (found_at c).back

past_at : (c : goal.Else-rest-eq0) → capacity_of c.args.self.now.geometry ≤ c.args.addr
past_at c =
    let before = c.loop-digit.invariant in
    let end = ended c.args.self.now.geometry c.args.addr c.loop-digit.rest c.loop-digit.digit-index c.loop-digit.place c.loop-digit-test.false before.quotient before.digits before.offset in
    capacity-more c.args.self.now.geometry c.args.addr c.loop-digit.rest end.left (omega (arith, c.if-rest-eq0.false))

pub returns-else-rest-eq0-clause-exact : goal.returns-else-rest-eq0-clause-exact
returns-else-rest-eq0-clause-exact c = sym (place_of-past c.args.self.now.geometry c.args.addr (past_at c))

pub returns-else-rest-eq0-clause-inside : goal.returns-else-rest-eq0-clause-inside
returns-else-rest-eq0-clause-inside c = (λ no. absurd (cc), λ below. absurd (omega (arith, past_at c)))
