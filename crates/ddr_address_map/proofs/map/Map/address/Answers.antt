-- The pass adds each digit at its weight; the weights are no more than the product of the sizes.
use Rattle.std.proofs.Common.{◌≡◌, ℕ, ◌+◌, ◌*◌, ◌<◌, ◌≤◌, ◌^◌, [], ◌∷◌, get_or, drop, Some, refl, sym, ap, ◌∙◌, arith}
use Rattle.std.proofs.Math.ListN.{drop_of_length-le}
use Rattle.std.proofs.lemmas.List.{drop_more}
use Rattle.ddr_timing.specs.declared.geometry.Digit.TheVariants.{Channel}
use Rattle.ddr_timing.specs.declared.geometry.Geometry.{Geometry}
use Rattle.ddr_address_map.specs.declared.place.Place.{Place}
use Rattle.ddr_address_map.specs.Map.{size_of, capacity_of, number_of, digit_in, with_bank_xor, place_of, address_of}
use Rattle.ddr_address_map.proofs.Radix.{numbers, numbers-positive}
use Rattle.ddr_address_map.proofs.Walk.{weight-step, number-step, number-end, factor_le}
use Rattle.ddr_address_map.proofs.MapLemmas.{length-map, size_of-positive, IsInRange, IsInRange-test, address_of-inside, address_of-outside, address_in, address_in-below, place_of-address, numbers-bound, number-below}
use Rattle.ddr_address_map.proofs.map.Map.address.Goals as goal

pub returns-then-not-is_in_range-clause-exact : goal.returns-then-not-is_in_range-clause-exact
returns-then-not-is_in_range-clause-exact c = sym (address_of-outside c.args.self.now.geometry c.args.place (sym c.is_in_range.ensures ∙ c.if-not-is_in_range.true))

-- one step of the pass
record Stepped (shape : Geometry) (place : Place) (i n w s v : ℕ) : Type 0 where
  weight : w * s * numbers (size_of shape) (drop (i + 1) shape.map) ≡ numbers (size_of shape) shape.map
  number : n + w * v + w * s * number_of (size_of shape) (drop (i + 1) shape.map) (digit_in place) ≡ number_of (size_of shape) shape.map (digit_in place)

stepped : (shape : Geometry) (place : Place) (i n w s v : ℕ) → i < 6 → w * numbers (size_of shape) (drop i shape.map) ≡ numbers (size_of shape) shape.map → n + w * number_of (size_of shape) (drop i shape.map) (digit_in place) ≡ number_of (size_of shape) shape.map (digit_in place) → s ≡ size_of shape (get_or shape.map i Channel) → v ≡ digit_in place (get_or shape.map i Channel) → Stepped shape place i n w s v
stepped shape place i n w s v low weight number size_is value_is =
    let first = get_or shape.map i Channel in
    let rest = drop (i + 1) shape.map in
    let split : drop i shape.map ≡ first ∷ rest = drop_more shape.map i Channel (omega (arith, length-map shape)) in
    record {
      weight = weight-step (size_of shape) _ first rest w s _ split size_is weight;
      number = number-step (size_of shape) _ first rest (digit_in place) n w s v _ split size_is value_is number;
    }

stepped_at : (c : goal.After-size-weight) → Stepped c.args.self.now.geometry c.with_bank_xor-digits.result c.loop-digit.digit-index c.loop-digit.number c.loop-digit.weight c.size-weight.result c.from.result
stepped_at c = stepped _ _ _ _ _ _ _ c.loop-digit-test.true c.loop-digit.invariant.weight c.loop-digit.invariant.number c.size-weight.ensures.exact (c.from.ensures ∙ c.digit_of.ensures)

pub overflow_mul-weight : goal.overflow_mul-weight
overflow_mul-weight c =
    let shape = c.args.self.now.geometry in
    let factor = factor_le _ _ _ (numbers-positive (size_of shape) (size_of-positive shape) (drop (c.loop-digit.digit-index + 1) shape.map)) (stepped_at c).weight in
    omega (arith, factor, numbers-bound shape)

pub loop-digit-preserved : goal.loop-digit-preserved
loop-digit-preserved c = record { weight = (stepped_at c).weight; number = (stepped_at c).number }

-- what the pass has added so far is small
counted : (shape : Geometry) (place digits : Place) (i n w v : ℕ) → IsInRange shape place → digits ≡ with_bank_xor shape place → i < 6 → w * numbers (size_of shape) (drop i shape.map) ≡ numbers (size_of shape) shape.map → n + w * number_of (size_of shape) (drop i shape.map) (digit_in digits) ≡ number_of (size_of shape) shape.map (digit_in digits) → v ≡ digit_in digits (get_or shape.map i Channel) → n + w * v < 2 ^ 31
counted shape place digits i n w v inside digits_is low weight number value_is =
    let step = stepped shape digits i n w (size_of shape (get_or shape.map i Channel)) v low weight number refl value_is in
    let same : number_of (size_of shape) shape.map (digit_in digits) ≡ number_of (size_of shape) shape.map (digit_in (with_bank_xor shape place)) = ap (λ p. number_of (size_of shape) shape.map (digit_in p)) digits_is in
    omega (arith, step.number, same, number-below shape place inside, numbers-bound shape)

counted_at : (c : goal.After-from) → c.loop-digit.number + c.loop-digit.weight * c.from.result < 2 ^ 31
counted_at c =
    let inside = IsInRange-test c.args.self.now.geometry c.args.place (sym c.is_in_range.ensures ∙ c.if-not-is_in_range.false) in
    counted _ _ _ _ c.loop-digit.number c.loop-digit.weight c.from.result inside c.with_bank_xor-digits.ensures c.loop-digit-test.true c.loop-digit.invariant.weight c.loop-digit.invariant.number (c.from.ensures ∙ c.digit_of.ensures)

pub overflow_mul-number : goal.overflow_mul-number
overflow_mul-number c = omega (arith, counted_at c)

pub overflow_add-number : goal.overflow_add-number
overflow_add-number c = omega (arith, counted_at c)

-- the answer, with the offset as `byte`
record Found (shape : Geometry) (place : Place) (n byte : ℕ) : Type 0 where
  low : n < 2 ^ 31
  short : byte < 64
  exact : Some (64 * n + byte) ≡ address_of shape place
  below : 64 * n + byte < capacity_of shape
  back : place_of shape (64 * n + byte) ≡ Some place

found : (shape : Geometry) (place digits : Place) (i n w byte : ℕ) → IsInRange shape place → digits ≡ with_bank_xor shape place → 6 ≤ i → n + w * number_of (size_of shape) (drop i shape.map) (digit_in digits) ≡ number_of (size_of shape) shape.map (digit_in digits) → byte ≡ place.offset → Found shape place n byte
unfolding address_in
found shape place digits i n w byte inside digits_is past number byte_is =
    let none : drop i shape.map ≡ [] = drop_of_length-le shape.map (omega (arith, length-map shape)) in
    let total : n ≡ number_of (size_of shape) shape.map (digit_in (with_bank_xor shape place)) = number-end (size_of shape) _ (digit_in digits) n w _ none number ∙ ap (λ p. number_of (size_of shape) shape.map (digit_in p)) digits_is in
    let is : 64 * n + byte ≡ address_in shape place = ap (λ t. 64 * t + byte) total ∙ ap (λ b. 64 * number_of (size_of shape) shape.map (digit_in (with_bank_xor shape place)) + b) byte_is in
    record {
      low = omega (arith, number-below shape place inside, numbers-bound shape);
      short = omega (arith, inside.offset);
      exact = ap (λ a. Some a) is ∙ sym (address_of-inside shape place inside);
      below = rw is (address_in-below shape place inside);
      back = ap (place_of shape) is ∙ place_of-address shape place inside;
    }

found_at : (c : goal.After-from-2) → Found c.args.self.now.geometry c.args.place c.loop-digit.number c.from-2.result
found_at c =
    let inside = IsInRange-test c.args.self.now.geometry c.args.place (sym c.is_in_range.ensures ∙ c.if-not-is_in_range.false) in
    found _ _ _ _ _ c.loop-digit.weight _ inside c.with_bank_xor-digits.ensures c.loop-digit-test.false c.loop-digit.invariant.number c.from-2.ensures

pub overflow_mul-result : goal.overflow_mul-result
overflow_mul-result c =
    let inside = IsInRange-test c.args.self.now.geometry c.args.place (sym c.is_in_range.ensures ∙ c.if-not-is_in_range.false) in
    let answer = found _ _ _ _ _ c.loop-digit.weight _ inside c.with_bank_xor-digits.ensures c.loop-digit-test.false c.loop-digit.invariant.number refl in
    omega (arith, answer.low)

pub overflow_add-result : goal.overflow_add-result
overflow_add-result c = omega (arith, (found_at c).low, (found_at c).short)

pub returns-clause-exact : goal.returns-clause-exact
returns-clause-exact c = (found_at c).exact

pub returns-clause-below : goal.returns-clause-below
returns-clause-below c = (found_at c).below

pub returns-clause-back : goal.returns-clause-back
returns-clause-back c = (found_at c).back
