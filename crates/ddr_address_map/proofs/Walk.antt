-- One pass over an order of digits: what is left to do at each step, and at the end.
use Rattle.std.proofs.Common.{◌≡◌, ℕ, ◌+◌, ◌*◌, ◌/◌, ◌%◌, ◌<◌, ◌≤◌, List, [], ◌∷◌, Bool, true, false, cond, refl, sym, ap, ◌∙◌, arith}
use Rattle.std.proofs.Math.Nat.{div-div-eq-div-mul, div-one, mul-le-mul_left}
use Rattle.ddr_timing.specs.declared.geometry.Digit.{Digit}
use Rattle.ddr_timing.specs.Order.{same_digit}
use Rattle.ddr_address_map.specs.Map.{digit_of, number_of}
use Rattle.ddr_address_map.proofs.Radix.{times, times-here, times-later, times-rest, numbers}

-- in one pass over the digits, those that were not yet met are as they were
unfoldable pub digit_or : (Digit → ℕ) → List Digit → ℕ → ℕ → Digit → ℕ
digit_or size [] number old digit = old
digit_or size (first ∷ rest) number old digit =
    cond (same_digit digit first) (number % size first) (digit_or size rest (number / size first) old digit)

pub digit_or-none : (size : Digit → ℕ) (number old : ℕ) (d : Digit) → digit_or size [] number old d ≡ old
unfolding digit_or
digit_or-none size number old d = refl

pub digit_or-zero : (size : Digit → ℕ) (order : List Digit) (number : ℕ) (d : Digit) → digit_or size order number 0 d ≡ digit_of size order number d
unfolding digit_or digit_of
digit_or-zero size [] number d = refl
digit_or-zero size (first ∷ rest) number d = ap (λ t. cond (same_digit d first) (number % size first) t) (digit_or-zero size rest (number / size first) d)

digit_or-absent : (size : Digit → ℕ) (order : List Digit) (number old : ℕ) (d : Digit) → times order d ≡ 0 → digit_or size order number old d ≡ old
unfolding digit_or
digit_or-absent size [] number old d none = refl
digit_or-absent size (first ∷ rest) number old d none = by_test (same_digit d first) refl (λ p. digit_or-absent size rest (number / size first) old d p)
  where
    by_test : (b : Bool) → same_digit d first ≡ b → (times rest d ≡ 0 → digit_or size rest (number / size first) old d ≡ old) → cond b (number % size first) (digit_or size rest (number / size first) old d) ≡ old
    by_test true is _ = absurd (omega (arith, times-here first rest d is))
    by_test false is later = later (omega (arith, times-later first rest d is))

pub digit_or-step : (size : Digit → ℕ) (first : Digit) (rest : List Digit) (number old : ℕ) (d : Digit) → times (first ∷ rest) d ≤ 1 → digit_or size (first ∷ rest) number old d ≡ digit_or size rest (number / size first) (cond (same_digit d first) (number % size first) old) d
unfolding digit_or
digit_or-step size first rest number old d once = by_test (same_digit d first) refl
  where
    by_test : (b : Bool) → same_digit d first ≡ b → cond b (number % size first) (digit_or size rest (number / size first) old d) ≡ digit_or size rest (number / size first) (cond b (number % size first) old) d
    by_test true is = sym (digit_or-absent size rest (number / size first) (number % size first) d (omega (arith, times-here first rest d is)))
    by_test false is = refl

-- taking digits off a number: `order` is what the pass has still to do, `first` its next digit, and `s`
-- that digit's size
pub once-step : (order : List Digit) (first : Digit) (rest : List Digit) → order ≡ first ∷ rest → ((d : Digit) → times order d ≤ 1) → (d : Digit) → times rest d ≤ 1
once-step order first rest split once d =
    let here : times order d ≡ times (first ∷ rest) d = ap (λ o. times o d) split in
    omega (arith, once d, times-rest first rest d)

pub quotient-step : (size : Digit → ℕ) (order : List Digit) (first : Digit) (rest : List Digit) (number s q : ℕ) → order ≡ first ∷ rest → s ≡ size first → number / numbers size order ≡ q → (number / s) / numbers size rest ≡ q
unfolding numbers
quotient-step size order first rest number s q split is before =
    div-div-eq-div-mul number s (numbers size rest) ∙ ap (λ t. number / (t * numbers size rest)) is ∙ ap (λ o. number / numbers size o) (sym split) ∙ before

pub quotient-end : (size : Digit → ℕ) (order : List Digit) (number q : ℕ) → order ≡ [] → number / numbers size order ≡ q → number ≡ q
unfolding numbers
quotient-end size order number q ended before = sym (div-one number) ∙ ap (λ o. number / numbers size o) (sym ended) ∙ before

pub digits-step : (size : Digit → ℕ) (order : List Digit) (first : Digit) (rest : List Digit) (number s old new want : ℕ) (d : Digit) → order ≡ first ∷ rest → s ≡ size first → times order d ≤ 1 → new ≡ cond (same_digit d first) (number % s) old → digit_or size order number old d ≡ want → digit_or size rest (number / s) new d ≡ want
digits-step size order first rest number s old new want d split is once set before =
    let once_here : times (first ∷ rest) d ≤ 1 = omega (arith, once, ap (λ o. times o d) split) in
    ap (λ v. digit_or size rest (number / s) v d) set
    ∙ ap (λ t. digit_or size rest (number / t) (cond (same_digit d first) (number % t) old) d) is
    ∙ sym (digit_or-step size first rest number old d once_here)
    ∙ ap (λ o. digit_or size o number old d) (sym split)
    ∙ before

pub digits-end : (size : Digit → ℕ) (order : List Digit) (number old want : ℕ) (d : Digit) → order ≡ [] → digit_or size order number old d ≡ want → old ≡ want
digits-end size order number old want d ended before =
    sym (digit_or-none size number old d) ∙ ap (λ o. digit_or size o number old d) (sym ended) ∙ before

-- adding digits to a number: `w` is the weight of the next digit, and `v` its value
pub weight-step : (size : Digit → ℕ) (order : List Digit) (first : Digit) (rest : List Digit) (w s total : ℕ) → order ≡ first ∷ rest → s ≡ size first → w * numbers size order ≡ total → w * s * numbers size rest ≡ total
unfolding numbers
weight-step size order first rest w s total split is before =
    let now : w * (size first * numbers size rest) ≡ total = ap (λ o. w * numbers size o) (sym split) ∙ before in
    ap (λ t. w * t * numbers size rest) is ∙ omega arith

pub number-step : (size : Digit → ℕ) (order : List Digit) (first : Digit) (rest : List Digit) (f : Digit → ℕ) (n w s v total : ℕ) → order ≡ first ∷ rest → s ≡ size first → v ≡ f first → n + w * number_of size order f ≡ total → n + w * v + w * s * number_of size rest f ≡ total
unfolding number_of
number-step size order first rest f n w s v total split is value before =
    let now : n + w * (f first + size first * number_of size rest f) ≡ total = ap (λ o. n + w * number_of size o f) (sym split) ∙ before in
    ap (λ t. n + w * v + w * t * number_of size rest f) is ∙ ap (λ t. n + w * t + w * size first * number_of size rest f) value ∙ omega arith

pub number-end : (size : Digit → ℕ) (order : List Digit) (f : Digit → ℕ) (n w total : ℕ) → order ≡ [] → n + w * number_of size order f ≡ total → n ≡ total
unfolding number_of
number-end size order f n w total ended before =
    let now : n + w * 0 ≡ total = ap (λ o. n + w * number_of size o f) (sym ended) ∙ before in
    omega arith

-- a factor of a product with a positive number is no more than the product
pub factor_le : (a b total : ℕ) → 0 < b → a * b ≡ total → a ≤ total
factor_le a b total positive is = omega (arith, mul-le-mul_left a positive)
