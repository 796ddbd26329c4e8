-- Mixed radix over an order of digits: digits to number and back.
use Rattle.std.proofs.Common.{◌≡◌, ℕ, ◌&&◌, ◌+◌, ◌*◌, ◌/◌, ◌%◌, ◌^◌, ◌<◌, ◌≤◌, List, [], ◌∷◌, length, Bool, true, false, cond, count_by, IsTrue, refl, sym, ap, ◌∙◌, arith, add_comm, add-one, zero-add}
use Rattle.std.proofs.Math.Nat.{mul-pos, pow-succ', pow-zero, mod-lt, mod-eq_of_lt, div-eq_of_lt, div-add-mod, add-mul-mod_self_left, add-mul-div_left, mul-le-mul_left, div-lt_iff_lt-mul, mul_comm}
use Rattle.std.proofs.lemmas.Bool.Decides.{nat_tests}
use Rattle.std.proofs.Math.Numerals.{unary_clauses}
use Rattle.std.proofs.lemmas.Bool.{eqb-true}
use Rattle.std.proofs.lemmas.List.Recursion.{is_sum_by}
use Rattle.ddr_timing.specs.declared.geometry.Digit.{Digit}
use Rattle.ddr_timing.specs.declared.geometry.Digit.TheVariants.{Channel, Group, Bank, Column, Row, Rank}
use Rattle.ddr_timing.specs.Order.{same_digit, stands_once, each_once}
use Rattle.ddr_address_map.specs.Map.{digit_of, number_of}

-- one digit is the same as itself, and as no other
pub same_digit-self : (d : Digit) → same_digit d d ≡ true
same_digit-self Channel = refl
same_digit-self Group = refl
same_digit-self Bank = refl
same_digit-self Column = refl
same_digit-self Row = refl
same_digit-self Rank = refl

pub same_digit-eq : (d e : Digit) → same_digit d e ≡ true → d ≡ e
same_digit-eq Channel Channel h = refl
same_digit-eq Group Group h = refl
same_digit-eq Bank Bank h = refl
same_digit-eq Column Column h = refl
same_digit-eq Row Row h = refl
same_digit-eq Rank Rank h = refl
same_digit-eq _ _ h = cc

-- how often a digit stands in the order
unfoldable pub times : List Digit → Digit → ℕ
times [] digit = 0
times (first ∷ rest) digit = cond (same_digit digit first) 1 0 + times rest digit

pub times-here : (first : Digit) (rest : List Digit) (d : Digit) → same_digit d first ≡ true → times (first ∷ rest) d ≡ 1 + times rest d
unfolding times
times-here first rest d h = rw h

pub times-later : (first : Digit) (rest : List Digit) (d : Digit) → same_digit d first ≡ false → times (first ∷ rest) d ≡ times rest d
unfolding times
times-later first rest d h = rw h (omega arith)

pub times-rest : (first : Digit) (rest : List Digit) (d : Digit) → times rest d ≤ times (first ∷ rest) d
unfolding times
times-rest first rest d = omega arith

-- the product of the sizes
unfoldable pub numbers : (Digit → ℕ) → List Digit → ℕ
numbers size [] = 1
numbers size (first ∷ rest) = size first * numbers size rest

pub digit_of-here : (size : Digit → ℕ) (first : Digit) (rest : List Digit) (n : ℕ) (d : Digit) → same_digit d first ≡ true → digit_of size (first ∷ rest) n d ≡ n % size first
unfolding digit_of
digit_of-here size first rest n d h = rw h

pub digit_of-later : (size : Digit → ℕ) (first : Digit) (rest : List Digit) (n : ℕ) (d : Digit) → same_digit d first ≡ false → digit_of size (first ∷ rest) n d ≡ digit_of size rest (n / size first) d
unfolding digit_of
digit_of-later size first rest n d h = rw h

-- each digit is below its size
pub digit_of-below : (size : Digit → ℕ) → ((d : Digit) → 0 < size d) → (order : List Digit) (n : ℕ) (d : Digit) → digit_of size order n d < size d
unfolding digit_of
digit_of-below size positive [] n d = positive d
digit_of-below size positive (first ∷ rest) n d = by_test (same_digit d first) refl (digit_of-below size positive rest (n / size first) d)
  where
    by_test : (b : Bool) → same_digit d first ≡ b → digit_of size rest (n / size first) d < size d → digit_of size (first ∷ rest) n d < size d
    by_test true is _ =
        let at : digit_of size (first ∷ rest) n d ≡ n % size first = digit_of-here size first rest n d is in
        let same : size d ≡ size first = ap size (same_digit-eq d first is) in
        let low : n % size first < size first = mod-lt n (positive first) in
        omega arith
    by_test false is low =
        let at : digit_of size (first ∷ rest) n d ≡ digit_of size rest (n / size first) d = digit_of-later size first rest n d is in
        omega arith

-- numbers with the same digits are the same
pub number_of-same : (size : Digit → ℕ) (order : List Digit) (f g : Digit → ℕ) → ((d : Digit) → 0 < times order d → f d ≡ g d) → number_of size order f ≡ number_of size order g
unfolding number_of
number_of-same size [] f g same = refl
number_of-same size (first ∷ rest) f g same =
    let there : times (first ∷ rest) first ≡ 1 + times rest first = times-here first rest first (same_digit-self first) in
    let here : f first ≡ g first = same first (omega arith) in
    let later : number_of size rest f ≡ number_of size rest g = number_of-same size rest f g (λ d p. same d (omega (arith, times-rest first rest d))) in
    rw (here, later)

-- a number's digits give the number back
pub number_of-digits : (size : Digit → ℕ) → ((d : Digit) → 0 < size d) → (order : List Digit) → ((d : Digit) → times order d ≤ 1) → (n : ℕ) → n < numbers size order → number_of size order (digit_of size order n) ≡ n
unfolding number_of numbers
number_of-digits size positive [] once n low = omega arith
number_of-digits size positive (first ∷ rest) once n low =
    let here : digit_of size (first ∷ rest) n first ≡ n % size first = digit_of-here size first rest n first (same_digit-self first) in
    let others : number_of size rest (digit_of size (first ∷ rest) n) ≡ number_of size rest (digit_of size rest (n / size first)) = number_of-same size rest _ _ (λ d p. other d p (same_digit d first) refl) in
    let below : n / size first < numbers size rest = (div-lt_iff_lt-mul (positive first)).1 (omega (arith, mul_comm (numbers size rest) (size first))) in
    let back : number_of size rest (digit_of size rest (n / size first)) ≡ n / size first = number_of-digits size positive rest (λ d. omega (arith, once d, times-rest first rest d)) (n / size first) below in
    rw (here, others, back) (omega (arith, div-add-mod n (size first)))
  where
    other : (d : Digit) → 0 < times rest d → (b : Bool) → same_digit d first ≡ b → digit_of size (first ∷ rest) n d ≡ digit_of size rest (n / size first) d
    other d p true is = absurd (omega (arith, once d, times-here first rest d is))
    other d p false is = digit_of-later size first rest n d is

-- a number with digits below their sizes is below their product
pub number_of-below : (size : Digit → ℕ) (order : List Digit) (f : Digit → ℕ) → ((d : Digit) → f d < size d) → number_of size order f < numbers size order
unfolding number_of numbers
number_of-below size [] f low = omega arith
number_of-below size (first ∷ rest) f low =
    let later : number_of size rest f + 1 ≤ numbers size rest = omega (arith, number_of-below size rest f low) in
    omega (arith, low first, mul-le-mul_left (size first) later)

-- the digits of a number that was made of digits
pub digit_of-number : (size : Digit → ℕ) (order : List Digit) (f : Digit → ℕ) → ((d : Digit) → f d < size d) → (d : Digit) → 0 < times order d → digit_of size order (number_of size order f) d ≡ f d
unfolding number_of times
digit_of-number size [] f low d p = absurd (omega arith)
digit_of-number size (first ∷ rest) f low d p = by_test (same_digit d first) refl (λ there. digit_of-number size rest f low d there)
  where
    by_test : (b : Bool) → same_digit d first ≡ b → (0 < times rest d → digit_of size rest (number_of size rest f) d ≡ f d) → digit_of size (first ∷ rest) (f first + size first * number_of size rest f) d ≡ f d
    by_test true is _ =
        let at : digit_of size (first ∷ rest) (f first + size first * number_of size rest f) d ≡ (f first + size first * number_of size rest f) % size first = digit_of-here size first rest _ d is in
        let same : f d ≡ f first = ap f (same_digit-eq d first is) in
        at ∙ add-mul-mod_self_left (f first) (size first) (number_of size rest f) ∙ mod-eq_of_lt (low first) ∙ sym same
    by_test false is later =
        let there : 0 < times rest d = omega (arith, times-later first rest d is) in
        let quotient : (f first + size first * number_of size rest f) / size first ≡ number_of size rest f = add-mul-div_left (f first) (number_of size rest f) (omega (arith, low first)) ∙ ap (λ q. q + number_of size rest f) (div-eq_of_lt (low first)) ∙ omega arith in
        digit_of-later size first rest _ d is ∙ ap (λ q. digit_of size rest q d) quotient ∙ later there

-- an accepted order has each digit once
times-count_by : (d : Digit) (order : List Digit) → times order d ≡ count_by (same_digit d) order
unfolding times
times-count_by d order = is_sum_by (λ o. times o d) (λ e. cond (same_digit d e) 1 0) refl (λ _ _. refl) order

stands_once-each : (order : List Digit) → IsTrue (each_once order) → (d : Digit) → stands_once order d ≡ true
stands_once-each order once d = by_digit (stands_once order) once d
  where
    by_digit : (f : Digit → Bool) → (f Channel && f Group && f Bank && f Column && f Row && f Rank) ≡ true → (d : Digit) → f d ≡ true
    by_digit f h Channel = grind (arith, nat_tests)
    by_digit f h Group = grind (arith, nat_tests)
    by_digit f h Bank = grind (arith, nat_tests)
    by_digit f h Column = grind (arith, nat_tests)
    by_digit f h Row = grind (arith, nat_tests)
    by_digit f h Rank = grind (arith, nat_tests)

pub times-each_once : (order : List Digit) → IsTrue (each_once order) → (d : Digit) → times order d ≡ 1
times-each_once order once d = times-count_by d order ∙ eqb-true _ _ (stands_once-each order once d)

-- an accepted order has six digits
count_one : (first : Digit) → cond (same_digit Channel first) 1 0 + cond (same_digit Group first) 1 0 + cond (same_digit Bank first) 1 0 + cond (same_digit Column first) 1 0 + cond (same_digit Row first) 1 0 + cond (same_digit Rank first) 1 0 ≡ 1
count_one Channel = refl
count_one Group = refl
count_one Bank = refl
count_one Column = refl
count_one Row = refl
count_one Rank = refl

length-times : (order : List Digit) → length order ≡ times order Channel + times order Group + times order Bank + times order Column + times order Row + times order Rank
unfolding times
length-times [] = refl
length-times (first ∷ rest) = omega (arith, count_one first, length-times rest)

pub length-each_once : (order : List Digit) → IsTrue (each_once order) → length order ≡ 6
length-each_once order once =
    let each = times-each_once order once in
    omega (arith, length-times order, each Channel, each Group, each Bank, each Column, each Row, each Rank)

-- sizes that are no less than 1 have a product that is no less
pub numbers-positive : (size : Digit → ℕ) → ((d : Digit) → 0 < size d) → (order : List Digit) → 0 < numbers size order
unfolding numbers
numbers-positive size positive [] = omega arith
numbers-positive size positive (first ∷ rest) = mul-pos (positive first) (numbers-positive size positive rest)

one-pow : (n : ℕ) → n ^ 1 ≡ n
one-pow n = pow-succ' n 0 ∙ rw pow-zero (omega arith)

-- the product of the sizes, whatever the order
power_step : (size : Digit → ℕ) (first : Digit) (rest : List Digit) (d : Digit) → size d ^ times (first ∷ rest) d ≡ cond (same_digit d first) (size d) 1 * size d ^ times rest d
unfolding times
power_step size first rest d = by_test (same_digit d first)
  where
    by_test : (b : Bool) → size d ^ (cond b 1 0 + times rest d) ≡ cond b (size d) 1 * size d ^ times rest d
    by_test true = rw add_comm (rw add-one (pow-succ' (size d) (times rest d)))
    by_test false = rw zero-add (omega arith)

one_of_six : (size : Digit → ℕ) (first : Digit) → cond (same_digit Channel first) (size Channel) 1 * cond (same_digit Group first) (size Group) 1 * cond (same_digit Bank first) (size Bank) 1 * cond (same_digit Column first) (size Column) 1 * cond (same_digit Row first) (size Row) 1 * cond (same_digit Rank first) (size Rank) 1 ≡ size first
one_of_six size Channel = omega arith
one_of_six size Group = omega arith
one_of_six size Bank = omega arith
one_of_six size Column = omega arith
one_of_six size Row = omega arith
one_of_six size Rank = omega arith

regroup : (a b c d e f p q r s t u : ℕ) → (a * p) * (b * q) * (c * r) * (d * s) * (e * t) * (f * u) ≡ (a * b * c * d * e * f) * (p * q * r * s * t * u)
regroup a b c d e f p q r s t u = omega arith

unfoldable powers : (Digit → ℕ) → (Digit → ℕ) → ℕ
powers size count = size Channel ^ count Channel * size Group ^ count Group * size Bank ^ count Bank * size Column ^ count Column * size Row ^ count Row * size Rank ^ count Rank

powers_step : (size : Digit → ℕ) (first : Digit) (rest : List Digit) → size first * powers size (times rest) ≡ powers size (times (first ∷ rest))
unfolding powers
powers_step size first rest =
    let step = power_step size first rest in
    sym (rw (step Channel, step Group, step Bank, step Column, step Row, step Rank, regroup, one_of_six size first) refl)

numbers-powers : (size : Digit → ℕ) (order : List Digit) → numbers size order ≡ powers size (times order)
unfolding numbers powers times
numbers-powers size [] = simp unary_clauses (omega arith)
numbers-powers size (first ∷ rest) = ap (λ n. size first * n) (numbers-powers size rest) ∙ powers_step size first rest

pub numbers-each_once : (size : Digit → ℕ) (order : List Digit) → IsTrue (each_once order) → numbers size order ≡ size Channel * size Group * size Bank * size Column * size Row * size Rank
unfolding powers
numbers-each_once size order once =
    let each = times-each_once order once in
    rw (numbers-powers size order, each Channel, each Group, each Bank, each Column, each Row, each Rank) (simp one-pow (omega arith))
