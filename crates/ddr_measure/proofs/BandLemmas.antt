-- Which numbers a class has: those from its first to its last, which is the one before the next class's first.
use Rattle.std.proofs.Common.{◌≡◌, ◌<◌, ◌≤◌, ℕ, ◌+◌, ◌-◌, ◌*◌, ◌/◌, ◌^◌, zero, suc, Bool, true, false, leb, ltb, refl, subst, sym, ap, ◌∙◌, arith}
use Rattle.std.specs.Int.Count.{count_leading_zeros}
use Rattle.std.proofs.lemmas.Bool.{leb-false, leb-true, ltb-false, ltb-true}
use Rattle.std.proofs.lemmas.Nat.{div-mul-add, leading_length, pow_pos, pow-add}
use Rattle.std.proofs.Math.Nat.{add-mul, div-lt_iff_lt-mul, div-mul-le_self, div-one, le-div_iff_mul-le, lt-div-mul-add, pow-le-pow_right, two-pow-succ}
use Rattle.ddr_measure.specs.Distributions.{class_of, first_of, last_of, scale_at, scale_of}

-- ---- classes by eights

low_scale : (r : ℕ) → r < 8 → scale_at r ≡ 0
low_scale r within = let below : r / 8 < 1 = (div-lt_iff_lt-mul {k = 8} {x = r} {y = 1} (omega arith)).1 (omega (arith, within)) in omega (arith, below)

pub first_low : (r : ℕ) → r < 8 → first_of r ≡ r
first_low r within = ap (λ s. (r - 8 * s) * 2 ^ s) (low_scale r within) ∙ omega arith

pub last_low : (r : ℕ) → r < 8 → last_of r ≡ r
last_low r within = ap (λ s. (r - 8 * s) * 2 ^ s + (2 ^ s - 1)) (low_scale r within) ∙ omega arith

high_scale : (e r : ℕ) → r < 8 → scale_at (suc e * 8 + r) ≡ e
high_scale e r within = ap (λ k. k - 1) (div-mul-add (suc e) 8 r within) ∙ omega arith

four : (e r : ℕ) → suc e * 8 + r - 8 * e ≡ 8 + r
four e r = omega arith

pub first_high : (e r : ℕ) → r < 8 → first_of (suc e * 8 + r) ≡ (8 + r) * 2 ^ e
first_high e r within = ap (λ s. (suc e * 8 + r - 8 * s) * 2 ^ s) (high_scale e r within) ∙ ap (λ q. q * 2 ^ e) (four e r)

pub last_high : (e r : ℕ) → r < 8 → last_of (suc e * 8 + r) ≡ (8 + r) * 2 ^ e + (2 ^ e - 1)
last_high e r within = ap (λ s. (suc e * 8 + r - 8 * s) * 2 ^ s + (2 ^ s - 1)) (high_scale e r within) ∙ ap (λ q. q * 2 ^ e + (2 ^ e - 1)) (four e r)

-- a class is one of the first eight, or so many eights and a rest
record IsHigh (class : ℕ) : Type 0 where
  e : ℕ
  r : ℕ
  within : r < 8
  is : class ≡ suc e * 8 + r

high : (class : ℕ) → 8 ≤ class → IsHigh class
high class from = go (class / 8) (lt-div-mul-add {a = class} {b = 8} (omega arith)) (div-mul-le_self class 8)
  where
    go : (d : ℕ) → class < d * 8 + 8 → d * 8 ≤ class → IsHigh class
    go zero above below = absurd (omega (arith, from, above))
    go (suc e) above below = record { e = e; r = class - suc e * 8; within = omega (arith, above, below); is = omega (arith, below) }

-- ---- one class behind the other

next_high : (e r : ℕ) → r < 8 → first_of (suc e * 8 + r + 1) ≡ last_of (suc e * 8 + r) + 1
next_high e r within = go (ltb r 7) refl
  where
    some : zero < 2 ^ e
    some = pow_pos e

    go : (b : Bool) → ltb r 7 ≡ b → first_of (suc e * 8 + r + 1) ≡ last_of (suc e * 8 + r) + 1
    go true is =
        let less = ltb-true r 7 is in
        let here : first_of (suc e * 8 + (r + 1)) ≡ (8 + (r + 1)) * 2 ^ e = first_high e (r + 1) (omega (arith, less)) in
        let same : suc e * 8 + r + 1 ≡ suc e * 8 + (r + 1) = omega arith in
        let more : (8 + r + 1) * 2 ^ e ≡ (8 + r) * 2 ^ e + 1 * 2 ^ e = add-mul (8 + r) 1 (2 ^ e) in
        let sum : 8 + (r + 1) ≡ 8 + r + 1 = omega arith in
        ap first_of same ∙ here ∙ ap (λ q. q * 2 ^ e) sum ∙ more ∙ omega (arith, some) ∙ ap (λ n. n + 1) (sym (last_high e r within))
    go false is =
        let seven : r ≡ 7 = let above = ltb-false r 7 is in omega (arith, above, within) in
        let same : suc e * 8 + r + 1 ≡ suc (suc e) * 8 + 0 = omega (arith, seven) in
        let last : last_of (suc e * 8 + r) ≡ (8 + 7) * 2 ^ e + (2 ^ e - 1) = last_high e r within ∙ ap (λ q. (8 + q) * 2 ^ e + (2 ^ e - 1)) seven in
        let double = two-pow-succ e in
        ap first_of same ∙ first_high (suc e) 0 (omega arith) ∙ omega (arith, double, some) ∙ ap (λ n. n + 1) (sym last)

next_low : (r : ℕ) → r < 8 → first_of (r + 1) ≡ last_of r + 1
next_low r within = go (ltb r 7) refl
  where
    go : (b : Bool) → ltb r 7 ≡ b → first_of (r + 1) ≡ last_of r + 1
    go true is = let less = ltb-true r 7 is in first_low (r + 1) (omega (arith, less)) ∙ ap (λ n. n + 1) (sym (last_low r within))
    go false is =
        let seven : r ≡ 7 = let above = ltb-false r 7 is in omega (arith, above, within) in
        let same : r + 1 ≡ suc zero * 8 + 0 = omega (arith, seven) in
        ap first_of same ∙ first_high 0 0 (omega arith) ∙ omega (arith, seven) ∙ ap (λ n. n + 1) (sym (last_low r within))

pub next_class : (class : ℕ) → first_of (class + 1) ≡ last_of class + 1
next_class class = go (ltb class 8) refl
  where
    go : (b : Bool) → ltb class 8 ≡ b → first_of (class + 1) ≡ last_of class + 1
    go true is = next_low class (ltb-true class 8 is)
    go false is = let h = high class (ltb-false class 8 is) in subst (λ c. first_of (c + 1) ≡ last_of c + 1) (sym h.is) (next_high h.e h.r h.within)

pub first_last : (class : ℕ) → first_of class ≤ last_of class
first_last class = omega arith

first_rises : (class k : ℕ) → first_of class ≤ first_of (class + k)
first_rises class zero = let same : first_of (class + zero) ≡ first_of class = ap first_of (omega arith) in omega (arith, same)
first_rises class (suc k) =
    let same : class + suc k ≡ class + k + 1 = omega arith in
    let step : first_of (class + suc k) ≡ last_of (class + k) + 1 = ap first_of same ∙ next_class (class + k) in
    let before = first_rises class k in
    let inside = first_last (class + k) in
    omega (arith, step, before, inside)

pub first_up : (class later : ℕ) → class ≤ later → first_of class ≤ first_of later
first_up class later up = let back : class + (later - class) ≡ later = omega (arith, up) in subst (λ n. first_of class ≤ first_of n) back (first_rises class (later - class))

pub last_up : (class later : ℕ) → class ≤ later → last_of class ≤ last_of later
last_up class later up =
    let one = next_class class in
    let other = next_class later in
    let rises = first_up (class + 1) (later + 1) (omega (arith, up)) in
    omega (arith, one, other, rises)

-- ---- a number stands in its class

pub record IsInside (value class : ℕ) : Type 0 where
  pub from : first_of class ≤ value
  pub to : value ≤ last_of class

pub inside : (value : ℕ) → value < 2 ^ 64 → IsInside value (class_of value)
inside value fits = let p = leading_length 64 value fits in go p.0 (digits p.0 p.1) p.2 p.3
  where
    digits : (m : ℕ) → count_leading_zeros 64 value + m ≡ 64 → scale_of value ≡ m - 4
    digits m sum = let is : 64 - count_leading_zeros 64 value ≡ m = omega (arith, sum) in ap (λ n. n - 4) is

    class_is : (s : ℕ) → scale_of value ≡ s → class_of value ≡ 8 * s + value / 2 ^ s
    class_is s is = ap (λ k. 8 * k + value / 2 ^ k) is

    small : (r : ℕ) → class_of value ≡ value → value ≡ r → r < 16 → IsInside value (class_of value)
    small r is at few = low (ltb value 8) refl
      where
        low : (b : Bool) → ltb value 8 ≡ b → IsInside value (class_of value)
        low true less =
            let within = ltb-true value 8 less in
            let one = ap first_of is ∙ first_low value within in
            let other = ap last_of is ∙ last_low value within in
            record { from = omega (arith, one); to = omega (arith, other) }
        low false not_less =
            let above = ltb-false value 8 not_less in
            let same : class_of value ≡ suc zero * 8 + (value - 8) = is ∙ omega (arith, above) in
            let within : value - 8 < 8 = omega (arith, at, few, above) in
            let one = ap first_of same ∙ first_high 0 (value - 8) within in
            let other = ap last_of same ∙ last_high 0 (value - 8) within in
            record { from = omega (arith, one, above); to = omega (arith, other, above) }

    large : (e : ℕ) → scale_of value ≡ suc e → value < 2 ^ (e + 5) → 2 ^ (e + 5) ≤ 2 * value + 1 → IsInside value (class_of value)
    large e is below above =
        let w = 2 ^ suc e in
        let some : zero < w = pow_pos (suc e) in
        let whole : 2 ^ (suc e + 4) ≡ w * 2 ^ 4 = pow-add 2 (suc e) 4 in
        let same_power : e + 5 ≡ suc e + 4 = omega arith in
        let whole_too : 2 ^ (e + 5) ≡ w * 2 ^ 4 = ap (λ n. 2 ^ n) same_power ∙ whole in
        let less : value < 16 * w = omega (arith, below, whole_too) in
        let enough : 8 * w ≤ value = omega (arith, above, whole_too) in
        let q = value / w in
        let q_less : q < 16 = (div-lt_iff_lt-mul {k = w} {x = value} {y = 16} some).1 less in
        let q_from : 8 ≤ q = (le-div_iff_mul-le {k = w} {x = 8} {y = value} some).1 enough in
        let within : q - 8 < 8 = omega (arith, q_less) in
        let same : class_of value ≡ suc (suc e) * 8 + (q - 8) = class_is (suc e) is ∙ omega (arith, q_from) in
        let back : 8 + (q - 8) ≡ q = omega (arith, q_from) in
        let one : first_of (class_of value) ≡ q * w = ap first_of same ∙ first_high (suc e) (q - 8) within ∙ ap (λ n. n * w) back in
        let other : last_of (class_of value) ≡ q * w + (w - 1) = ap last_of same ∙ last_high (suc e) (q - 8) within ∙ ap (λ n. n * w + (w - 1)) back in
        let floor : q * w ≤ value = div-mul-le_self value w in
        let ceiling : value < q * w + w = lt-div-mul-add {a = value} {b = w} some in
        record { from = omega (arith, one, floor); to = omega (arith, other, ceiling, some) }

    go : (m : ℕ) → scale_of value ≡ m - 4 → value < 2 ^ m → 2 ^ m ≤ 2 * value + 1 → IsInside value (class_of value)
    go m is below above = split (leb m 4) refl
      where
        split : (b : Bool) → leb m 4 ≡ b → IsInside value (class_of value)
        split true few =
            let at_most = leb-true m 4 few in
            let wide : 2 ^ m ≤ 2 ^ 4 = pow-le-pow_right {n = 2} (omega arith) {i = m} {j = 4} at_most in
            let none : scale_of value ≡ 0 = is ∙ omega (arith, at_most) in
            let same : class_of value ≡ value = class_is 0 none ∙ ap (λ n. 8 * 0 + n) (div-one value) ∙ omega arith in
            small value same refl (omega (arith, below, wide))
        split false many =
            let over = leb-false m 4 many in
            let exponent : m ≡ m - 5 + 5 = omega (arith, over) in
            large (m - 5) (is ∙ omega (arith, over)) (subst (λ n. value < 2 ^ n) exponent below) (subst (λ n. 2 ^ n ≤ 2 * value + 1) exponent above)

-- ---- how wide a class is

-- an eighth of its first number at most,
pub narrow : (class : ℕ) → 8 * (last_of class - first_of class) ≤ first_of class
narrow class = go (ltb class 8) refl
  where
    go : (b : Bool) → ltb class 8 ≡ b → 8 * (last_of class - first_of class) ≤ first_of class
    go true is =
        let within = ltb-true class 8 is in
        let one = first_low class within in
        let other = last_low class within in
        omega (arith, one, other)
    go false is = let h = high class (ltb-false class 8 is) in subst (λ c. 8 * (last_of c - first_of c) ≤ first_of c) (sym h.is) (wide h.e h.r h.within)
      where
        wide : (e r : ℕ) → r < 8 → 8 * (last_of (suc e * 8 + r) - first_of (suc e * 8 + r)) ≤ first_of (suc e * 8 + r)
        wide e r within =
            let one = first_high e r within in
            let other = last_high e r within in
            let parts : (8 + r) * 2 ^ e ≡ 8 * 2 ^ e + r * 2 ^ e = add-mul 8 r (2 ^ e) in
            omega (arith, one, other, parts)

-- and nothing below 16
pub exact_below : (class : ℕ) → last_of class < 16 → last_of class ≡ first_of class
exact_below class small = go (ltb class 8) refl
  where
    go : (b : Bool) → ltb class 8 ≡ b → last_of class ≡ first_of class
    go true is = let within = ltb-true class 8 is in last_low class within ∙ sym (first_low class within)
    go false is = let h = high class (ltb-false class 8 is) in subst (λ c. last_of c ≡ first_of c) (sym h.is) (one h.e h.r h.within (subst (λ c. last_of c < 16) h.is small))
      where
        one : (e r : ℕ) → r < 8 → last_of (suc e * 8 + r) < 16 → last_of (suc e * 8 + r) ≡ first_of (suc e * 8 + r)
        one zero r within few =
            let first = first_high 0 r within in
            let last = last_high 0 r within in
            omega (arith, first, last)
        one (suc e) r within few =
            let last = last_high (suc e) r within in
            let parts : (8 + r) * 2 ^ suc e ≡ 8 * 2 ^ suc e + r * 2 ^ suc e = add-mul 8 r (2 ^ suc e) in
            let double = two-pow-succ e in
            let some = pow_pos e in
            absurd (omega (arith, few, last, parts, double, some))
