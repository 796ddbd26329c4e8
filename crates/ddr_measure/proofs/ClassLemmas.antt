-- How great classes are, and the numbers of one.
use Rattle.std.proofs.Common.{◌≡◌, ◌<◌, ◌≤◌, ℕ, ◌+◌, ◌-◌, ◌*◌, ◌/◌, ◌^◌, zero, subst, sym, arith}
use Rattle.std.specs.Int.Count.{count_leading_zeros}
use Rattle.std.proofs.lemmas.Nat.{leading_length, mul-le, pow-add}
use Rattle.std.proofs.Math.Nat.{div-lt_iff_lt-mul, lt-div-mul-add, one-le-pow, pow-le-pow_right}
use Rattle.ddr_measure.specs.Distributions.{first_of, scale_at, scale_of}

pow_positive : (k : ℕ) → zero < 2 ^ k
pow_positive k = one-le-pow k 2 (omega arith)

-- a number has four digits and as many behind them as its scale says
below_scaled : (value m : ℕ) → value < 2 ^ m → value / 2 ^ (m - 4) ≤ 15
below_scaled value m below =
    let k = m - 4 in
    let wide : 2 ^ m ≤ 2 ^ (k + 4) = pow-le-pow_right {n = 2} (omega arith) {i = m} {j = k + 4} (omega arith) in
    let split : 2 ^ (k + 4) ≡ 2 ^ k * 2 ^ 4 = pow-add 2 k 4 in
    let less : value < 16 * 2 ^ k = omega (arith, below, wide, split) in
    let small : value / 2 ^ k < 16 = (div-lt_iff_lt-mul {k = 2 ^ k} {x = value} {y = 16} (pow_positive k)).1 less in
    omega (arith, small)

pub scaled : (value : ℕ) → value < 2 ^ 64 → (scale_of value ≤ 60) × (value / 2 ^ scale_of value ≤ 15)
scaled value fits =
    let p = leading_length 64 value fits in
    let digits : 64 - count_leading_zeros 64 value ≡ p.0 = omega (arith, p.1) in
    (omega arith, subst (λ m. value / 2 ^ (m - 4) ≤ 15) (sym digits) (below_scaled value p.0 p.2))

-- the four digits of a class are four
first_digits : (class : ℕ) → class - 8 * scale_at class ≤ 15
first_digits class =
    let below : class < class / 8 * 8 + 8 = lt-div-mul-add {a = class} {b = 8} (omega arith) in
    omega (arith, below)

-- the numbers of a class fit
pub width_small : (scale : ℕ) → scale ≤ 60 → 2 ^ scale ≤ 1152921504606846976
width_small scale small = pow-le-pow_right {n = 2} (omega arith) {i = scale} {j = 60} small

pub first_small : (class : ℕ) → scale_at class ≤ 60 → first_of class ≤ 17293822569102704640
first_small class small = mul-le (class - 8 * scale_at class) (2 ^ scale_at class) 15 1152921504606846976 (first_digits class) (width_small (scale_at class) small)
