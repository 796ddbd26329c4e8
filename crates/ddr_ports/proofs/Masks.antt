-- The data mask of a run of bytes.
use Rattle.std.proofs.Common.{◌≡◌, ℕ, ◌+◌, ◌-◌, ◌*◌, ◌/◌, ◌%◌, ◌^◌, ◌<◌, ◌≤◌, ◌∙◌, ap, ap₂, sym, arith, lit<}
use Rattle.std.proofs.Math.Nat.{mod-eq_of_lt, mul-sub, mul_comm, mul-one, one-le-pow, pow-le-pow_right}
use Rattle.std.proofs.lemmas.Nat.{pow-add}
use Rattle.std.proofs.lemmas.Nat.Bits.{ones_shr}
use Rattle.ddr_ports.specs.Asked.{bits_from}

-- so many ones, moved up, are below 2 ^ 64
moved_fits : (start count : ℕ) → start + count ≤ 64 → 2 ^ (start + count) - 2 ^ start < 2 ^ 64
moved_fits start count within =
    omega (arith, pow-le-pow_right {n = 2} (lit< tt) within, one-le-pow start 2 (lit< tt), one-le-pow (start + count) 2 (lit< tt))

moved : (start count : ℕ) → (2 ^ count - 1) * 2 ^ start ≡ 2 ^ (start + count) - 2 ^ start
moved start count = mul_comm _ _ ∙ mul-sub (2 ^ start) (2 ^ count) 1 ∙ ap₂ ◌-◌ (sym (pow-add 2 start count)) (mul-one (2 ^ start))

-- what the code computes of the ones of 64 bits
pub bits_from-shifted : (start count : ℕ) → 1 ≤ count → start + count ≤ 64 → (2 ^ 64 - 1) / 2 ^ (64 - count) * 2 ^ start % 2 ^ 64 ≡ bits_from start count
bits_from-shifted start count some within =
    let few : 64 - (64 - count) ≡ count = omega arith in
    let ones : (2 ^ 64 - 1) / 2 ^ (64 - count) ≡ 2 ^ count - 1 = ones_shr 64 (64 - count) (omega arith) ∙ ap (λ n. 2 ^ n - 1) few in
    ap (λ n. n * 2 ^ start % 2 ^ 64) ones ∙ ap (λ n. n % 2 ^ 64) (moved start count) ∙ mod-eq_of_lt (moved_fits start count within)
