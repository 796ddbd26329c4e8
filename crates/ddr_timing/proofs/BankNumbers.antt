-- The number of a bank is below the count of banks, and tells which bank it is.
use Rattle.std.proofs.Common.{◌≡◌, ℕ, suc, ◌+◌, ◌*◌, ◌<◌, ◌≤◌, ◌&&◌, eqb, sym, ap, refl, arith, inl, inr}
use Rattle.std.proofs.lemmas.Bool.{cases_lt}
use Rattle.std.proofs.lemmas.Bool.Decides.{Decides-and, Decides-eqb, Decides-like, same_from_decides}
use Rattle.std.proofs.Math.Nat.{mul-le-mul_right}
use Rattle.ddr_timing.specs.Banks.{bank_count, bank_number, rank_bank_count}
use Rattle.ddr_timing.specs.declared.geometry.Geometry.{Geometry}
use Rattle.ddr_timing.specs.declared.units.TheConstants.{GROUP_BANKS}

-- the banks of the ranks before it come before a bank
pub bank_number-in_rank : (shape : Geometry) (rank group bank : ℕ) → bank_number shape rank group bank ≡ rank * rank_bank_count shape + (group * GROUP_BANKS + bank)
bank_number-in_rank shape rank group bank = omega arith

pub bank_count-ranks : (shape : Geometry) → bank_count shape ≡ shape.ranks * rank_bank_count shape
bank_count-ranks shape = omega arith

-- a number of two digits is below the product of their sizes
two_digits-below : (high low n size : ℕ) → high < n → low < size → high * size + low < n * size
two_digits-below high low n size high_in low_in =
    let whole : suc high * size ≤ n * size = mul-le-mul_right size high_in in
    omega (arith, whole)

pub bank_number-below : (shape : Geometry) (rank group bank : ℕ) → rank < shape.ranks → group < shape.groups → bank < GROUP_BANKS → bank_number shape rank group bank < bank_count shape
bank_number-below shape rank group bank rank_in group_in bank_in =
    let groups = two_digits-below rank group shape.ranks shape.groups rank_in group_in in
    two_digits-below (rank * shape.groups + group) bank (shape.ranks * shape.groups) 4 groups bank_in

-- and it tells both digits
higher : (high low h l size : ℕ) → low < size → high * size + low ≡ h * size + l → h ≤ high
higher high low h l size low_in same =
    elim (cases_lt high h) [
      | inl less ↦ absurd (let whole : suc high * size ≤ h * size = mul-le-mul_right size less in omega (arith, whole))
      | inr rest ↦ rest
    ]

two_digits-same : (high low h l size : ℕ) → low < size → l < size → high * size + low ≡ h * size + l → (high ≡ h) × (low ≡ l)
two_digits-same high low h l size low_in l_in same =
    let up = higher high low h l size low_in same in
    let down = higher h l high low size l_in (sym same) in
    let is : high ≡ h = omega arith in
    (is, omega (arith, same, ap (λ n. n * size) is))

pub bank_number-same : (shape : Geometry) (r g b rank group bank : ℕ) → g < shape.groups → group < shape.groups → b < GROUP_BANKS → bank < GROUP_BANKS →
    bank_number shape r g b ≡ bank_number shape rank group bank → (r ≡ rank) × (g ≡ group) × (b ≡ bank)
bank_number-same shape r g b rank group bank g_in group_in b_in bank_in same =
    let last = two_digits-same (r * shape.groups + g) b (rank * shape.groups + group) bank 4 b_in bank_in same in
    let first = two_digits-same r g rank group shape.groups g_in group_in last.0 in
    (first.0, first.1, last.1)

-- the same, as tests
nested : {P Q R : Type 0} → P × Q × R → P × (Q × R)
nested all = (all.0, (all.1, all.2))

same_number : (shape : Geometry) (r g b rank group bank : ℕ) → (r ≡ rank) × ((g ≡ group) × (b ≡ bank)) → bank_number shape r g b ≡ bank_number shape rank group bank
same_number shape r g b rank group bank all =
    let rank_is : r ≡ rank = all.0 in
    let group_is : g ≡ group = all.1.0 in
    let bank_is : b ≡ bank = all.1.1 in
    rw (rank_is, group_is, bank_is) refl

pub bank_number-is : (shape : Geometry) (r g b rank group bank : ℕ) → g < shape.groups → group < shape.groups → b < GROUP_BANKS → bank < GROUP_BANKS →
    eqb (bank_number shape r g b) (bank_number shape rank group bank) ≡ (eqb r rank && (eqb g group && eqb b bank))
bank_number-is shape r g b rank group bank g_in group_in b_in bank_in =
    let digits = Decides-and _ _ (Decides-eqb r rank) (Decides-and _ _ (Decides-eqb g group) (Decides-eqb b bank)) in
    let number = bank_number shape r g b in
    let other = bank_number shape rank group bank in
    same_from_decides _ _
    (Decides-like (eqb number other) (λ same. nested (bank_number-same shape r g b rank group bank g_in group_in b_in bank_in same)) (same_number shape r g b rank group bank) (Decides-eqb number other))
    digits
