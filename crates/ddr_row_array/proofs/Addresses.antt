-- When two row addresses are one: as the index's order, and as a test of stored rows, says it.
use Rattle.std.proofs.Common.{◌≡◌, ℕ, true, ◌&&◌, eqb, refl, ap, ◌∙◌, arith}
use Rattle.std.specs.declared.cmp.Ordering.{Ordering}
use Rattle.std.specs.declared.cmp.Ordering.TheVariants.{Less, Equal, Greater}
use Rattle.std.specs.Ordering.{is_eq, nat_cmp, ordering_then}
use Rattle.std.proofs.lemmas.Bool.Decides.{nat_tests}
use Rattle.ddr_row_array.specs.declared.slot.RowAddress.{RowAddress}
use Rattle.ddr_row_array.specs.View.{address_cmp}

same_numbers : (m n : ℕ) → is_eq (nat_cmp m n) ≡ eqb m n
same_numbers m n = grind (arith, nat_tests)

both_same : (o p : Ordering) → is_eq (ordering_then o p) ≡ (is_eq o && is_eq p)
both_same Less p = refl
both_same Equal p = refl
both_same Greater p = refl

pub is_eq-address_cmp : (a b : RowAddress) → is_eq (address_cmp a b) ≡ (eqb a.bank b.bank && eqb a.row b.row)
is_eq-address_cmp a b =
    both_same (nat_cmp a.bank b.bank) (nat_cmp a.row b.row)
    ∙ ap (λ t. t && is_eq (nat_cmp a.row b.row)) (same_numbers a.bank b.bank)
    ∙ ap (λ t. eqb a.bank b.bank && t) (same_numbers a.row b.row)

-- two pairs of numbers that test equal are equal
pub same_pair : (a b c d : ℕ) → (eqb a b && eqb c d) ≡ true → (a ≡ b) × (c ≡ d)
same_pair a b c d h = (grind (arith, nat_tests), grind (arith, nat_tests))

-- the test in the other order
pub swapped_pair : (a b c d : ℕ) → (eqb a b && eqb c d) ≡ (eqb b a && eqb d c)
swapped_pair a b c d = grind (arith, nat_tests)
