-- Where banks stand in a list.
use Rattle.std.proofs.Common.{◌≡◌, ◌≢◌, ℕ, ◌+◌, ◌*◌, ◌<◌, Bool, true, false, ◌&&◌, ◌==◌, if◌then◌else◌, List, length, slice_index_or, slice_set, get_or-set_same, get_or-set_other, refl, arith}
use Rattle.std.proofs.lemmas.Bool.Decides.{nat_tests}
use Rattle.ddr_timing.specs.declared.units.TheConstants.{GROUP_BANKS}

pub same_number : (n : ℕ) → (n == n) ≡ true
same_number n = grind (arith, nat_tests)

-- a write at a bank's place, read at another bank's place
pub bank_written : {X : Type 0} (xs : List X) (n g b g' b' : ℕ) (v d : X) → length xs ≡ n * GROUP_BANKS → g < n → b < GROUP_BANKS → b' < GROUP_BANKS
    → slice_index_or (slice_set xs (g * GROUP_BANKS + b) v) (g' * GROUP_BANKS + b') d ≡ (if g == g' && b == b' then v else slice_index_or xs (g' * GROUP_BANKS + b') d)
bank_written xs n g b g' b' v d size group bank bank' = by_test (g == g' && b == b') refl
  where
    by_test : (w : Bool) → (g == g' && b == b') ≡ w → slice_index_or (slice_set xs (g * 4 + b) v) (g' * 4 + b') d ≡ (if w then v else slice_index_or xs (g' * 4 + b') d)
    by_test true e =
        let same_group : g ≡ g' = grind (arith, nat_tests) in
        let same_bank : b ≡ b' = grind (arith, nat_tests) in
        let within : g * 4 + b < length xs = omega arith in
        rw (← same_group, ← same_bank) (get_or-set_same xs (g * 4 + b) v d within)
    by_test false e =
        let apart : g' * 4 + b' ≢ g * 4 + b = grind (arith, nat_tests) in
        get_or-set_other xs (g * 4 + b) (g' * 4 + b') v d apart

pub group_written : {X : Type 0} (xs : List X) (n g g' : ℕ) (v d : X) → length xs ≡ n → g < n → slice_index_or (slice_set xs g v) g' d ≡ (if g == g' then v else slice_index_or xs g' d)
group_written xs n g g' v d size group = by_test (g == g') refl
  where
    by_test : (w : Bool) → (g == g') ≡ w → slice_index_or (slice_set xs g v) g' d ≡ (if w then v else slice_index_or xs g' d)
    by_test true e =
        let same : g ≡ g' = grind (arith, nat_tests) in
        let within : g < length xs = omega arith in
        rw (← same) (get_or-set_same xs g v d within)
    by_test false e =
        let apart : g' ≢ g = grind (arith, nat_tests) in
        get_or-set_other xs g g' v d apart
