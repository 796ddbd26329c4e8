-- The bits of a data mask for eight bytes.
use Rattle.std.proofs.Common.{◌≡◌, ℕ, ◌+◌, ◌/◌, ◌%◌, ◌^◌, ◌<◌, bit_and, min, List, get_or, sym, ap, ◌∙◌, refl, arith}
use Rattle.std.specs.Int.{bit_at}
use Rattle.std.proofs.lemmas.Nat.{shr-shr}
use Rattle.std.proofs.lemmas.Nat.Bits.{bit_at_and, bit_at_ones, bit_at-lt, bit_at-zero}
use Rattle.ddr_row_array.specs.Merge.{byte_of}

least_with_one : (b : ℕ) → b < 2 → min b 1 ≡ b
least_with_one b below = omega arith

bit_of_word : (mask start j : ℕ) → j < 8 → bit_at (bit_and (mask / 2 ^ start) 255) j ≡ bit_at mask (start + j)
bit_of_word mask start j below =
    bit_at_and (mask / 2 ^ start) 255 j
    ∙ ap (min (bit_at (mask / 2 ^ start) j)) (bit_at_ones 8 j below)
    ∙ least_with_one (bit_at (mask / 2 ^ start) j) (bit_at-lt (mask / 2 ^ start) j)
    ∙ ap (λ x. x % 2) (shr-shr mask start j)

-- all eight are set
pub whole_word : (mask start j : ℕ) → bit_and (mask / 2 ^ start) 255 ≡ 255 → j < 8 → bit_at mask (start + j) ≡ 1
whole_word mask start j all below =
    sym (bit_of_word mask start j below) ∙ ap (λ n. bit_at n j) all ∙ bit_at_ones 8 j below

-- none is set
pub no_word : (mask start j : ℕ) → bit_and (mask / 2 ^ start) 255 ≡ 0 → j < 8 → bit_at mask (start + j) ≡ 0
no_word mask start j none below =
    sym (bit_of_word mask start j below) ∙ ap (λ n. bit_at n j) none ∙ bit_at-zero j

-- all 64 are set
pub whole_mask : (mask k : ℕ) → mask ≡ 18446744073709551615 → k < 64 → bit_at mask k ≡ 1
whole_mask mask k all below = ap (λ n. bit_at n k) all ∙ bit_at_ones 64 k below

pub byte_of-set : (mask : ℕ) (new old : List ℕ) (i : ℕ) → bit_at mask i ≡ 1 → byte_of mask new old i ≡ get_or new i 0
byte_of-set mask new old i set = rw set refl

pub byte_of-clear : (mask : ℕ) (new old : List ℕ) (i : ℕ) → bit_at mask i ≡ 0 → byte_of mask new old i ≡ get_or old i 0
byte_of-clear mask new old i clear = rw clear refl
