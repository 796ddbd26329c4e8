-- Pairs of digits that are read without saying where a bad one stands.
use Rattle.std.proofs.Common.{◌≡◌, ℕ, ◌+◌, ◌*◌, ◌%◌, ◌/◌, ◌<◌, ◌≤◌, List, length, take, drop, slice_index, slice_set, Option, Some, None, Result, Ok, Err, refl, ap, ◌∙◌, arith}
use Rattle.std.specs.Result.{result_ok}
use Rattle.hex.specs.Hex.{decode_pairs, decode_sized, digit_or_error, hex_digit_value, pair_value, ◌>>=◌}
use Rattle.hex.specs.declared.error.FromHexError.{FromHexError}
use Rattle.hex.proofs.Pairs.{decode_done, decode_err, decode_sized-pairs, decode_step, prepend}

-- the byte of two digits, each of them read or not
abbrev byte_of : ℕ → ℕ → ℕ → Option ℕ → Option ℕ → Result ℕ FromHexError
byte_of a b i high low = digit_or_error a i high >>= λ h. digit_or_error b (i + 1) low >>= λ l. Ok (h * 16 + l)

-- where a byte is read, it is read at every place
read_anywhere : (a b i v : ℕ) (high low : Option ℕ) → Some v ≡ result_ok (byte_of a b 0 high low) → byte_of a b i high low ≡ Ok v
read_anywhere a b i v (Some h) (Some l) read = cc
read_anywhere a b i v (Some h) None read = cc
read_anywhere a b i v None low read = cc

-- where none is read, none is at any place
bad_anywhere : (a b i : ℕ) (high low : Option ℕ) → None ≡ result_ok (byte_of a b 0 high low) → (e : FromHexError) × (byte_of a b i high low ≡ Err e)
bad_anywhere a b i (Some h) (Some l) bad = cc
bad_anywhere a b i (Some h) None bad = (_, refl)
bad_anywhere a b i None low bad = (_, refl)

-- one byte more is read
pub pair_read : (s out : List ℕ) (i v : ℕ) → 2 * i + 1 < length s → i < length out
    → Some v ≡ result_ok (pair_value (slice_index s (2 * i)) (slice_index s (2 * i + 1)) 0)
    → decode_pairs 0 s ≡ prepend (take i out) (decode_pairs (2 * i) (drop (2 * i) s))
    → decode_pairs 0 s ≡ prepend (take (i + 1) (slice_set out i v)) (decode_pairs (2 * (i + 1)) (drop (2 * (i + 1)) s))
pair_read s out i v fits room read so_far =
    let high = slice_index s (2 * i) in
    let low = slice_index s (2 * i + 1) in
    decode_step s out i v fits room (read_anywhere high low (2 * i) v (hex_digit_value high) (hex_digit_value low) read) so_far

-- a pair is no byte, and so the text is refused
pub pair_bad : (s out : List ℕ) (i n : ℕ) → 2 * i + 1 < length s → length s % 2 ≡ 0 → length s / 2 ≡ n
    → None ≡ result_ok (pair_value (slice_index s (2 * i)) (slice_index s (2 * i + 1)) 0)
    → decode_pairs 0 s ≡ prepend (take i out) (decode_pairs (2 * i) (drop (2 * i) s))
    → result_ok (decode_sized s n) ≡ None
pair_bad s out i n fits even half bad so_far =
    let high = slice_index s (2 * i) in
    let low = slice_index s (2 * i + 1) in
    let refused = bad_anywhere high low (2 * i) (hex_digit_value high) (hex_digit_value low) bad in
    ap result_ok (decode_sized-pairs s n even half ∙ decode_err s out i refused.0 fits refused.1 so_far)

-- every pair is read
pub pairs_done : (s out : List ℕ) (i n : ℕ) → length s % 2 ≡ 0 → length s / 2 ≡ n → n ≤ i → length out ≡ n
    → decode_pairs 0 s ≡ prepend (take i out) (decode_pairs (2 * i) (drop (2 * i) s))
    → result_ok (decode_sized s n) ≡ Some out
pairs_done s out i n even half all same so_far =
    ap result_ok (decode_sized-pairs s n even half ∙ decode_done s out i (omega arith) (omega arith) so_far)
