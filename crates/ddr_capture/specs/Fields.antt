-- The fields of a captured line, and the numbers in them.
use Rattle.std.specs.Prelude.{ℕ, ◌+◌, ◌-◌, ◌*◌, ◌^◌, ◌&&◌, nat_le, nat_lt, ◌==◌, if◌then◌else◌, List, [], ◌∷◌, length, take, drop, map, slice_index, codes, Option, Some, None, option_and_then, option_map}
use Rattle.std.specs.Char.{digit_value, is_ascii_whitespace}
use Rattle.std.specs.List.{prefix_len, slice_split, suffix_len}
use Rattle.std.specs.Str.{bytes_eq}
use Rattle.ddr_trace_text.specs.Parse.{index_of}

-- what stands between the commas
abbrev pub cut : List ℕ → List (List ℕ)
cut text = slice_split (λ byte. byte == 44) text

abbrev pub without_front : List ℕ → List ℕ
without_front field = drop (prefix_len is_ascii_whitespace field) field

abbrev pub without_back : List ℕ → List ℕ
without_back field = take (length field - suffix_len is_ascii_whitespace field) field

-- a field without the white space around it
abbrev pub trimmed : List ℕ → List ℕ
trimmed field = without_back (without_front field)

abbrev pub trimmed_cut : List ℕ → List (List ℕ)
trimmed_cut text = map trimmed (cut text)

-- a number with one hexadecimal digit more, of either case, where it is no more than `most`
abbrev pub with_digit : ℕ → ℕ → ℕ → Option ℕ
with_digit most number digit =
    if nat_lt (digit_value digit) 16 && nat_le (16 * number + digit_value digit) most then Some (16 * number + digit_value digit) else None

abbrev pub hex_after : ℕ → ℕ → List ℕ → Option ℕ
hex_after most number [] = Some number
hex_after most number (digit ∷ more) = option_and_then (λ next. hex_after most next more) (with_digit most number digit)

-- the number that hexadecimal digits spell, one or more, where it is no more than `most`
abbrev pub hex_of : ℕ → List ℕ → Option ℕ
hex_of most digits = if length digits == 0 then None else hex_after most 0 digits

-- a hexadecimal number behind `0x`, below 2^32
abbrev pub hex_index_of : List ℕ → Option ℕ
hex_index_of field = if slice_index field 0 == 48 && slice_index field 1 == 120 then hex_of (2 ^ 32 - 1) (drop 2 field) else None

-- a decimal number, or `-1` for none
abbrev pub decimal_of : List ℕ → Option (Option ℕ)
decimal_of field = if bytes_eq field (codes "-1") then Some None else option_map Some (index_of field)

-- a hexadecimal number, or `-0x1` for none
abbrev pub hexadecimal_of : List ℕ → Option (Option ℕ)
hexadecimal_of field = if bytes_eq field (codes "-0x1") then Some None else option_map Some (hex_index_of field)
