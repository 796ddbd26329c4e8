-- Numbers as a text spells them, in decimal digits.
use Rattle.std.specs.Prelude.{ℕ, Bool, ◌&&◌, nat_lt, nat_le, if◌then◌else◌, List, length, Option, Some, None}
use Rattle.std.specs.Char.{is_ascii_digit}
use Rattle.std.specs.List.{list_all}
use Rattle.std.specs.Str.Parse.{digits_value}
use Rattle.ddr_trace_text.specs.declared.number.TheConstants.{MOST_DIGITS}

-- 1 to 20 decimal digits, leading zeros among them, of a number that is at most `most`
abbrev pub is_number : ℕ → List ℕ → Bool
is_number most field =
    nat_lt 0 (length field) && nat_le (length field) MOST_DIGITS && list_all is_ascii_digit field && nat_le (digits_value 10 field) most

unfoldable pub number_of : ℕ → List ℕ → Option ℕ
number_of most field = if is_number most field then Some (digits_value 10 field) else None
