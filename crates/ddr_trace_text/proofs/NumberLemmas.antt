-- Numbers in decimal digits, read digit by digit.
use Rattle.std.proofs.Common.{◌≡◌, ℕ, ◌+◌, ◌*◌, ◌^◌, ◌<◌, ◌≤◌, Bool, true, false, List, length, get_or, take, Option, Some, None, refl, sym, ◌∙◌, arith, rules}
use Rattle.std.specs.Prelude.{IfNone}
use Rattle.std.specs.Char.{digit_value, is_ascii_digit}
use Rattle.std.specs.List.{list_all}
use Rattle.std.specs.Str.Parse.{digits_value}
use Rattle.std.proofs.lemmas.Int.Digits.{digits_value_more}
use Rattle.std.proofs.lemmas.List.Folds.{list_all_at}
use Rattle.std.proofs.lemmas.Str.Parse.{IsNumeralModel, digits_value-take-le, numerals_by_value}

-- `list_all is_ascii_digit` tells the texts of digits
pub digits_are : IsNumeralModel (λ ds. list_all is_ascii_digit ds ≡ true) (digits_value 10)
digits_are = numerals_by_value _ (search rules)

true_unless_false : (b : Bool) → (b ≡ false → false ≡ true) → b ≡ true
true_unless_false true not_false = refl
true_unless_false false not_false = not_false refl

-- a byte among digits is one
digit_at : (xs : List ℕ) (i : ℕ) → i < length xs → list_all is_ascii_digit xs ≡ true → is_ascii_digit (get_or xs i 0) ≡ true
digit_at xs i below digits = true_unless_false _ (λ other. sym (list_all_at is_ascii_digit xs i 0 below other) ∙ digits)

-- where the digits up to here spell a number that is too great, all of them do
pub too_great : (r : Option ℕ) (xs : List ℕ) (i number : ℕ) → i < length xs → number ≡ digits_value 10 (take i xs) → (is_ascii_digit (get_or xs i 0) ≡ true → 2 ^ 64 ≤ number * 10 + digit_value (get_or xs i 0))
    → IfNone r (list_all is_ascii_digit xs ≡ true → 2 ^ 64 ≤ digits_value 10 xs)
too_great (Some n) xs i number below so_far great = search rules
too_great None xs i number below so_far great = λ digits.
    let here = great (digit_at xs i below digits) in
    omega (arith, here, digits_value_more 10 xs i below, digits_value-take-le 10 xs (i + 1) (omega arith))
