-- The order of the address digits, and the text that lists it.
use Rattle.std.specs.Prelude.{codes, ℕ, List, [], ◌∷◌, ◌++◌, Bool, true, false, ◌&&◌, count_by, ◌==◌, if◌then◌else◌, Option, Some, None, option_map, option_and_then, find, map}
use Rattle.std.specs.List.{join_with_byte, slice_split}
use Rattle.std.specs.Str.{bytes_eq}
use Rattle.ddr_timing.specs.declared.geometry.Digit.{Digit}
use Rattle.ddr_timing.specs.declared.geometry.Digit.TheVariants.{Channel, Group, Bank, Column, Row, Rank}

abbrev pub same_digit : Digit → Digit → Bool
same_digit Channel Channel = true
same_digit Group Group = true
same_digit Bank Bank = true
same_digit Column Column = true
same_digit Row Row = true
same_digit Rank Rank = true
same_digit _ _ = false

-- the digit stands once in the order
abbrev pub stands_once : List Digit → Digit → Bool
stands_once order digit = count_by (same_digit digit) order == 1

-- each of the six digits stands once in the order
abbrev pub each_once : List Digit → Bool
each_once order =
    stands_once order Channel && stands_once order Group && stands_once order Bank && stands_once order Column && stands_once order Row && stands_once order Rank

-- the word of a digit
abbrev pub word_of : Digit → List ℕ
word_of Channel = codes "channel"
word_of Group = codes "group"
word_of Bank = codes "bank"
word_of Column = codes "column"
word_of Row = codes "row"
word_of Rank = codes "rank"

abbrev pub digits : List Digit
digits = Channel ∷ Group ∷ Bank ∷ Column ∷ Row ∷ Rank ∷ []

-- the digit that has the word
unfoldable pub digit_of : List ℕ → Option Digit
digit_of word = find (λ digit. bytes_eq word (word_of digit)) digits

-- the digits that have the words, if each word is one of a digit
abbrev pub digits_of : List (List ℕ) → Option (List Digit)
digits_of [] = Some []
digits_of (word ∷ words) =
    option_and_then (λ digit. option_map (λ more. digit ∷ more) (digits_of words)) (digit_of word)

-- the text of an order: the words of its digits, with one space between two
abbrev pub text_of : List Digit → List ℕ
text_of order = join_with_byte 32 (map word_of order)

-- the words of a text, which stand between its spaces
abbrev pub words_of : List ℕ → List (List ℕ)
words_of text = slice_split (λ byte. byte == 32) text

-- the order that a text lists: the word of each digit once, with one space between two
unfoldable pub order_of : List ℕ → Option (List Digit)
order_of text =
    option_and_then (λ order. if each_once order then Some order else None) (digits_of (words_of text))

-- the text of an order, of a text of a version: version 1 has no word for the rank, which is behind the five others
abbrev pub whole_text : ℕ → List ℕ → List ℕ
whole_text version text = if version == 2 then text else text ++ codes " rank"
