-- An input that is read whole.
use Rattle.std.specs.Prelude.{◌≤◌, ◌<◌, ℕ, List, length}
use Rattle.std.specs.Str.{IsUtf8}
use Rattle.ddr_text.specs.declared.input.TheConstants.{LONGEST_INPUT}

-- the input is short enough, and a text
pub record IsText (input : List ℕ) : Type 0 where
  pub short : length input ≤ LONGEST_INPUT
  pub utf8 : IsUtf8 input

abbrev pub IsTooLong : List ℕ → Type 0
IsTooLong input = LONGEST_INPUT < length input

-- the input is short enough, and no text
abbrev pub IsNoText : List ℕ → Type 0
IsNoText input = (length input ≤ LONGEST_INPUT) × (¬ IsUtf8 input)
