-- How names and values are told, within a line.
use Rattle.std.specs.Prelude.{codes, ℕ, List, [], ◌∷◌, ◌++◌, map, true, false, ◌&&◌, nat_le, nat_lt, if◌then◌else◌}
use Rattle.std.specs.Fmt.{signed_decimal}
use Rattle.toml.specs.Data.{Data, string, integer, float, boolean, datetime, array, table}

-- a byte that prints in ASCII, and a question mark for another
abbrev pub printed : ℕ → ℕ
printed byte = if nat_le 32 byte && nat_lt byte 127 then byte else 63

abbrev pub plain : List ℕ → List ℕ
plain text = map printed text

-- the value as it is told: in full where it is an integer, a flag or a text, else its type
unfoldable pub shown : Data → List ℕ
shown (integer n) = signed_decimal n
shown (boolean true) = codes "true"
shown (boolean false) = codes "false"
shown (string text) = 34 ∷ (plain text ++ 34 ∷ [])
shown (float _) = codes "a float"
shown (datetime _) = codes "a date"
shown (array _) = codes "an array"
shown (table _) = codes "a table"
