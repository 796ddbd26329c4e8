-- The key that is nearest to a name that is none.
use Rattle.std.specs.Prelude.{ℕ, List, length, nat_eq, nat_lt, fold, if◌then◌else◌}
use Rattle.std.specs.Str.{chars}
use Rattle.strsim.specs.Edits.{levenshtein_row}
use Rattle.ddr_timing.specs.declared.key.Key.{Key}
use Rattle.ddr_timing.specs.declared.key.Key.TheVariants.{Version}
use Rattle.ddr_timing.specs.Keys.{name_of}

-- how many characters have to be put in, left out or changed to make the key of the name (Levenshtein's distance)
unfoldable pub distance : List ℕ → Key → ℕ
distance name key = levenshtein_row nat_eq (chars name) (chars (name_of key)) (length (chars (name_of key)))

-- the nearer of two keys, the first where none is
abbrev pub nearer : List ℕ → Key → Key → Key
nearer name first second = if nat_lt (distance name second) (distance name first) then second else first

-- the nearest of `version` and these keys, of several the first
unfoldable pub nearest : List Key → List ℕ → Key
nearest keys name = fold (nearer name) Version keys
