-- What contracts see of a row array: the open row of each bank, and the 64 bytes of each line.
use Rattle.std.specs.Prelude.{ℕ, Bool, ◌&&◌, ◌==◌, nat_lt, if◌then◌else◌, List, [], length, find, replicate, slice_index_or, Option, None, is_some}
use Rattle.ddr_timing.specs.declared.units.TheConstants.{LINE_BYTES}
use Rattle.std.specs.Option.{option_map, option_map_or}

-- a row that is stored, with the 64 bytes of each of its lines
pub record StoredRow : Type 0 where
  pub bank : ℕ
  pub row : ℕ
  pub lines : List (List ℕ)

-- the open row of each bank, how many rows a bank has, how many lines a row has, and the rows that are
-- stored; every other row is all zeros
pub record Rows : Type 0 where
  pub opened : List (Option ℕ)
  pub height : ℕ
  pub width : ℕ
  pub stored : List StoredRow

abbrev pub bank_count : Rows → ℕ
bank_count a = length a.opened

abbrev pub row_count : Rows → ℕ
row_count a = a.height

abbrev pub line_count : Rows → ℕ
line_count a = a.width

-- the row that the bank's sense amplifiers hold; none where the bank is idle, or is no bank
abbrev pub open_row : Rows → ℕ → Option ℕ
open_row a bank = slice_index_or a.opened bank None

abbrev pub is_row : ℕ → ℕ → StoredRow → Bool
is_row bank row stored = stored.bank == bank && stored.row == row

abbrev pub is_stored : Rows → ℕ → ℕ → Bool
is_stored a bank row = is_some (find (is_row bank row) a.stored)

-- a line that was never written
abbrev pub zero_line : List ℕ
zero_line = replicate LINE_BYTES 0

-- the lines that are stored for a row: none for a row that is not stored
abbrev pub row_lines : List StoredRow → ℕ → ℕ → List (List ℕ)
row_lines stored bank row = option_map_or (λ s. s.lines) (find (is_row bank row) stored) []

-- the 64 bytes of a line of a row of a bank, zeros where none are stored
abbrev pub cells : Rows → ℕ → ℕ → ℕ → List ℕ
cells a bank row line = slice_index_or (row_lines a.stored bank row) line zero_line

-- the 64 bytes of a line of the bank's open row; none where the bank is idle or the row has no such line
abbrev pub open_burst : Rows → ℕ → ℕ → Option (List ℕ)
open_burst a bank line =
    if nat_lt line (line_count a) then option_map (λ row. cells a bank row line) (open_row a bank) else None
