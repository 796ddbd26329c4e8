-- What calls change of a row array.
use Rattle.std.specs.Prelude.{◌≡◌, ℕ, ◌/◌, Bool, false, ◌&&◌, ◌==◌, if◌then◌else◌, List, replicate, None}
use Rattle.ddr_timing.specs.Banks.{bank_count as banks_of}
use Rattle.ddr_timing.specs.declared.units.TheConstants.{LINE_BYTES, LINE_COLUMNS}
use Rattle.ddr_timing.specs.declared.config.Config.{Config}
use Rattle.ddr_row_array.specs.Rows.{Rows, bank_count, row_count, line_count, open_row, is_stored, cells}

-- every bank is idle, and every byte is 0
pub record IsFresh (config : Config) (a : Rows) : Type 0 where
  pub banks : bank_count a ≡ banks_of config.geometry
  pub rows : row_count a ≡ config.geometry.rows
  pub lines : line_count a ≡ config.geometry.columns / LINE_COLUMNS
  pub idle : (bank : ℕ) → open_row a bank ≡ None
  pub nothing_stored : (bank row : ℕ) → is_stored a bank row ≡ false
  pub zeros : (bank row line : ℕ) → cells a bank row line ≡ replicate LINE_BYTES 0

-- as many banks, rows and lines
pub record SameShape (old new : Rows) : Type 0 where
  pub banks : bank_count new ≡ bank_count old
  pub rows : row_count new ≡ row_count old
  pub lines : line_count new ≡ line_count old

-- the same rows are stored, with the same bytes, in as many banks, rows and lines
pub record SameBytes (old new : Rows) : Type 0 where
  pub shape : SameShape old new
  pub stored : (bank row : ℕ) → is_stored new bank row ≡ is_stored old bank row
  pub bytes : (bank row line : ℕ) → cells new bank row line ≡ cells old bank row line

-- whether two names of lines are one: the bank, the row, the line
abbrev pub is_line : ℕ → ℕ → ℕ → ℕ → ℕ → ℕ → Bool
is_line bank row line b r l = b == bank && (r == row && l == line)

-- the line of the row of the bank has the bytes w, and all else is as it was
pub record Rewrites (old new : Rows) (bank row line : ℕ) (w : List ℕ) : Type 0 where
  pub shape : SameShape old new
  pub opened : (b : ℕ) → open_row new b ≡ open_row old b
  pub stored : (b r : ℕ) → is_stored new b r ≡ is_stored old b r
  pub bytes : (b r l : ℕ) → cells new b r l ≡ (if is_line bank row line b r l then w else cells old b r l)
