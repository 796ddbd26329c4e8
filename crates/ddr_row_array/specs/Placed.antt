-- What contracts see of the stored rows: of each the places of its lines.
use Rattle.std.specs.Prelude.{ℕ, ◌<◌, Bool, List, [], length, slice_get, slice_index, slice_set}
use Rattle.std.specs.Option.{option_map_or}
use Rattle.ddr_row_array.specs.declared.slot.RowAddress.{RowAddress}

-- a stored row, with the place of each of its lines
pub record PlacedRow : Type 0 where
  pub address : RowAddress
  pub places : List ℕ

-- the stored rows, how many lines each has, and whether there is room for one more
pub record PlacedRows : Type 0 where
  pub width : ℕ
  pub items : List PlacedRow
  pub has_room : Bool

-- the place of a line of a slot; 0 where there is no such slot or line
abbrev pub place_at : List PlacedRow → ℕ → ℕ → ℕ
place_at slots slot line = slice_index (option_map_or (λ s. s.places) (slice_get slots slot) []) line

-- a row of which a line has another place
abbrev pub placed : PlacedRow → ℕ → ℕ → PlacedRow
placed s line place = record s { places = slice_set s.places line place }

-- there is a slot of that number, and a line of a row
pub record HasPlace (s : PlacedRows) (slot line : ℕ) : Type 0 where
  pub in_slots : slot < length s.items
  pub in_row : line < s.width
