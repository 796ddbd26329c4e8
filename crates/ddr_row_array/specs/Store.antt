-- The stored rows, and where their lines stand.
use Rattle.std.specs.Prelude.{◌≡◌, ℕ, ◌+◌, ◌<◌, ◌≤◌, ◌^◌, ◌==◌, List, length, map, sum_by, count_by, slice_get, slice_index_or, Some, IsTrue, All}
use Rattle.ddr_row_array.specs.declared.store.Store.{Store}
use Rattle.ddr_row_array.specs.Placed.{PlacedRow, place_at}
use Rattle.ddr_row_array.specs.Rows.{StoredRow, zero_line}

-- the bytes that stand at a place
abbrev pub line_at : List (List ℕ) → ℕ → List ℕ
line_at lines place = slice_index_or lines place zero_line

abbrev pub stored_of : List (List ℕ) → PlacedRow → StoredRow
stored_of lines s = record { bank = s.address.bank; row = s.address.row; lines = map (line_at lines) s.places }

-- the rows that are stored, with their bytes
abbrev pub stored_rows : Store → List StoredRow
stored_rows s = map (stored_of s.lines.items) s.slots.items

-- how many lines of the row were not entered
abbrev pub unentered_in : PlacedRow → ℕ
unentered_in s = count_by (λ place. place == 0) s.places

pub record IsKept (s : Store) : Type 0 where
  pub narrow : s.slots.width < 2 ^ 32
  -- zeros stand at place 0
  pub zeros : slice_get s.lines.items 0 ≡ Some zero_line
  -- a slot has a place for each line of a row
  pub whole : All (λ t. length t.places ≡ s.slots.width) s.slots.items
  -- at each place there is a line
  pub within : (i l : ℕ) → place_at s.slots.items i l < length s.lines.items
  -- no two lines share a place, but for the zeros
  pub apart : (i j l m : ℕ) → place_at s.slots.items i l ≡ place_at s.slots.items j m → 0 < place_at s.slots.items i l → (i ≡ j) × (l ≡ m)
  -- there is room for each line that was not entered
  pub counted : s.unentered ≡ sum_by unentered_in s.slots.items
  pub room : length s.lines.items + s.unentered ≤ s.lines.capacity
  pub bounded : s.lines.capacity ≤ 2 ^ 57

-- there is room for one more row, and each of its lines
pub record HasRoom (s : Store) : Type 0 where
  pub slots : IsTrue s.slots.has_room
  pub lines : length s.lines.items + s.unentered + s.slots.width ≤ s.lines.capacity

-- the same rows stand there, with the same bytes
pub record SameStore (old new : Store) : Type 0 where
  pub width : new.slots.width ≡ old.slots.width
  pub slots : new.slots.items ≡ old.slots.items
  pub lines : new.lines.items ≡ old.lines.items
