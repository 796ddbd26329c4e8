-- Where the places of the stored rows' lines stand among the words.
use Rattle.std.specs.Prelude.{◌≡◌, ℕ, ◌+◌, ◌<◌, ◌≤◌, ◌^◌, ◌==◌, ◌&&◌, nat_le, nat_lt, if◌then◌else◌, List, length, map, take, drop, replicate, sum_by, slice_index_or, All, vec_len, vec_capacity}
use Rattle.ddr_row_array.specs.declared.slot.StoredRow.{StoredRow}
use Rattle.ddr_row_array.specs.declared.slot.Slots.TheInside.{Inside}
use Rattle.ddr_row_array.specs.Placed.{PlacedRow, PlacedRows}

-- the table that begins there
abbrev pub table_at : ℕ → List ℕ → ℕ → List ℕ
table_at width words start = take width (drop start words)

abbrev pub placed_of : ℕ → List ℕ → StoredRow → PlacedRow
placed_of width words s = record { address = s.address; places = table_at width words s.start }

abbrev pub placed_rows : Inside → PlacedRows
placed_rows a = record {
  width = a.width;
  items = map (placed_of a.width a.words.items) a.rows.items;
  has_room = nat_lt (vec_len a.rows) (vec_capacity a.rows) && nat_le (length a.words.items + a.untabled + a.width) a.words.capacity;
}

-- how many words the row's table takes that was not made
abbrev pub untabled_in : ℕ → StoredRow → ℕ
untabled_in width s = if s.start == 0 then width else 0

pub record IsTabled (a : Inside) : Type 0 where
  pub narrow : a.width < 2 ^ 32
  -- zeros stand first
  pub zeros : table_at a.width a.words.items 0 ≡ replicate a.width 0
  -- each row has a table
  pub within : All (λ s. s.start + a.width ≤ length a.words.items) a.rows.items
  -- the tables stand behind the zeros
  pub behind : All (λ s. 0 < s.start → a.width ≤ s.start) a.rows.items
  -- no two rows share a word, but for the zeros
  pub apart : (i j l m : ℕ) (d : StoredRow) → i < length a.rows.items → j < length a.rows.items → l < a.width → m < a.width
      → 0 < (slice_index_or a.rows.items i d).start → (slice_index_or a.rows.items i d).start + l ≡ (slice_index_or a.rows.items j d).start + m → i ≡ j
  -- there is room for each table that was not made
  pub counted : a.untabled ≡ sum_by (untabled_in a.width) a.rows.items
  pub room : length a.words.items + a.untabled ≤ a.words.capacity
  pub bounded : a.words.capacity ≤ 2 ^ 57
