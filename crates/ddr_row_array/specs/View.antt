-- What a row array's fields stand for.
use Rattle.std.specs.Prelude.{◌≡◌, ℕ, ◌/◌, Bool, if◌then◌else◌, List, [], ◌∷◌, map, Option, Some, None, vec_len, slice_index_or}
use Rattle.ddr_timing.specs.Banks.{bank_count as banks_of}
use Rattle.ddr_timing.specs.declared.units.TheConstants.{LINE_COLUMNS}
use Rattle.std.specs.Option.{ForSome, option_map}
use Prim.Native.Nat.{suc}
use Rattle.std.specs.Ordering.{nat_cmp, ordering_then}
use Rattle.std.specs.declared.cmp.Ordering.{Ordering}
use Rattle.std.specs.BTreeMap.{get}
use Rattle.ddr_row_array.specs.declared.store.Store.{Store}
use Rattle.ddr_row_array.specs.declared.slot.RowAddress.{RowAddress}
use Rattle.ddr_row_array.specs.declared.row_array.RowArray.TheInside.{Inside}
use Rattle.ddr_row_array.specs.Rows.{Rows, is_row}
use Rattle.ddr_row_array.specs.Store.{IsKept, stored_rows}

abbrev pub rows_of : Inside → Rows
rows_of a = record {
  opened = map (option_map (λ o. o.row)) a.opened.items;
  height = a.geometry.rows;
  width = a.geometry.columns / LINE_COLUMNS;
  stored = stored_rows a.store;
}

-- the keys' order: by bank, then by row
abbrev pub address_cmp : RowAddress → RowAddress → Ordering
address_cmp a b = ordering_then (nat_cmp a.bank b.bank) (nat_cmp a.row b.row)

-- the index of the first element that passes
abbrev pub place_of : {X : Type 0} → (X → Bool) → List X → Option ℕ
place_of p [] = None
place_of p (x ∷ xs) = if p x then Some 0 else option_map suc (place_of p xs)

-- the slot that has the row
abbrev pub slot_of : Store → ℕ → ℕ → Option ℕ
slot_of store bank row = place_of (is_row bank row) (stored_rows store)

pub record IsSound (a : Inside) : Type 0 where
  -- there is a place for each bank's open row
  pub banks : vec_len a.opened ≡ banks_of a.geometry
  -- the stored rows have as many lines as contracts count
  pub width : a.store.slots.width ≡ a.geometry.columns / LINE_COLUMNS
  pub store : IsKept a.store
  -- the index names the slot of each row that is stored, and no other
  pub indexed : (k : RowAddress) → get address_cmp a.index k ≡ slot_of a.store k.bank k.row
  -- an open row is stored, in the slot that the bank names
  pub kept : (bank : ℕ) → ForSome (slice_index_or a.opened.items bank None) (λ o. slot_of a.store bank o.row ≡ Some o.slot)
  -- the row that was ensured last is stored, in the slot that is kept with it
  pub ensured : ForSome a.ensured (λ e. slot_of a.store e.address.bank e.address.row ≡ Some e.slot)
