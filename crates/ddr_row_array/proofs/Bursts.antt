-- The burst of an open row's line, and what a write of it changes.
use Rattle.std.proofs.Common.{◌≡◌, ◌≢◌, ℕ, ◌/◌, ◌<◌, Bool, true, false, ◌&&◌, cond, eqb, ltb, List, [], length, map, get_or, set, find, Option, Some, None, IsSome, IfSome, is_some, Bor, refl, sym, ap, subst, ◌∙◌, inl, inr, arith}
use Rattle.std.specs.Option.{option_copied, option_map, option_map_or}
use Rattle.std.proofs.lemmas.Bool.Decides.{nat_tests}
use Rattle.std.proofs.lemmas.List.FromFn.{fill_by_all}
use Rattle.std.proofs.lemmas.Nat.Bits.{bit_at-zero}
use Rattle.std.proofs.lemmas.Bool.{cases_lt, ltb-true, lt-ltb}
use Rattle.std.proofs.lemmas.List.{get_or_default, get_or_past, length-map, get_or-map}
use Rattle.ddr_row_array.specs.declared.store.Store.{Store}
use Rattle.ddr_row_array.specs.declared.row_array.OpenRow.{OpenRow}
use Rattle.ddr_row_array.specs.declared.row_array.RowArray.TheInside.{Inside}
use Rattle.ddr_row_array.specs.Rows.{Rows, StoredRow, is_row, row_lines, zero_line, cells, open_row, open_burst}
use Rattle.ddr_row_array.specs.Changes.{Rewrites, is_line}
use Rattle.ddr_row_array.specs.Merge.{byte_of, merged}
use Rattle.ddr_row_array.specs.Store.{line_at, stored_rows}
use Rattle.ddr_row_array.specs.Placed.{HasPlace, place_at}
use Rattle.ddr_row_array.specs.Writes.{with_line, with_burst, ChangesLineAlone, MergesLine}
use Rattle.ddr_row_array.specs.View.{IsSound, slot_of, rows_of, place_of}
use Rattle.ddr_row_array.proofs.Addresses.{same_pair, swapped_pair}
use Rattle.ddr_row_array.proofs.Entered.{line_of_rows, row_long, written, IsKept-written, stored_rows-written}
use Rattle.ddr_row_array.proofs.Places.{find-changed_first_same, find-changed_first_other, is_some-find-changed_first, changed_first-is_set, place_of-set}
use Rattle.ddr_row_array.proofs.Opened.{row_held, get_or-set_if}
use Rattle.ddr_row_array.proofs.Words.{byte_of-clear}
use Rattle.ddr_row_array.proofs.Slots.{slot_within, find-slot, row_lines-slot}

-- the bank holds that row, in that slot, and the row has that line
pub record IsOpenAt (a : Inside) (bank line : ℕ) (o : OpenRow) : Type 0 where
  pub is_bank : bank < length a.opened.items
  pub held : get_or a.opened.items bank None ≡ Some o
  pub slot : slot_of a.store bank o.row ≡ Some o.slot
  pub within : o.slot < length a.store.slots.items
  pub below : line < a.geometry.columns / 8

both_there : (t : Bool) (burst : Option (List ℕ)) → IsSome (cond t burst None) → (t ≡ true) × IsSome burst
both_there true burst h = (refl, h)
both_there false burst h = absurd (let e : false ≡ true = h in cc)

mapped_there : {X Y : Type 0} (f : X → Y) (o : Option X) → IsSome (option_map f o) → IsSome o
mapped_there f None h = h
mapped_there f (Some x) h = refl

-- a bank that holds a row has a place
held_within : (xs : List (Option OpenRow)) (bank : ℕ) → IsSome (get_or (map row_held xs) bank None) → bank < length xs
held_within xs bank h =
    elim (cases_lt bank (length xs)) [
      | inl within ↦ within
      | inr past ↦ absurd
          (let e : get_or (map row_held xs) bank None ≡ None = get_or_past (map row_held xs) bank None (omega (arith, length-map xs row_held)) in
          let t : false ≡ true = rw e at h in cc)
    ]

-- what the code reads of an open bank
pub IsOpenAt-read : (a : Inside) (bank line : ℕ) (x : Option OpenRow) (o : OpenRow) → IsSound a → IsSome (open_burst (rows_of a) bank line) → x ≡ get_or a.opened.items bank x → x ≡ Some o → IsOpenAt a bank line o
IsOpenAt-read a bank line x o sound there read is =
    let both = both_there (ltb line (a.geometry.columns / 8)) _ there in
    let within = held_within a.opened.items bank (mapped_there _ _ both.1) in
    let held : get_or a.opened.items bank None ≡ Some o = get_or_default a.opened.items bank None x within ∙ sym read ∙ is in
    let place = sound.kept bank o held in
    record {
      is_bank = within;
      held = held;
      slot = place;
      within = slot_within a.store bank o.row o.slot place;
      below = ltb-true line (a.geometry.columns / 8) both.0;
    }

-- a row that no byte changed of
pub IsOpenAt-same : (a : Inside) (store : Store) (bank line : ℕ) (o : OpenRow) → stored_rows store ≡ stored_rows a.store → IsOpenAt a bank line o → IsOpenAt (record a { store = store }) bank line o
IsOpenAt-same a store bank line o rows at =
    let place : slot_of store bank o.row ≡ Some o.slot = ap (place_of (is_row bank o.row)) rows ∙ at.slot in
    record { is_bank = at.is_bank; held = at.held; slot = place; within = slot_within store bank o.row o.slot place; below = at.below }

module _ (a : Inside) (bank line : ℕ) (o : OpenRow) (sound : IsSound a) (at : IsOpenAt a bank line o) where
  -- the line is one of the slot
  pub HasPlace-at : HasPlace a.store.slots o.slot line
  HasPlace-at = record { in_slots = at.within; in_row = rw sound.width at.below }

  -- the open row, as contracts see it
  pub open_row-at : open_row (rows_of a) bank ≡ Some o.row
  open_row-at = get_or-map row_held a.opened.items bank None None at.is_bank ∙ ap row_held at.held

  pub open_burst-at : (p : ℕ) → p ≡ place_at a.store.slots.items o.slot line → open_burst (rows_of a) bank line ≡ Some (line_at a.store.lines.items p)
  open_burst-at p is_p =
      let stored = stored_rows a.store in
      let d : StoredRow = record { bank = 0; row = 0; lines = [] } in
      let burst = λ (row : ℕ). get_or (row_lines stored bank row) line zero_line in
      ap (λ t. cond t (option_map burst (open_row (rows_of a) bank)) None) (lt-ltb line (a.geometry.columns / 8) at.below)
      ∙ ap (option_map burst) open_row-at
      ∙ ap (λ lines. Some (get_or lines line zero_line)) (row_lines-slot a.store bank o.row o.slot d at.slot)
      ∙ ap Some (line_of_rows a.store sound.store o.slot line HasPlace-at d ∙ ap (line_at a.store.lines.items) (sym is_p))

-- ---- a write of the line, over what contracts see
and_assoc : (x y z : Bool) → (x && (y && z)) ≡ ((x && y) && z)
and_assoc true y z = refl
and_assoc false y z = refl

module _ (stored : List StoredRow) (bank row line : ℕ) (w : List ℕ) where
  abbrev over : StoredRow → StoredRow
  over s = record s { lines = set s.lines line w }

  row_lines-with_line_same : (s : StoredRow) → find (is_row bank row) stored ≡ Some s → row_lines (with_line stored bank row line w) bank row ≡ set s.lines line w
  unfolding with_line
  row_lines-with_line_same s found =
      ap (λ o. option_map_or (λ (t : StoredRow). t.lines) o [])
      (find-changed_first_same (is_row bank row) over (λ t. refl) stored ∙ ap (option_map over) found)

  apart : (b r : ℕ) → (eqb b bank && eqb r row) ≡ false → (s : StoredRow) → is_row bank row s ≡ true → is_row b r s ≡ false
  apart b r differ s same =
      let pair = same_pair s.bank bank s.row row same in
      ap (λ n. eqb n b && eqb s.row r) pair.0 ∙ ap (λ n. eqb bank b && eqb n r) pair.1 ∙ swapped_pair bank b row r ∙ differ

  row_lines-with_line_other : (b r : ℕ) → (eqb b bank && eqb r row) ≡ false → row_lines (with_line stored bank row line w) b r ≡ row_lines stored b r
  unfolding with_line
  row_lines-with_line_other b r differ =
      ap (λ o. option_map_or (λ (t : StoredRow). t.lines) o [])
      (find-changed_first_other (is_row bank row) (is_row b r) over (λ t. refl) (apart b r differ) stored)

  is_some-with_line : (b r : ℕ) → is_some (find (is_row b r) (with_line stored bank row line w)) ≡ is_some (find (is_row b r) stored)
  unfolding with_line
  is_some-with_line b r = is_some-find-changed_first (is_row bank row) (is_row b r) over (λ t. refl) stored

  abbrev cell : List (List ℕ) → ℕ → List ℕ
  cell lines l = get_or lines l zero_line

  module _ (s : StoredRow) (found : find (is_row bank row) stored ≡ Some s) (within : line < length s.lines) where
    -- the row itself: the line, and its other lines
    cell-row : (l : ℕ) → cell (row_lines (with_line stored bank row line w) bank row) l ≡ cond (eqb l line) w (cell (row_lines stored bank row) l)
    cell-row l =
        let old : row_lines stored bank row ≡ s.lines = ap (λ o. option_map_or (λ (t : StoredRow). t.lines) o []) found in
        ap (λ lines. cell lines l) (row_lines-with_line_same s found)
        ∙ get_or-set_if s.lines line l w zero_line within
        ∙ ap (λ lines. cond (eqb l line) w (cell lines l)) (sym old)

    rewritten_line : (t : Bool) (b r l : ℕ) → (eqb b bank && eqb r row) ≡ t → cell (row_lines (with_line stored bank row line w) b r) l ≡ cond (t && eqb l line) w (cell (row_lines stored b r) l)
    rewritten_line true b r l same =
        let pair = same_pair b bank r row same in
        let P : ℕ → ℕ → Type 0 = λ m n. cell (row_lines (with_line stored bank row line w) m n) l ≡ cond (eqb l line) w (cell (row_lines stored m n) l) in
        subst (λ m. P m r) (sym pair.0) (subst (λ n. P bank n) (sym pair.1) (cell-row l))
    rewritten_line false b r l differ = ap (λ lines. cell lines l) (row_lines-with_line_other b r differ)

    pub cell-with_line : (b r l : ℕ) → cell (row_lines (with_line stored bank row line w) b r) l ≡ cond (is_line bank row line b r l) w (cell (row_lines stored b r) l)
    cell-with_line b r l =
        rewritten_line (eqb b bank && eqb r row) b r l refl
        ∙ ap (λ t. cond t w (cell (row_lines stored b r) l)) (sym (and_assoc (eqb b bank) (eqb r row) (eqb l line)))

-- a write of the bank's open row's line changes those 64 bytes and nothing else
pub Rewrites-with_burst : (a : Rows) (bank row line : ℕ) (w : List ℕ) (s : StoredRow) → open_row a bank ≡ Some row → find (is_row bank row) a.stored ≡ Some s → line < length s.lines → Rewrites a (with_burst a bank line w) bank row line w
Rewrites-with_burst a bank row line w s held found within =
    let new = λ (r : ℕ). record a { stored = with_line a.stored bank r line w } in
    let same : with_burst a bank line w ≡ new row = ap (λ o. option_map_or new o a) held in
    subst (λ b. Rewrites a b bank row line w) (sym same) (record {
      shape = record { banks = refl; rows = refl; lines = refl };
      opened = λ b. refl;
      stored = is_some-with_line a.stored bank row line w;
      bytes = cell-with_line a.stored bank row line w s found within;
    })

-- ---- a write of the line, over the fields
module _ (a : Inside) (bank line : ℕ) (o : OpenRow) (sound : IsSound a) (at : IsOpenAt a bank line o) (p : ℕ) (is_p : p ≡ place_at a.store.slots.items o.slot line) (set_p : p ≢ 0) where
  abbrev lent : List ℕ → Inside
  lent w = record a { store = written a.store sound.store o.slot line (HasPlace-at a bank line o sound at) p is_p set_p w }

  abbrev d : StoredRow
  d = record { bank = 0; row = 0; lines = [] }

  abbrev here : StoredRow
  here = get_or (stored_rows a.store) o.slot d

  stored-set : (w : List ℕ) → stored_rows (lent w).store ≡ set (stored_rows a.store) o.slot (record here { lines = set here.lines line w })
  stored-set w = stored_rows-written a.store sound.store o.slot line (HasPlace-at a bank line o sound at) p is_p set_p w d

  same_slots : (w : List ℕ) (b r : ℕ) → slot_of (lent w).store b r ≡ slot_of a.store b r
  same_slots w b r =
      ap (place_of (is_row b r)) (stored-set w)
      ∙ place_of-set (is_row b r) (stored_rows a.store) o.slot (record here { lines = set here.lines line w }) d refl

  pub IsSound-lent : (w : List ℕ) → IsSound (lent w)
  IsSound-lent w = record {
    banks = sound.banks;
    width = sound.width;
    store = IsKept-written a.store sound.store o.slot line (HasPlace-at a bank line o sound at) p is_p set_p w;
    indexed = λ k. sound.indexed k ∙ sym (same_slots w k.bank k.row);
    kept = λ b o' e. same_slots w b o'.row ∙ sound.kept b o' e;
    ensured = λ r e. same_slots w r.address.bank r.address.row ∙ sound.ensured r e;
  }

  stored-lent : (w : List ℕ) → stored_rows (lent w).store ≡ with_line (stored_rows a.store) bank o.row line w
  unfolding with_line
  stored-lent w =
      stored-set w
      ∙ sym (changed_first-is_set (is_row bank o.row) (over (stored_rows a.store) bank o.row line w) (stored_rows a.store) o.slot d at.slot)

  pub rows_of-lent : (w : List ℕ) → rows_of (lent w) ≡ with_burst (rows_of a) bank line w
  rows_of-lent w =
      let new = λ (r : ℕ). record (rows_of a) { stored = with_line (stored_rows a.store) bank r line w } in
      ap (λ stored. record (rows_of a) { stored = stored }) (stored-lent w)
      ∙ sym (ap (λ r. option_map_or new r (rows_of a)) (open_row-at a bank line o sound at))

  pub ChangesLineAlone-at : ChangesLineAlone (rows_of a) bank line
  ChangesLineAlone-at row e w long =
      let same : o.row ≡ row = let both : Some o.row ≡ Some row = sym (open_row-at a bank line o sound at) ∙ e in cc in
      let found = find-slot a.store bank o.row o.slot d at.slot in
      let this = subst (λ r. find (is_row bank r) (stored_rows a.store) ≡ Some here) same found in
      Rewrites-with_burst (rows_of a) bank row line w here e this (row_long a.store sound.store o.slot line (HasPlace-at a bank line o sound at) d)

-- it is the open row's line
burst_there : (t : Bool) (row : ℕ) (f : ℕ → List ℕ) (w : List ℕ) → cond t (option_map f (Some row)) None ≡ Some w → f row ≡ w
burst_there true row f w e = cc
burst_there false row f w e = absurd (let none : None ≡ Some w = e in cc)

pub cells-open_burst : (a : Rows) (bank row line : ℕ) (w : List ℕ) → open_burst a bank line ≡ Some w → open_row a bank ≡ Some row → cells a bank row line ≡ w
cells-open_burst a bank row line w e held =
    let burst = λ (r : ℕ). cells a bank r line in
    burst_there (ltb line a.width) row burst w (sym (ap (λ o. cond (ltb line a.width) (option_map burst o) None) held) ∙ e)

-- ---- a write of no byte
pub merged_none : (new old : List ℕ) → length old ≡ 64 → merged 0 new old ≡ old
unfolding merged
merged_none new old long =
    sym (fill_by_all (byte_of 0 new old) old 64 0 long (λ k h. sym (byte_of-clear 0 new old k (bit_at-zero k))))

same_line : (b bank r row l line : ℕ) → is_line bank row line b r l ≡ true → (b ≡ bank) × (r ≡ row) × (l ≡ line)
same_line b bank r row l line h = (grind (arith, nat_tests), grind (arith, nat_tests), grind (arith, nat_tests))

line_kept : (a : Rows) (bank row line b r l : ℕ) (t : Bool) → is_line bank row line b r l ≡ t → cells a b r l ≡ cond t (cells a bank row line) (cells a b r l)
line_kept a bank row line b r l true h =
    let same = same_line b bank r row l line h in
    ap (λ n. cells a n r l) same.0 ∙ ap (λ n. cells a bank n l) same.1 ∙ ap (λ n. cells a bank row n) same.2
line_kept a bank row line b r l false h = refl

Rewrites-none : (a : Rows) (bank row line : ℕ) → Rewrites a a bank row line (cells a bank row line)
Rewrites-none a bank row line = record {
  shape = record { banks = refl; rows = refl; lines = refl };
  opened = λ b. refl;
  stored = λ b r. refl;
  bytes = λ b r l. line_kept a bank row line b r l (is_line bank row line b r l) refl;
}

pub MergesLine-none : (a : Rows) (bank line mask : ℕ) (bytes burst : List ℕ) → mask ≡ 0 → open_burst a bank line ≡ Some burst → length burst ≡ 64 → MergesLine a a bank line mask bytes
MergesLine-none a bank line mask bytes burst none there long row held =
    let is : cells a bank row line ≡ burst = cells-open_burst a bank row line burst there held in
    let same : merged mask bytes (cells a bank row line) ≡ cells a bank row line = ap (λ m. merged m bytes (cells a bank row line)) none ∙ merged_none bytes (cells a bank row line) (ap length is ∙ long) in
    subst (λ w. Rewrites a a bank row line w) (sym same) (Rewrites-none a bank row line)

pub MergesLine-burst : (a : Rows) (bank line mask : ℕ) (bytes : List ℕ) (burst : Option (Bor (List ℕ))) → mask ≡ 0 → option_copied burst ≡ open_burst a bank line → IfSome burst (λ b. length b.now ≡ 64) → is_some burst ≡ true → MergesLine a a bank line mask bytes
MergesLine-burst a bank line mask bytes None none value long there = absurd (let e : false ≡ true = there in cc)
MergesLine-burst a bank line mask bytes (Some b) none value long there =
    MergesLine-none a bank line mask bytes b.now none (sym value) long
