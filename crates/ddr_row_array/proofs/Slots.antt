-- The slots of stored rows, and the index that finds them.
use Rattle.std.proofs.Common.{◌≡◌, ℕ, ◌<◌, Bool, true, false, ◌&&◌, ◌||◌, cond, eqb, List, [], ◌∷◌, ◌++◌, length, map, get_or, find, replicate, Option, Some, None, IsTrue, IsSome, is_some, refl, sym, ap, subst, ◌∙◌, inl, inr, arith, rules}
use Rattle.std.specs.Option.{option_map_or, option_or}
use Rattle.std.specs.Ordering.{is_eq}
use Rattle.std.specs.BTreeMap.{get}
use Rattle.std.specs.declared.alloc.Global.{Global}
use Rattle.std.specs.declared.collections.BTreeMap.{BTreeMap}
use Rattle.std.proofs.lemmas.Bool.{cases_lt, eq-eqb}
use Rattle.std.proofs.lemmas.List.{get_or-map, get_or-replicate, get_or_past, map-append, length-map, length-replicate}
use Rattle.std.proofs.lemmas.List.Folds.{find-append}
use Rattle.std.proofs.lemmas.Option.{slice_get-get_or, get_or_from_slice_get}
use Rattle.ddr_row_array.specs.declared.slot.RowAddress.{RowAddress}
use Rattle.ddr_row_array.specs.declared.store.Store.{Store}
use Rattle.ddr_row_array.specs.declared.row_array.EnsuredRow.{EnsuredRow}
use Rattle.ddr_row_array.specs.declared.row_array.RowArray.TheInside.{Inside}
use Rattle.ddr_row_array.specs.Placed.{PlacedRow}
use Rattle.ddr_row_array.specs.Rows.{StoredRow, is_row, is_stored, row_lines, zero_line}
use Rattle.ddr_row_array.specs.Store.{IsKept, SameStore, line_at, stored_of, stored_rows}
use Rattle.ddr_row_array.specs.View.{IsSound, slot_of, rows_of, address_cmp, place_of}
use Rattle.ddr_row_array.proofs.Addresses.{is_eq-address_cmp, same_pair}
use Rattle.ddr_row_array.proofs.Places.{find_at_place, find_at_no_place, place_within, place_of_push}

found_place : (place : Option ℕ) (found : Option StoredRow) → (place ≡ None → found ≡ None) → IsTrue (is_some found) → IsSome place
found_place None found missed h = absurd (let e : found ≡ None = missed refl in let t : IsTrue (is_some {T = StoredRow} None) = rw e at h in search rules)
found_place (Some i) found missed h = search rules

-- a row that is stored is in the index
pub IsSome-index : (a : Inside) (bank row : ℕ) → IsSound a → IsTrue (is_stored (rows_of a) bank row) → IsSome (get address_cmp a.index (record { bank = bank; row = row }))
IsSome-index a bank row sound h =
    let stored = stored_rows a.store in
    rw (sound.indexed (record { bank = bank; row = row }))
    (found_place (place_of (is_row bank row) stored) (find (is_row bank row) stored) (find_at_no_place (is_row bank row) stored) h)

found_from_place : (p : StoredRow → Bool) (xs : List StoredRow) (place : Option ℕ) → place_of p xs ≡ place → is_some place ≡ true → is_some (find p xs) ≡ true
found_from_place p xs None e h = absurd (let t : false ≡ true = h in cc)
found_from_place p [] (Some i) e h = absurd (let t : None ≡ Some i = e in cc)
found_from_place p (x ∷ xs) (Some i) e h =
    ap is_some (find_at_place p (x ∷ xs) i e ∙ slice_get-get_or (x ∷ xs) i x (place_within p (x ∷ xs) i e))

-- what is in the index is stored
pub stored_from_index : (a : Inside) (bank row : ℕ) → IsSound a → is_some (get address_cmp a.index (record { bank = bank; row = row })) ≡ true → IsTrue (is_stored (rows_of a) bank row)
stored_from_index a bank row sound h =
    let stored = stored_rows a.store in
    found_from_place (is_row bank row) stored (place_of (is_row bank row) stored) refl
    (ap is_some (sym (sound.indexed (record { bank = bank; row = row }))) ∙ h)

-- what is not in the index is not stored
pub absent_is_not_stored : {X : Type 0} (a : Inside) (bank row : ℕ) → IsSound a → is_some (get address_cmp a.index (record { bank = bank; row = row })) ≡ false → is_stored (rows_of a) bank row ≡ true → X
absent_is_not_stored a bank row sound absent h =
    absurd (let t : false ≡ true = sym absent ∙ IsSome-index a bank row sound h in cc)

-- the slot is there
pub slot_within : (s : Store) (bank row i : ℕ) → slot_of s bank row ≡ Some i → i < length s.slots.items
slot_within s bank row i h =
    let within = place_within (is_row bank row) (stored_rows s) i h in omega (arith, length-map s.slots.items (stored_of s.lines.items))

-- and has the row's lines
pub find-slot : (s : Store) (bank row i : ℕ) (d : StoredRow) → slot_of s bank row ≡ Some i → find (is_row bank row) (stored_rows s) ≡ Some (get_or (stored_rows s) i d)
find-slot s bank row i d h =
    let rows = stored_rows s in
    find_at_place (is_row bank row) rows i h ∙ slice_get-get_or rows i d (place_within (is_row bank row) rows i h)

pub row_lines-slot : (s : Store) (bank row i : ℕ) (d : StoredRow) → slot_of s bank row ≡ Some i → row_lines (stored_rows s) bank row ≡ (get_or (stored_rows s) i d).lines
row_lines-slot s bank row i d h =
    ap (λ o. option_map_or (λ (x : StoredRow). x.lines) o []) (find-slot s bank row i d h)

-- ---- a new row
pub or_new : (old new : Bool) → new ≡ true → (old || new) ≡ true
or_new true new h = refl
or_new false new h = h

pub or_kept : (old new : Bool) → old ≡ true → (old || new) ≡ true
or_kept old new h = rw h refl

pub or_none : (old new : Bool) → new ≡ false → (old || new) ≡ old
or_none true new h = refl
or_none false new h = h

pub same_address : (bank row : ℕ) → (eqb bank bank && eqb row row) ≡ true
same_address bank row = rw (eq-eqb bank bank refl, eq-eqb row row refl) refl

joined : (found : Option StoredRow) (t : Bool) (s : StoredRow) → is_some (option_or found (cond t (Some s) None)) ≡ (is_some found || t)
joined None true s = refl
joined None false s = refl
joined (Some x) t s = refl

lines_joined : (found : Option StoredRow) (t : Bool) (s : StoredRow) (l : ℕ) → get_or s.lines l zero_line ≡ zero_line → get_or (option_map_or (λ (x : StoredRow). x.lines) (option_or found (cond t (Some s) None)) []) l zero_line ≡ get_or (option_map_or (λ (x : StoredRow). x.lines) found []) l zero_line
lines_joined None true s l zeros = zeros
lines_joined None false s l zeros = refl
lines_joined (Some x) t s l zeros = refl

module _ (stored : List StoredRow) (new : StoredRow) where
  -- whether a name is the new row's
  abbrev is_new : ℕ → ℕ → Bool
  is_new bank row = is_row bank row new

  pub find-new : (bank row : ℕ) → find (is_row bank row) (stored ++ new ∷ []) ≡ option_or (find (is_row bank row) stored) (cond (is_new bank row) (Some new) None)
  find-new bank row = find-append (is_row bank row) stored (new ∷ [])

  -- it is stored beside the others
  pub is_some-new : (bank row : ℕ) → is_some (find (is_row bank row) (stored ++ new ∷ [])) ≡ (is_some (find (is_row bank row) stored) || is_new bank row)
  is_some-new bank row =
      ap is_some (find-new bank row) ∙ joined (find (is_row bank row) stored) (is_new bank row) new

  -- and with zeros it changes no byte
  pub line-new : ((l : ℕ) → get_or new.lines l zero_line ≡ zero_line) → (bank row line : ℕ) → get_or (row_lines (stored ++ new ∷ []) bank row) line zero_line ≡ get_or (row_lines stored bank row) line zero_line
  line-new zeros bank row line =
      ap (λ found. get_or (option_map_or (λ (x : StoredRow). x.lines) found []) line zero_line) (find-new bank row)
      ∙ lines_joined (find (is_row bank row) stored) (is_new bank row) new line (zeros line)

-- ---- the array with a new row
late : (t : Bool) (n : ℕ) (place : Option ℕ) → (t ≡ true → place ≡ None) → cond t (Some n) place ≡ option_or place (cond t (Some n) None)
late true n None absent = refl
late true n (Some i) absent = let none : Some i ≡ None = absent refl in cc
late false n None absent = refl
late false n (Some i) absent = refl

kept_first : (place new : Option ℕ) (i : ℕ) → place ≡ Some i → option_or place new ≡ Some i
kept_first place new i h = rw h refl

pub none_from_missing : {X : Type 0} (o : Option X) → is_some o ≡ false → o ≡ None
none_from_missing None h = refl
none_from_missing (Some x) h = absurd (let e : true ≡ false = h in cc)

-- a row of which no line was entered
abbrev pub fresh : RowAddress → ℕ → PlacedRow
fresh address width = record { address = address; places = replicate width 0 }

pub stored_rows-push : (old mid new : Store) (address : RowAddress) → SameStore old mid → new.slots.items ≡ mid.slots.items ++ fresh address mid.slots.width ∷ [] → new.lines.items ≡ mid.lines.items → stored_rows new ≡ stored_rows old ++ stored_of old.lines.items (fresh address old.slots.width) ∷ []
stored_rows-push old mid new address same slots lines =
    ap (λ ls. map (stored_of ls) new.slots.items) (lines ∙ same.lines)
    ∙ ap (map (stored_of old.lines.items)) (slots ∙ ap (λ l. l ++ fresh address mid.slots.width ∷ []) same.slots ∙ ap (λ n. old.slots.items ++ fresh address n ∷ []) same.width)
    ∙ map-append (stored_of old.lines.items) old.slots.items (fresh address old.slots.width ∷ [])

pub fresh_lines : (s : Store) (t : PlacedRow) → IsKept s → t.places ≡ replicate s.slots.width 0 → (l : ℕ) → get_or (stored_of s.lines.items t).lines l zero_line ≡ zero_line
fresh_lines s t kept zeros l =
    let lines = s.lines.items in
    let places = t.places in
    let long : length places ≡ s.slots.width = ap length zeros ∙ length-replicate {A = ℕ} s.slots.width 0 in
    elim (cases_lt l (length places)) [
      | inl within ↦
          get_or-map (line_at lines) places l 0 zero_line within
          ∙ ap (λ ps. line_at lines (get_or ps l 0)) zeros
          ∙ ap (line_at lines) (get_or-replicate s.slots.width l 0 0 (omega arith))
          ∙ get_or_from_slice_get lines 0 zero_line zero_line kept.zeros
      | inr past ↦ get_or_past (map (line_at lines) places) l zero_line (omega (arith, length-map places (line_at lines)))
    ]

-- nothing that is stored is changed
pub stored_rows-same : (old new : Store) → SameStore old new → stored_rows new ≡ stored_rows old
stored_rows-same old new same =
    ap (λ ls. map (stored_of ls) new.slots.items) same.lines ∙ ap (map (stored_of old.lines.items)) same.slots

pub IsSound-same : (a : Inside) (s : Store) → IsSound a → IsKept s → s.slots.width ≡ a.store.slots.width → stored_rows s ≡ stored_rows a.store → IsSound (record a { store = s })
IsSound-same a s sound kept width rows = record {
  banks = sound.banks;
  width = width ∙ sound.width;
  store = kept;
  indexed = λ k. sound.indexed k ∙ ap (place_of (is_row k.bank k.row)) (sym rows);
  kept = λ b o e. ap (place_of (is_row b o.row)) rows ∙ sound.kept b o e;
  ensured = λ e is. ap (place_of (is_row e.address.bank e.address.row)) rows ∙ sound.ensured e is;
}

module _ (a : Inside) (sound : IsSound a) (address : RowAddress) (new : StoredRow) (named : (new.bank ≡ address.bank) × (new.row ≡ address.row)) (store : Store) (index : BTreeMap RowAddress ℕ Global) where
  abbrev grown : Inside
  grown = record a { store = store; index = index; ensured = Some (record { address = address; slot = length a.store.slots.items }) }

  module _ (pushed : stored_rows store ≡ stored_rows a.store ++ new ∷ []) (absent : get address_cmp a.index address ≡ None) where
    abbrev old : List StoredRow
    old = stored_rows a.store

    abbrev n : ℕ
    n = length a.store.slots.items

    slot_of-new : (bank row : ℕ) → slot_of store bank row ≡ option_or (slot_of a.store bank row) (cond (is_row bank row new) (Some n) None)
    slot_of-new bank row =
        ap (place_of (is_row bank row)) pushed ∙ place_of_push (is_row bank row) old new
        ∙ ap (λ m. option_or (slot_of a.store bank row) (cond (is_row bank row new) (Some m) None)) (length-map a.store.slots.items (stored_of a.store.lines.items))

    is_address : (k : RowAddress) → is_row k.bank k.row new ≡ (eqb address.bank k.bank && eqb address.row k.row)
    is_address k = ap (λ m. eqb m k.bank && eqb new.row k.row) named.0 ∙ ap (λ m. eqb address.bank k.bank && eqb m k.row) named.1

    no_other : (k : RowAddress) → is_row k.bank k.row new ≡ true → slot_of a.store k.bank k.row ≡ None
    no_other k h =
        let pair = same_pair address.bank k.bank address.row k.row (sym (is_address k) ∙ h) in
        ap (λ b. slot_of a.store b k.row) (sym pair.0) ∙ ap (slot_of a.store address.bank) (sym pair.1)
        ∙ sym (sound.indexed address) ∙ absent

    own_slot : slot_of store address.bank address.row ≡ Some n
    own_slot =
        slot_of-new address.bank address.row
        ∙ ap (λ o. option_or o (cond (is_row address.bank address.row new) (Some n) None)) (sym (sound.indexed address) ∙ absent)
        ∙ ap (λ t. cond {A = Option ℕ} t (Some n) None) (is_address address ∙ same_address address.bank address.row)

    pub IsSound-grown : IsKept store → store.slots.width ≡ a.store.slots.width → ((k : RowAddress) → get address_cmp index k ≡ cond (is_eq (address_cmp address k)) (Some n) (get address_cmp a.index k)) → IsSound grown
    IsSound-grown kept width updated = record {
      banks = sound.banks;
      width = width ∙ sound.width;
      store = kept;
      indexed = λ k.
          updated k
          ∙ ap (λ t. cond t (Some n) (get address_cmp a.index k)) (is_eq-address_cmp address k ∙ sym (is_address k))
          ∙ ap (λ o. cond (is_row k.bank k.row new) (Some n) o) (sound.indexed k)
          ∙ late (is_row k.bank k.row new) n (slot_of a.store k.bank k.row) (no_other k)
          ∙ sym (slot_of-new k.bank k.row);
      kept = λ b o e. slot_of-new b o.row ∙ kept_first (slot_of a.store b o.row) _ o.slot (sound.kept b o e);
      ensured = λ e is.
          let here : EnsuredRow = record { address = address; slot = n } in
          let same : here ≡ e = cc in
          subst (λ (r : EnsuredRow). slot_of store r.address.bank r.address.row ≡ Some r.slot) same own_slot;
    }
