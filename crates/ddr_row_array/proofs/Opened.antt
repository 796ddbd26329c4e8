-- The open rows after a bank is opened or closed.
use Rattle.std.proofs.Common.{◌≡◌, ℕ, ◌<◌, cond, eqb, List, length, map, get_or, set, Option, Some, None, inl, inr, arith, vec_len}
use Rattle.std.specs.Option.{option_map, ForSome}
use Rattle.std.specs.Vec.{with_item}
use Rattle.std.proofs.lemmas.Bool.{cases_eq, eq-eqb, ne_eqb}
use Rattle.std.proofs.lemmas.List.{get_or-set_same, get_or-set_other, map-set, length-map}
use Rattle.ddr_row_array.specs.declared.row_array.OpenRow.{OpenRow}
use Rattle.ddr_row_array.specs.declared.row_array.RowArray.TheInside.{Inside}
use Rattle.ddr_row_array.specs.Rows.{bank_count}
use Rattle.ddr_row_array.specs.View.{IsSound, slot_of, rows_of}

-- an element after a write
pub get_or-set_if : {X : Type 0} (xs : List X) (i j : ℕ) (x d : X) → i < length xs → get_or (set xs i x) j d ≡ cond (eqb j i) x (get_or xs j d)
get_or-set_if xs i j x d within =
    elim (cases_eq j i) [
      | inl same ↦ rw (eq-eqb j i same, same) (get_or-set_same xs i x d within)
      | inr other ↦ rw (ne_eqb j i other) (get_or-set_other xs i j x d other)
    ]

abbrev pub row_held : Option OpenRow → Option ℕ
row_held = option_map (λ o. o.row)

-- the open row of each bank, as contracts see it
pub opened-set : (xs : List (Option OpenRow)) (i b : ℕ) (o : Option OpenRow) → i < length xs → get_or (map row_held (set xs i o)) b None ≡ cond (eqb b i) (row_held o) (get_or (map row_held xs) b None)
opened-set xs i b o within =
    rw map-set (get_or-set_if (map row_held xs) i b (row_held o) None (omega (arith, length-map xs row_held)))

pub IsSound-opened : (a : Inside) (i : ℕ) (o : Option OpenRow) → IsSound a → i < vec_len a.opened → ForSome o (λ o. slot_of a.store i o.row ≡ Some o.slot) → IsSound (record a { opened = with_item a.opened i o })
IsSound-opened a i o sound within kept = record {
  banks = sound.banks;
  width = sound.width;
  store = sound.store;
  indexed = sound.indexed;
  ensured = sound.ensured;
  kept = λ b.
      elim (cases_eq b i) [
        | inl same ↦ rw (same, get_or-set_same a.opened.items i o None (omega (arith, a.opened.ok.0))) kept
        | inr other ↦ rw (get_or-set_other a.opened.items i b o None other) (sound.kept b)
      ];
}

-- a bank that contracts count has its place
pub bank_within : (a : Inside) (bank : ℕ) → bank < bank_count (rows_of a) → bank < vec_len a.opened
bank_within a bank h = omega (arith, length-map a.opened.items row_held, a.opened.ok.0)

-- the same, as a place in the list
pub bank_within_list : (a : Inside) (bank : ℕ) → bank < bank_count (rows_of a) → bank < length a.opened.items
bank_within_list a bank h = omega (arith, length-map a.opened.items row_held)
