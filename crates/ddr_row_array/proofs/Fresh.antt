-- A new row array: no bank holds a row, and no row is stored.
use Rattle.std.proofs.Common.{◌≡◌, ℕ, ◌/◌, List, [], length, map, get_or, replicate, Option, None, refl, ap, ◌∙◌, inl, inr, arith}
use Rattle.std.proofs.lemmas.Bool.{cases_lt}
use Rattle.std.proofs.lemmas.List.{get_or-map, get_or-replicate, get_or_past, length-map, length-replicate}
use Rattle.ddr_timing.specs.Banks.{bank_count as banks_of}
use Rattle.ddr_timing.specs.declared.config.Config.{Config}
use Rattle.ddr_timing.specs.declared.geometry.Geometry.{Geometry}
use Rattle.ddr_row_array.specs.declared.row_array.OpenRow.{OpenRow}
use Rattle.ddr_row_array.specs.declared.row_array.RowArray.TheInside.{Inside}
use Rattle.ddr_row_array.specs.Changes.{IsFresh}
use Rattle.ddr_row_array.specs.View.{rows_of}
use Rattle.ddr_row_array.proofs.Opened.{row_held}

all_idle : (n bank : ℕ) → get_or (map row_held (replicate n None)) bank None ≡ None
all_idle n bank =
    let none : List (Option OpenRow) = replicate n None in
    let long : length (map row_held none) ≡ n = length-map none row_held ∙ length-replicate n None in
    elim (cases_lt bank n) [
      | inl within ↦ get_or-map row_held none bank None None (omega (arith, length-replicate {A = Option OpenRow} n None)) ∙ ap row_held (get_or-replicate n bank None None within)
      | inr past ↦ get_or_past (map row_held none) bank None (omega arith)
    ]

pub IsFresh-new : (config : Config) (a : Inside) → a.geometry ≡ config.geometry → a.opened.items ≡ replicate (banks_of a.geometry) None → a.store.slots.items ≡ [] → IsFresh config (rows_of a)
IsFresh-new config a same idle empty = record {
  banks = length-map a.opened.items row_held ∙ ap length idle ∙ length-replicate (banks_of a.geometry) None ∙ ap banks_of same;
  rows = ap (λ (g : Geometry). g.rows) same;
  lines = ap (λ (g : Geometry). g.columns / 8) same;
  idle = λ bank. rw idle (all_idle (banks_of a.geometry) bank);
  nothing_stored = λ bank row. rw empty refl;
  zeros = λ bank row line. rw empty refl;
}
