-- What moving a request's data leaves in the lines of a channel's rows.
use Rattle.std.proofs.Common.{◌≡◌, ℕ, Bool, true, false, ◌&&◌, cond, eqb, List, replicate, Some, refl, sym, ap, subst, ◌∙◌}
use Rattle.std.proofs.lemmas.Bool.{OnTrue_at, lt-ltb, true≢false}
use Rattle.std.specs.Bool.{OnTrue}
use Rattle.std.specs.Option.{is_some}
use Rattle.ddr_timing.specs.declared.geometry.Geometry.{Geometry}
use Rattle.ddr_timing.specs.declared.units.TheConstants.{GROUP_BANKS}
use Rattle.ddr_timing.specs.Banks.{bank_number}
use Rattle.ddr_timing.proofs.BankNumbers.{bank_number-is}
use Rattle.ddr_trace.specs.Rules.{is_bank_in}
use Rattle.ddr_address_map.specs.declared.place.Place.{Place}
use Rattle.ddr_address_map.specs.declared.request.Kind.{Kind}
use Rattle.ddr_address_map.specs.declared.request.Kind.TheVariants.{Read, Write}
use Rattle.ddr_address_map.specs.Requests.{Request}
use Rattle.ddr_row_array.specs.Changes.{Rewrites, is_line}
use Rattle.ddr_row_array.specs.Merge.{merged}
use Rattle.ddr_row_array.specs.Rows.{Rows, cells, line_count, open_burst, open_row}
use Rattle.ddr_row_array.specs.Writes.{MergesLine}
use Rattle.ddr_channel.specs.Cycle.{burst_after, cells_after, line_served}
use Rattle.ddr_channel.specs.Issue.{IsBank}
use Rattle.ddr_channel.specs.Kept.{line_cells}
use Rattle.ddr_channel.specs.Memory.{LineAddress, is_same_line, line_of}
use Rattle.ddr_channel.specs.Served.{IsOpenAt}
use Rattle.ddr_channel.proofs.IssueLemmas.{bank_in}
use Rattle.ddr_channel.proofs.MemoryLemmas.{same_parts}

either_way : (same : Bool) (bytes : List ℕ) → cond same bytes bytes ≡ bytes
either_way true bytes = refl
either_way false bytes = refl

-- a read leaves each line as it was
pub read_leaves : (shape : Geometry) (rows : Rows) (r : Request) → r.echo.kind ≡ Read → (address : LineAddress) → line_cells shape rows address ≡ cells_after r (line_cells shape rows) address
read_leaves shape rows r is address =
    let bytes = line_cells shape rows address in
    let same = is_same_line address (line_of r.place) in
    sym (ap (λ (kind : Kind). cond same (line_served kind bytes (merged r.mask r.line bytes)) bytes) is ∙ either_way same bytes)

and_nested : (r g b x : Bool) → ((r && (g && b)) && x) ≡ (r && (g && (b && x)))
and_nested true true b x = refl
and_nested true false b x = refl
and_nested false g b x = refl

-- in the geometry a line of the rows is that of one address
same_line : (shape : Geometry) (a : LineAddress) (p : Place) → IsBank shape a.rank a.group a.bank → IsBank shape p.rank p.group p.bank →
    is_line (bank_number shape p.rank p.group p.bank) p.row p.line (bank_number shape a.rank a.group a.bank) a.row a.line ≡ is_same_line a (line_of p)
same_line shape a p here there =
    ap (λ (t : Bool). t && (eqb a.row p.row && eqb a.line p.line)) (bank_number-is shape a.rank a.group a.bank p.rank p.group p.bank here.1 there.1 here.2 there.2)
    ∙ and_nested (eqb a.rank p.rank) (eqb a.group p.group) (eqb a.bank p.bank) (eqb a.row p.row && eqb a.line p.line)

is_inside : (shape : Geometry) (rank group bank : ℕ) → IsBank shape rank group bank → is_bank_in shape rank group bank ≡ true
is_inside shape rank group bank there = rw (lt-ltb rank shape.ranks there.0, lt-ltb group shape.groups there.1, lt-ltb bank GROUP_BANKS there.2) refl

module _ (shape : Geometry) (old new : Rows) (r : Request) (is : r.echo.kind ≡ Write) (there : IsBank shape r.place.rank r.place.group r.place.bank)
    (leaves : Rewrites old new (bank_number shape r.place.rank r.place.group r.place.bank) r.place.row r.place.line
    (merged r.mask r.line (cells old (bank_number shape r.place.rank r.place.group r.place.bank) r.place.row r.place.line))) (a : LineAddress) where
  cells_at : LineAddress → List ℕ
  cells_at x = cells old (bank_number shape x.rank x.group x.bank) x.row x.line

  bytes_after : (bytes : List ℕ) → merged r.mask r.line bytes ≡ burst_after r bytes
  bytes_after bytes = sym (ap (λ (kind : Kind). line_served kind bytes (merged r.mask r.line bytes)) is)

  over : (same : Bool) → is_same_line a (line_of r.place) ≡ same → cond same (merged r.mask r.line (cells_at (line_of r.place))) (cells_at a) ≡ cond same (burst_after r (cells_at a)) (cells_at a)
  over true e = ap (λ (x : LineAddress). merged r.mask r.line (cells_at x)) (sym (same_parts a (line_of r.place) e)) ∙ bytes_after (cells_at a)
  over false e = refl

  outside : (same : Bool) → is_same_line a (line_of r.place) ≡ same → is_bank_in shape a.rank a.group a.bank ≡ false → (bytes : List ℕ) → bytes ≡ cond same (burst_after r bytes) bytes
  outside true e out bytes =
      let inside = is_inside shape r.place.rank r.place.group r.place.bank there in
      absurd (true≢false (sym inside ∙ sym (ap (λ (x : LineAddress). is_bank_in shape x.rank x.group x.bank) (same_parts a (line_of r.place) e)) ∙ out))
  outside false e out bytes = refl

  by_bank : (inside : Bool) → is_bank_in shape a.rank a.group a.bank ≡ inside →
      cond inside (cells new (bank_number shape a.rank a.group a.bank) a.row a.line) (replicate 64 0)
      ≡ cond (is_same_line a (line_of r.place)) (burst_after r (cond inside (cells_at a) (replicate 64 0))) (cond inside (cells_at a) (replicate 64 0))
  unfolding cells_at
  by_bank true e =
      leaves.bytes (bank_number shape a.rank a.group a.bank) a.row a.line
      ∙ ap (λ (t : Bool). cond t (merged r.mask r.line (cells_at (line_of r.place))) (cells_at a)) (same_line shape a r.place (bank_in shape a.rank a.group a.bank e) there)
      ∙ over (is_same_line a (line_of r.place)) refl
  by_bank false e = outside (is_same_line a (line_of r.place)) refl e (replicate 64 0)

  -- a write leaves its enabled bytes in its line, and every other line as it was
  pub write_leaves : line_cells shape new a ≡ cells_after r (line_cells shape old) a
  unfolding cells_at
  write_leaves = by_bank (is_bank_in shape a.rank a.group a.bank) refl

-- so it does where the row array says that there was such a line
pub write_merges : (shape : Geometry) (old new : Rows) (bank : ℕ) (r : Request) (wrote : Bool) → r.echo.kind ≡ Write → IsOpenAt shape old r.place →
    bank ≡ bank_number shape r.place.rank r.place.group r.place.bank → wrote ≡ is_some (open_burst old bank r.place.line) →
    OnTrue wrote (MergesLine old new bank r.place.line r.mask r.line) → (a : LineAddress) → line_cells shape new a ≡ cells_after r (line_cells shape old) a
write_merges shape old new bank r wrote is ready number there merges a =
    let opened : open_row old bank ≡ Some r.place.row = ap (open_row old) number ∙ ready.opened in
    let met : wrote ≡ true = there ∙ rw (lt-ltb r.place.line (line_count old) ready.line, opened) refl in
    let leaves = OnTrue_at met merges r.place.row opened in
    write_leaves shape old new r is ready.bank (subst (λ (b : ℕ). Rewrites old new b r.place.row r.place.line (merged r.mask r.line (cells old b r.place.row r.place.line))) number leaves) a
