-- The key holds an integer of its domain, and no domain goes above 131072.
use Rattle.std.proofs.Common.{◌≡◌, ℕ, ◌≤◌, pos, ℤ, w64, to_z, of_z, refl, sym, ap, ◌∙◌, arith, rules}
use Rattle.std.proofs.lemmas.Int.{to_z-of_z}
use Rattle.std.proofs.lemmas.Option.{same_Some}
use Rattle.toml.specs.View.{table_view}
use Rattle.ddr_timing.specs.Tables.{number_in}
use Rattle.std.specs.Option.{option_map_or}
use Rattle.ddr_timing.proofs.Ranges.{key-holds, bound-small}
use Rattle.ddr_timing.proofs.table.number.Goals as goal

-- a small number as 64 signed bits
read_back : (z : ℤ) (n : ℕ) → z ≡ pos n → n ≤ 131072 → to_z w64 (of_z w64 z) ≡ pos n
read_back z n e small = rw e (to_z-of_z w64 (pos n) (omega arith))

pub unwrap-n-requires : goal.unwrap-n-requires
unwrap-n-requires c =
    let h = key-holds (table_view c.args.table.now) c.args.key c.requires.ranged c.requires.has c.requires.takes in
    rw (c.integer_at.ensures, h.is) refl

pub overflow_cast-result : goal.overflow_cast-result
overflow_cast-result c =
    let h = key-holds (table_view c.args.table.now) c.args.key c.requires.ranged c.requires.has c.requires.takes in
    let same : c.unwrap-n.result ≡ pos h.n = same_Some _ _ (sym c.unwrap-n.ensures ∙ rw (c.integer_at.ensures, h.is) refl) in
    let small = bound-small (table_view c.args.table.now) c.args.key h in
    rw (read_back c.unwrap-n.result h.n same small) (search rules)

pub returns-clause-value : goal.returns-clause-value
returns-clause-value c =
    let h = key-holds (table_view c.args.table.now) c.args.key c.requires.ranged c.requires.has c.requires.takes in
    let same : c.unwrap-n.result ≡ pos h.n = same_Some _ _ (sym c.unwrap-n.ensures ∙ rw (c.integer_at.ensures, h.is) refl) in
    let small = bound-small (table_view c.args.table.now) c.args.key h in
    rw (read_back c.unwrap-n.result h.n same small) (sym (ap (λ value. option_map_or number_in value 0) h.is))

pub returns-clause-range : goal.returns-clause-range
returns-clause-range c =
    let h = key-holds (table_view c.args.table.now) c.args.key c.requires.ranged c.requires.has c.requires.takes in
    let same : c.unwrap-n.result ≡ pos h.n = same_Some _ _ (sym c.unwrap-n.ensures ∙ rw (c.integer_at.ensures, h.is) refl) in
    let small = bound-small (table_view c.args.table.now) c.args.key h in
    rw (read_back c.unwrap-n.result h.n same small) h.fits
