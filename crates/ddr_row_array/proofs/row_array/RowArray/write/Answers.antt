use Rattle.std.proofs.Common.{◌≡◌, List, ℕ, length, subst, sym, ap, ◌∙◌}
use Rattle.std.proofs.lemmas.Bool.{OnTrue_from}
use Rattle.ddr_row_array.specs.Changes.{Rewrites}
use Rattle.ddr_row_array.specs.Writes.{with_burst}
use Rattle.ddr_row_array.specs.Merge.{merged}
use Rattle.ddr_row_array.specs.Rows.{cells}
use Rattle.ddr_row_array.proofs.Bursts.{cells-open_burst, MergesLine-burst}
use Rattle.ddr_row_array.proofs.Cells.{length-merged}
use Rattle.ddr_row_array.proofs.row_array.RowArray.write.Goals as goal

pub merge-requires : goal.merge-requires
merge-requires c = c.open_line_mut.ensures.value.1

pub returns-then-there-clause-written : goal.returns-then-there-clause-written
returns-then-there-clause-written c =
    let old = c.args.self.now in
    let burst = c.open_line_mut.result.now in
    let left = c.merge.new.burst in
    let long = ap length c.merge.ensures ∙ length-merged c.args.mask c.args.bytes.now burst in
    rw c.if-there.true (λ row held.
    let line : left ≡ merged c.args.mask c.args.bytes.now (cells old c.args.bank row c.args.line) = c.merge.ensures ∙ ap (merged c.args.mask c.args.bytes.now) (sym (cells-open_burst old c.args.bank row c.args.line burst c.open_line_mut.ensures.value.0 held)) in
    subst (λ (w : List ℕ). Rewrites old (with_burst old c.args.bank c.args.line left) c.args.bank row c.args.line w) line
    (c.open_line_mut.ensures.only_the_line row held left long))

pub returns-then-mask-eq0-clause-written : goal.returns-then-mask-eq0-clause-written
returns-then-mask-eq0-clause-written c =
    OnTrue_from _ _ (λ there.
    MergesLine-burst c.args.self.now c.args.bank c.args.line c.args.mask c.args.bytes.now c.burst.result c.if-mask-eq0.true c.burst.ensures.value c.burst.ensures.length (sym c.is_some.ensures ∙ there))
