use Rattle.std.proofs.Common.{Some, refl, ap, sym, ◌∙◌}
use Rattle.ddr_row_array.proofs.Bursts.{IsOpenAt-read, HasPlace-at, open_burst-at}
use Rattle.ddr_row_array.proofs.row_array.RowArray.open_line.Goals as goal

pub line-requires-clause-kept : goal.line-requires-clause-kept
line-requires-clause-kept c = c.self.invariant.store

pub line-requires-clause-there : goal.line-requires-clause-there
line-requires-clause-there c =
    let at = IsOpenAt-read c.self.inside c.args.bank c.args.line c.index.result.now c.unwrap-open.result c.self.invariant (rw (← c.self.view_is) at c.requires) c.index.ensures c.unwrap-open.ensures in
    HasPlace-at c.self.inside c.args.bank c.args.line c.unwrap-open.result c.self.invariant at

pub returns-clause-value : goal.returns-clause-value
returns-clause-value c =
    let at = IsOpenAt-read c.self.inside c.args.bank c.args.line c.index.result.now c.unwrap-open.result c.self.invariant (rw (← c.self.view_is) at c.requires) c.index.ensures c.unwrap-open.ensures in
    rw (← c.self.view_is) (open_burst-at c.self.inside c.args.bank c.args.line c.unwrap-open.result c.self.invariant at _ refl ∙ ap Some (sym c.line.ensures.value))
