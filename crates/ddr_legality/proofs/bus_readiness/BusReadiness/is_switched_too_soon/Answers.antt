-- What is kept of the other rank tells.
use Rattle.std.proofs.Common.{ap, ◌∙◌}
use Rattle.ddr_legality.specs.declared.columns.Columns.{Columns}
use Rattle.ddr_legality.specs.Columns.{switches_soon}
use Rattle.ddr_legality.proofs.IssuedLemmas.{other_told}
use Rattle.ddr_legality.proofs.bus_readiness.BusReadiness.is_switched_too_soon.Goals as goal

pub returns : goal.returns
returns c = λ history issued.
    let i = c.args.self.now in
    let e = c.args.entry.now in
    c.are_left_too_soon.ensures
    ∙ ap (λ (k : Columns). switches_soon i.config.timing k e) c.other_columns.ensures
    ∙ other_told i history e issued c.requires
