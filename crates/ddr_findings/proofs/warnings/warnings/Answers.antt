use Rattle.std.proofs.Common.{rules, sym, tests}
use Rattle.std.proofs.lemmas.Iterator.{items_from_collect, YieldsList-from_slice}
use Rattle.std.proofs.lemmas.Iterator.Consumers.{YieldsList-from_filter_map}
use Rattle.toml.specs.View.{table_view}
use Rattle.ddr_findings.specs.Warnings.{warning_of, warnings_of}
use Rattle.ddr_findings.proofs.warnings.warnings.Goals as goal

pub returns : goal.returns
unfolding warnings_of
returns c =
    rw (sym c.all.ensures)
    (items_from_collect _ c.collect.ensures.ran (YieldsList-from_filter_map _ (warning_of (table_view c.args.table.now)) (YieldsList-from_slice c.all.result.now cc) c.filter_map.ensures.closure (λ x r q k. search (rules, tests))))
