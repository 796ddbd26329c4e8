-- The one table, and the other behind it.
use Rattle.std.proofs.Common.{◌++◌, ap₂, ◌∙◌}
use Rattle.ddr_ledger.specs.TimesReport.{waits_tables}
use Rattle.ddr_ledger.proofs.times_report.waits_tables.Goals as goal

pub returns : goal.returns
unfolding waits_tables
returns c = c.in_ok-push_str.ensures.bytes ∙ ap₂ ◌++◌ c.in_ok-text.ensures (c.as_str.ensures.value ∙ c.in_ok-released.ensures)
