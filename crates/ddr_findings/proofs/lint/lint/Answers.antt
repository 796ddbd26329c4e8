use Rattle.toml.specs.Parse.{parse_document}
use Rattle.toml.specs.View.{table_view}
use Rattle.ddr_findings.proofs.Accepted.{accepted}
use Rattle.ddr_findings.proofs.lint.lint.Goals as goal

pub returns-clause-accepted : goal.returns-clause-accepted
returns-clause-accepted c =
    accepted (parse_document c.args.text.now) (table_view c.in-Ok.table) c.in_ok-faults.field-0.items c.in-Ok.ensures.ok c.in_ok-faults.ensures
