use Rattle.std.proofs.Common.{◌∙◌}
use Rattle.ddr_trace_text.specs.Text.{command_fields}
use Rattle.ddr_text.proofs.CanonicalLemmas.{line_short}
use Rattle.ddr_text.proofs.canonical.take_entry.Goals as goal

pub returns-clause-short : goal.returns-clause-short
returns-clause-short c =
    line_short c.args.text.now c.in_ok-command.rest.now (command_fields c.in_ok-cycle.cycle c.in_ok-command.command)
    (c.in_ok-cycle.ensures ∙ c.in_ok-command.ensures c.in_ok-cycle.cycle)
