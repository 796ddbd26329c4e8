-- The line of the rule tells.
use Rattle.std.proofs.Common.{ap, ◌∙◌}
use Rattle.ddr_trace.specs.Rules.{Spacing}
use Rattle.ddr_evidence.proofs.broken.is_later_of_two.Goals as goal

pub returns-in-Some : goal.returns-in-Some
returns-in-Some c = c.has.ensures ∙ ap (λ (s : Spacing). s.later c.args.command.now) c.in-Some.ensures
