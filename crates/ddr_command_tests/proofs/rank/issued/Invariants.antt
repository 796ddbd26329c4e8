use Rattle.std.proofs.Common.{◌≡◌}
use Rattle.ddr_command_tests.proofs.rank.issued.Given as goal

abbrev pub invariant-loop-step : goal.invariant-loop-step
invariant-loop-step g l = l.rank.config ≡ l.config
