use Rattle.std.proofs.Common.{◌≡◌}
use Rattle.ddr_thread_tests.proofs.completions.push_all.Given as goal

abbrev pub invariant-loop-number : goal.invariant-loop-number
invariant-loop-number g l = l.side.who ≡ l.fn.side.who
