use Rattle.std.proofs.Common.{◌≡◌}
use Rattle.ddr_thread_tests.proofs.completions.push_in_time.Given as goal

abbrev pub invariant-loop : goal.invariant-loop
invariant-loop g l = record {
  who : l.side.who ≡ l.fn.side.who;
  same : l.done ≡ l.fn.done;
}
