use Rattle.std.proofs.Common.{◌≡◌, ◌++◌}
use Rattle.ddr_thread_tests.proofs.requests.take_all.Given as goal

abbrev pub invariant-loop : goal.invariant-loop
invariant-loop g l = record {
  who : l.side.who ≡ l.fn.side.who;
  took : l.side.took ≡ l.fn.side.took ++ l.got.items;
}
