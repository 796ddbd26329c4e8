use Rattle.std.proofs.Common.{◌≡◌, false}
use Rattle.ddr_workers.specs.Requests.{has_end}
use Rattle.ddr_thread_tests.proofs.requests.push_all.Given as goal

abbrev pub invariant-loop-number : goal.invariant-loop-number
invariant-loop-number g l = record {
  who : l.side.who ≡ l.fn.side.who;
  before_end : has_end l.side.put ≡ false;
}

abbrev pub invariant-loop : goal.invariant-loop
invariant-loop g l = record {
  who : l.side.who ≡ l.fn.side.who;
  before_end : has_end l.side.put ≡ false;
}
