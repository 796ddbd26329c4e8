use Rattle.std.proofs.Common.{◌≡◌, replicate}
use Rattle.ddr_ledger.specs.Times.{no_times}
use Rattle.ddr_ledger.proofs.ledger.no_times.Given as goal

abbrev pub invariant-loop : goal.invariant-loop
invariant-loop l = l.all.items ≡ replicate l.counter no_times
