use Rattle.std.proofs.Common.{◌≡◌, [], replicate}
use Rattle.ddr_ledger.proofs.ledger.none_outstanding.Given as goal

abbrev pub invariant-loop : goal.invariant-loop
invariant-loop l = l.all.items ≡ replicate l.counter []
