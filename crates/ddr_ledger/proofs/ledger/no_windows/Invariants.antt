use Rattle.std.proofs.Common.{◌≡◌, replicate}
use Rattle.ddr_ledger.proofs.ledger.no_windows.Given as goal

abbrev pub invariant-loop : goal.invariant-loop
invariant-loop l = l.all.items ≡ replicate l.counter 0
