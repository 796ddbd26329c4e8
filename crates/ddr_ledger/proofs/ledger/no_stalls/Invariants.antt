use Rattle.std.proofs.Common.{◌≡◌, replicate}
use Rattle.ddr_ledger.specs.Stalls.{no_stalls}
use Rattle.ddr_ledger.proofs.ledger.no_stalls.Given as goal

abbrev pub invariant-loop : goal.invariant-loop
invariant-loop l = l.all.items ≡ replicate l.counter (no_stalls l.config)
