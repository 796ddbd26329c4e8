use Rattle.std.proofs.Common.{◌≡◌, replicate}
use Rattle.ddr_ledger.specs.Rows.{no_rows}
use Rattle.ddr_ledger.proofs.ledger.no_rows.Given as goal

abbrev pub invariant-loop : goal.invariant-loop
invariant-loop l = l.all.items ≡ replicate l.counter no_rows
