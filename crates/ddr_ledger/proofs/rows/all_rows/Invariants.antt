use Rattle.std.proofs.Common.{◌≡◌, drop}
use Rattle.std.specs.Prelude.{fold}
use Rattle.ddr_ledger.specs.Rows.{all_rows, both_rows}
use Rattle.ddr_ledger.proofs.rows.all_rows.Given as goal

abbrev pub invariant-loop-one : goal.invariant-loop-one
invariant-loop-one l = fold both_rows l.all (drop l.one-index l.rows) ≡ all_rows l.rows
