use Rattle.std.proofs.Common.{◌≡◌, drop}
use Rattle.std.specs.Prelude.{fold}
use Rattle.ddr_ledger.specs.Waited.{all_waited, both_waited}
use Rattle.ddr_ledger.proofs.waited.all_waited.Given as goal

abbrev pub invariant-loop-one : goal.invariant-loop-one
invariant-loop-one l = fold both_waited l.all (drop l.one-index l.waited) ≡ all_waited l.waited
