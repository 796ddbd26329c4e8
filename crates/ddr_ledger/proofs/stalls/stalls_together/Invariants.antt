use Rattle.std.proofs.Common.{◌≡◌, drop}
use Rattle.std.specs.Prelude.{fold}
use Rattle.ddr_ledger.specs.Stalls.{and_stalls, stalls_together}
use Rattle.ddr_ledger.proofs.stalls.stalls_together.Given as goal

abbrev pub invariant-loop-one : goal.invariant-loop-one
invariant-loop-one l = fold and_stalls l.all (drop l.one-index l.stalls) ≡ stalls_together l.stalls
