use Rattle.std.proofs.Common.{◌≡◌, drop}
use Rattle.std.specs.Prelude.{fold}
use Rattle.ddr_ledger.specs.Numbers.{both, many}
use Rattle.ddr_ledger.proofs.numbers.many.Given as goal

abbrev pub invariant-loop-one : goal.invariant-loop-one
invariant-loop-one l = fold both l.all (drop l.one-index l.requests) ≡ many l.requests
