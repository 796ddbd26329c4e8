use Rattle.std.proofs.Common.{◌≡◌, drop}
use Rattle.std.specs.Prelude.{fold}
use Rattle.ddr_ledger.specs.Numbers.{together, with_numbers}
use Rattle.ddr_ledger.proofs.numbers.together.Given as goal

abbrev pub invariant-loop-one : goal.invariant-loop-one
invariant-loop-one l = fold with_numbers l.all (drop l.one-index l.numbers) ≡ together l.numbers
