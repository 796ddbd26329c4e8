use Rattle.std.proofs.Common.{◌≡◌, drop}
use Rattle.std.specs.Prelude.{fold}
use Rattle.ddr_ledger.specs.Causes.{and_clocks, clocks_of}
use Rattle.ddr_ledger.proofs.causes.Causes.clocks.Given as goal

abbrev pub invariant-loop-clocks : goal.invariant-loop-clocks
invariant-loop-clocks l = fold and_clocks l.all (drop l.clocks-index l.self.rules) ≡ clocks_of l.self
