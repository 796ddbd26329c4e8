use Rattle.std.proofs.Common.{◌≡◌, ◌≤◌, ◌*◌, drop}
use Rattle.ddr_measure.specs.Distributions.{bound_from}
use Rattle.ddr_measure.proofs.distribution.Distribution.bound.Given as goal

abbrev pub invariant-loop-class : goal.invariant-loop-class
invariant-loop-class l = record {
  bound : bound_from l.wanted l.seen l.class (drop l.class l.self.classes) ≡ bound_from l.wanted 0 0 l.self.classes;
  few : l.seen ≤ l.class * 18446744073709551615;
}
