use Rattle.std.proofs.Common.{◌≡◌, [], All, length}
use Rattle.ddr_counting.specs.Noting.{IsNotedOf}
use Rattle.ddr_counting.proofs.noting.none_counted.Given as goal

abbrev pub invariant-loop : goal.invariant-loop
invariant-loop l = record {
  many : length l.all.items ≡ l.counter;
  each : All (IsNotedOf l.config []) l.all.items;
}
