use Rattle.std.proofs.Common.{◌≡◌, replicate}
use Rattle.ddr_measure.specs.Noting.{no_interval}
use Rattle.ddr_measure.proofs.interval.empty_intervals.Given as goal

abbrev pub invariant-loop : goal.invariant-loop
invariant-loop l = l.intervals.items ≡ replicate l.counter no_interval
