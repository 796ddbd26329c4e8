use Rattle.std.proofs.Common.{◌≡◌, length, take}
use Rattle.ddr_measure.specs.Intervals.{count_of}
use Rattle.ddr_measure.specs.Noting.{AreIntervals}
use Rattle.ddr_measure.proofs.interval.intervals_of.Given as goal

abbrev pub invariant-loop-request : goal.invariant-loop-request
invariant-loop-request l = record {
  count : length l.intervals.items ≡ count_of l.every l.requests;
  each : AreIntervals l.every (take l.request-index l.requests) l.intervals.items;
}
