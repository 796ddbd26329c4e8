use Rattle.std.proofs.Common.{◌-◌, length}
use Rattle.std.specs.Io.KnownBytes.{Keeps}
use Rattle.ddr_capture.specs.Feed.{IsWell, left, waiting}
use Rattle.ddr_capture.proofs.feed.Feed.next.Given as goal

abbrev pub invariant-more : goal.invariant-more
invariant-more g l = record {
  well : IsWell l.self;
  kept : Keeps (left l.fn.self (g.R.Read.remaining l.fn.reader)) (left l.self (g.R.Read.remaining l.reader));
}

abbrev pub decreases-more : goal.decreases-more
decreases-more g l = 12290 - length (waiting l.self)
