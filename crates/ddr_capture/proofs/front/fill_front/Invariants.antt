use Rattle.std.proofs.Common.{◌-◌, ◌≤◌, vec_len}
use Rattle.ddr_capture.specs.Feed.{Along, IsWell, left}
use Rattle.ddr_capture.specs.Front.{IsFront}
use Rattle.ddr_capture.proofs.front.fill_front.Given as goal

abbrev pub invariant-lines : goal.invariant-lines
invariant-lines g l = record {
  well : IsWell l.feed;
  few : vec_len l.front ≤ 16777216;
  said : Along (IsFront l.front.items) (left l.fn.feed (g.R.Read.remaining l.fn.reader)) (left l.feed (g.R.Read.remaining l.reader));
}

abbrev pub decreases-lines : goal.decreases-lines
decreases-lines g l = 16777216 - vec_len l.front
