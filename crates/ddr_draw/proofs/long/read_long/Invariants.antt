use Rattle.std.proofs.Common.{◌≡◌, ◌+◌, List}
use Rattle.ddr_trace.specs.declared.command.Entry.{Entry}
use Rattle.ddr_capture.specs.Feed.{Along, IsWell, left}
use Rattle.ddr_draw.specs.Ahead.{StandsAt}
use Rattle.ddr_draw.specs.Sketch.{IsSmall, Shows}
use Rattle.ddr_draw.proofs.long.read_long.Given as goal

-- the sketch stands for the commands of the lines before
abbrev pub invariant-loop-count : goal.invariant-loop-count
invariant-loop-count g l = record {
  well : IsWell l.feed;
  view : l.sketch.view ≡ l.fn.sketch.view;
  counted : l.sketch.count ≡ l.count;
  so_far : List Entry;
  small : IsSmall l.fn.config l.sketch;
  shows : Shows l.fn.config l.sketch so_far;
  stands : Along (StandsAt (l.count + 2) so_far) (left l.fn.feed (g.R.Read.remaining l.fn.reader)) (left l.feed (g.R.Read.remaining l.reader));
}
