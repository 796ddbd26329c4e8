use Rattle.std.proofs.Common.{◌≡◌, ◌+◌, ◌-◌, cond}
use Rattle.ddr_capture.specs.declared.feed.TheConstants.{MOST_LINES}
use Rattle.ddr_stream.specs.Waiting.{IsReadOn, IsSame, all_in}
use Rattle.ddr_stream.proofs.stream.Stream.read_all.Given as goal

abbrev pub invariant-left : goal.invariant-left
invariant-left g l = record {
  same : IsSame (all_in l.fn.self (g.R.Read.remaining l.fn.reader)) (all_in l.self (g.R.Read.remaining l.reader));
  rest : IsReadOn l.fn.self l.self;
  ended : l.ended ≡ l.self.ended;
}

abbrev pub decreases-left : goal.decreases-left
decreases-left g l = cond l.ended 0 (MOST_LINES - l.self.count + 1)
