use Rattle.std.proofs.Common.{◌≡◌, ◌+◌, ◌-◌, cond}
use Rattle.ddr_capture.specs.declared.feed.TheConstants.{MOST_LINES}
use Rattle.std.specs.List.{slice_get}
use Rattle.ddr_stream.specs.Stream.{queue_at}
use Rattle.ddr_stream.specs.Waiting.{IsReadOn, IsSame, all_in}
use Rattle.ddr_stream.proofs.stream.Stream.first.Given as goal

abbrev pub invariant-lines : goal.invariant-lines
invariant-lines g l = record {
  same : IsSame (all_in l.fn.self (g.R.Read.remaining l.fn.reader)) (all_in l.self (g.R.Read.remaining l.reader));
  rest : IsReadOn l.fn.self l.self;
  known : l.known ≡ slice_get (queue_at l.self.queues l.port) 0;
}

abbrev pub decreases-lines : goal.decreases-lines
decreases-lines g l = cond l.self.ended 0 (MOST_LINES - l.self.count + 1)
