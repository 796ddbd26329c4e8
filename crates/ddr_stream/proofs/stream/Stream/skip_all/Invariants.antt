use Rattle.std.proofs.Common.{◌+◌, ◌-◌, cond, ◌≤◌}
use Rattle.ddr_capture.specs.declared.feed.TheConstants.{MOST_LINES}
use Rattle.ddr_stream.specs.Waiting.{IsReadOn, all_in, rest_in}
use Rattle.ddr_stream.proofs.NextLemmas.{HaveSameFault}
use Rattle.ddr_stream.proofs.stream.Stream.skip_all.Given as goal

abbrev pub invariant-skipped : goal.invariant-skipped
invariant-skipped g l = record {
  same : HaveSameFault (all_in l.fn.self (g.R.Read.remaining l.fn.reader)) (rest_in (record l.self { sent = l.sent }) (g.R.Read.remaining l.reader));
  rest : IsReadOn l.fn.self l.self;
  each : l.sent ≤ l.self.count;
}

abbrev pub decreases-skipped : goal.decreases-skipped
decreases-skipped g l = cond l.self.ended 0 (MOST_LINES - l.self.count + 1)
