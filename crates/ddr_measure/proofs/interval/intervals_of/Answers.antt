-- One request more is noted.
use Rattle.std.proofs.Common.{◌∙◌, arith}
use Rattle.ddr_measure.proofs.IntervalLemmas.{noted_next}
use Rattle.ddr_measure.proofs.interval.intervals_of.Goals as goal

pub loop-request-preserved : goal.loop-request-preserved
loop-request-preserved c =
    let next = noted_next c.args.every c.args.requests.now c.loop-request.request-index _ _ _ _ (omega arith) c.loop-request.invariant.each c.in_ok-add_request.ensures c.add_burst.ensures in
    record { count = next.0 ∙ c.loop-request.invariant.count; each = next.1 }
