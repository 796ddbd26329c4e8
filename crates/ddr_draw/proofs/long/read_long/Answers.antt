use Rattle.std.proofs.Common.{◌≡◌, ◌+◌, arith}
use Rattle.std.proofs.lemmas.Result.{err_from_is_err_and}
use Rattle.ddr_trace.specs.Traces.{Recorded}
use Rattle.ddr_capture.specs.Feed.{left}
use Rattle.ddr_draw.proofs.long.read_long.Goals as goal

pub returns-in_err-read_nothing-in-End-clause-refused : goal.returns-in_err-read_nothing-in-End-clause-refused
returns-in_err-read_nothing-in-End-clause-refused g c =
    let p = err_from_is_err_and c.from_residual-in_err-read_nothing-in-End.result c.from_residual-in_err-read_nothing-in-End.ensures.1 in
    let a = left c.args.feed.now (g.R.Read.remaining c.args.reader.now) in
    let kept = c.loop-count.invariant in
    let trace : Recorded = record { start = 0; end = c.in-End.end; entries = kept.so_far } in
    let next : c.loop-count.count + 2 + 1 ≡ c.loop-count.count + 3 = omega arith in
    let ends = rw c.in-End.is at (c.in_ok-entry.ensures.said kept.so_far a kept.stands) in
    rw (p.1, p.2) (c.in_err-read_nothing-in-End.ensures.said trace a (rw next at ends))
