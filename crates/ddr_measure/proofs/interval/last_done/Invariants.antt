use Rattle.std.proofs.Common.{◌≡◌, drop}
use Rattle.std.specs.Prelude.{fold, max}
use Rattle.ddr_measure.specs.Intervals.{last_done}
use Rattle.ddr_measure.proofs.interval.last_done.Given as goal

abbrev pub invariant-loop-request : goal.invariant-loop-request
invariant-loop-request l = fold (λ last request. max last request.done) l.last (drop l.request-index l.requests) ≡ last_done l.requests
