use Rattle.std.proofs.Common.{◌≡◌, replicate}
use Rattle.ddr_stream.specs.Requests.{no_requests}
use Rattle.ddr_stream.proofs.stream.none_asked.Given as goal

abbrev pub invariant-loop : goal.invariant-loop
invariant-loop l = l.asked.items ≡ replicate l.counter no_requests
