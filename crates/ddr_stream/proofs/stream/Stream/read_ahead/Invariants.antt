use Rattle.std.proofs.Common.{ℕ, ◌<◌}
use Rattle.ddr_stream.specs.Waiting.{IsReadOn, IsSame, Knows, all_in}
use Rattle.ddr_stream.proofs.stream.Stream.read_ahead.Given as goal

abbrev pub invariant-loop-port : goal.invariant-loop-port
invariant-loop-port g l = record {
  same : IsSame (all_in l.fn.self (g.R.Read.remaining l.fn.reader)) (all_in l.self (g.R.Read.remaining l.reader));
  rest : IsReadOn l.fn.self l.self;
  ahead : (port : ℕ) → port < l.port → Knows l.self port;
}
