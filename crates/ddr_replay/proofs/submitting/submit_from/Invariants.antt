use Rattle.std.proofs.Common.{◌≡◌, ◌≢◌, ℕ, ◌+◌, ◌-◌}
use Rattle.ddr_world.specs.Kept.{state_of}
use Rattle.ddr_world.specs.Promise.{trace_at}
use Rattle.ddr_rounds.specs.Rounds.{outstanding}
use Rattle.ddr_stream.specs.Waiting.{IsSized, Knows, all_in}
use Rattle.ddr_replay.specs.Ahead.{Carries}
use Rattle.ddr_replay.proofs.SubmitLemmas.{IsLed}
use Rattle.ddr_replay.proofs.submitting.submit_from.Given as goal

abbrev pub invariant-asks : goal.invariant-asks
invariant-asks g l = record {
  led : Carries (λ all next. IsLed l.port l.round (state_of l.fn.world) l.fn.ledger (state_of l.world) l.ledger all next) (all_in l.fn.stream (g.R.Read.remaining l.fn.reader)) (all_in l.stream (g.R.Read.remaining l.reader));
  others : (q : ℕ) → q ≢ l.port → Knows l.fn.stream q → Knows l.stream q;
  stream : l.stream.config ≡ l.fn.stream.config;
  sized : IsSized l.stream;
  config : l.world.config ≡ l.fn.world.config;
  keeps : l.world.keeps ≡ l.fn.world.keeps;
  traces : (d : ℕ) → trace_at (state_of l.world) d ≡ trace_at (state_of l.fn.world) d;
  served : l.ledger.served ≡ l.fn.ledger.served;
  count : l.fn.stream.taken + outstanding (state_of l.world) ≡ l.stream.taken + outstanding (state_of l.fn.world);
}

abbrev pub decreases-asks : goal.decreases-asks
decreases-asks g l = 18446744073709551614 - l.stream.taken
