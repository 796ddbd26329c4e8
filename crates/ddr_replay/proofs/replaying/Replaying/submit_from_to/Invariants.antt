use Rattle.std.proofs.Common.{◌≡◌, ◌<◌, ◌≤◌, ◌-◌, ◌⊎◌, ℕ}
use Rattle.ddr_stream.specs.Waiting.{IsSized, Knows, all_in}
use Rattle.ddr_replay.specs.Ahead.{AreSubmitted, Carries}
use Rattle.ddr_replay.specs.View.{IsBeforeSame, Tells}
use Rattle.ddr_replay.proofs.replaying.Replaying.submit_from_to.Given as goal

abbrev pub invariant-loop-port : goal.invariant-loop-port
invariant-loop-port g l = record {
  run : Carries (λ all next. AreSubmitted l.from (l.port - l.from) l.until l.fn.self l.self all next) (all_in l.fn.self.stream (g.R.Read.remaining l.fn.reader)) (all_in l.self.stream (g.R.Read.remaining l.reader));
  knows : (q : ℕ) → l.from ≤ q → q < l.port → Knows l.self.stream q;
  others : (q : ℕ) → (q < l.from) ⊎ (l.port ≤ q) → Knows l.fn.self.stream q → Knows l.self.stream q;
  sized : IsSized l.self.stream;
  stream : l.self.stream.config ≡ l.self.config;
  same : IsBeforeSame l.fn.self l.self;
  told : Tells l.fn.self l.self;
}
