use Rattle.std.proofs.Common.{◌≡◌, ◌-◌, [], true}
use Rattle.ddr_stream.specs.Waiting.{IsAhead, all_in}
use Rattle.ddr_replay.specs.Ahead.{Carries, HasTold, LeadsAlike}
use Rattle.ddr_replay.specs.Told.{comes_at_end}
use Rattle.ddr_replay.proofs.replaying.Replaying.make_rounds.Given as goal

abbrev pub invariant-rounds : goal.invariant-rounds
invariant-rounds g l = record {
  ahead : IsAhead l.self.stream;
  leads : Carries (λ all next. LeadsAlike l.fn.self.config (4294967295 - l.fn.self.round) (4294967295 - l.self.round) l.fn.self l.self all next) (all_in l.fn.self.stream (g.R.Read.remaining l.fn.reader)) (all_in l.self.stream (g.R.Read.remaining l.reader));
  config : l.self.config ≡ l.fn.self.config;
  wanted : l.self.wanted ≡ l.fn.self.wanted;
  told : HasTold l.self (g.W.Write.contents l.fn.writer) (g.W.Write.contents l.writer);
  idle : comes_at_end l.fn.self.wanted ≡ true → (l.writer ≡ l.fn.writer) × (l.self.text ≡ []);
}

abbrev pub decreases-rounds : goal.decreases-rounds
decreases-rounds g l = 4294967295 - l.self.round
