use Rattle.std.proofs.Common.{◌≡◌}
use Rattle.ddr_world.specs.Kept.{state_of}
use Rattle.ddr_ledger.specs.Activities.{all_acted}
use Rattle.ddr_ledger.specs.Activity.{seen_at}
use Rattle.ddr_replay.specs.View.{IsButLedger}
use Rattle.ddr_replay.proofs.replaying.Replaying.act_all.Given as goal

abbrev pub invariant-loop-channel : goal.invariant-loop-channel
invariant-loop-channel l = record {
  ledger : l.self.ledger ≡ all_acted l.fn.self.round l.cycles (seen_at (state_of l.fn.self.world)) l.channel l.fn.self.ledger;
  rest : IsButLedger l.fn.self l.self;
}
