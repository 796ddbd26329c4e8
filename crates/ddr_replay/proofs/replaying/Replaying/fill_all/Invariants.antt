use Rattle.std.proofs.Common.{◌≡◌}
use Rattle.ddr_replay.specs.View.{IsButLedger}
use Rattle.ddr_replay.specs.Waits.{all_full, come_of}
use Rattle.ddr_replay.proofs.replaying.Replaying.fill_all.Given as goal

abbrev pub invariant-loop-port : goal.invariant-loop-port
invariant-loop-port l = record {
  ledger : l.self.ledger ≡ all_full l.rounds (come_of l.fn.self.round l.fn.self.stream.queues) l.port l.fn.self.ledger;
  rest : IsButLedger l.fn.self l.self;
}
