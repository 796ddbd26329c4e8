use Rattle.std.proofs.Common.{◌≡◌}
use Rattle.ddr_world.specs.Events.{Release}
use Rattle.ddr_world.specs.Kept.{state_of}
use Rattle.ddr_rounds.specs.Rounds.{items_of}
use Rattle.ddr_replay.specs.Runs.{released}
use Rattle.ddr_replay.specs.View.{Tells, run_of}
use Rattle.ddr_replay.proofs.replaying.Replaying.serve_port.Given as goal

abbrev pub invariant-replies : goal.invariant-replies
invariant-replies l = record {
  run : released (items_of (state_of l.self.world) (Release l.port)) l.port (run_of l.self) ≡ released (items_of (state_of l.initial.self.world) (Release l.port)) l.port (run_of l.initial.self);
  stream : l.self.stream ≡ l.initial.self.stream;
  config : l.self.config ≡ l.initial.self.config;
  wanted : l.self.wanted ≡ l.initial.self.wanted;
  round : l.self.round ≡ l.initial.self.round;
  told : Tells l.initial.self l.self;
}

abbrev pub decreases-replies : goal.decreases-replies
decreases-replies l = items_of (state_of l.self.world) (Release l.port)
