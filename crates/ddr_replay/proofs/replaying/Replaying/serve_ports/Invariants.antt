use Rattle.std.proofs.Common.{◌≡◌}
use Rattle.ddr_replay.specs.Runs.{ports_served}
use Rattle.ddr_replay.specs.View.{Tells, run_of}
use Rattle.ddr_replay.proofs.replaying.Replaying.serve_ports.Given as goal

abbrev pub invariant-loop-port : goal.invariant-loop-port
invariant-loop-port l = record {
  run : run_of l.self ≡ ports_served l.port (run_of l.fn.self);
  stream : l.self.stream ≡ l.fn.self.stream;
  config : l.self.config ≡ l.fn.self.config;
  wanted : l.self.wanted ≡ l.fn.self.wanted;
  round : l.self.round ≡ l.fn.self.round;
  told : Tells l.fn.self l.self;
}
