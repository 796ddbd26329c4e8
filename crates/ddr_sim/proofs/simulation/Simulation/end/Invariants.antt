use Rattle.std.proofs.Common.{◌≡◌}
use Rattle.ddr_world.specs.Kept.{state_of}
use Rattle.ddr_sim.specs.Runs.{channels_ended}
use Rattle.ddr_sim.specs.Simulated.{IsSameRun}
use Rattle.ddr_sim.proofs.simulation.Simulation.end.Given as goal

abbrev pub invariant-loop-channel : goal.invariant-loop-channel
invariant-loop-channel l = record {
  state : state_of l.self.world ≡ channels_ended l.fn.self.config.limits.ports l.channel (state_of l.fn.self.world);
  left : l.self.left ≡ l.fn.self.left;
  same : IsSameRun l.fn.self l.self 0;
}
