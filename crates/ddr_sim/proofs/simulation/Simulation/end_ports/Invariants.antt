use Rattle.std.proofs.Common.{◌≡◌}
use Rattle.ddr_world.specs.Kept.{state_of}
use Rattle.ddr_sim.specs.Runs.{ports_ended}
use Rattle.ddr_sim.specs.Simulated.{IsSameRun}
use Rattle.ddr_sim.proofs.simulation.Simulation.end_ports.Given as goal

abbrev pub invariant-loop-port : goal.invariant-loop-port
invariant-loop-port l = record {
  state : state_of l.self.world ≡ ports_ended l.channel l.port (state_of l.fn.self.world);
  left : l.self.left ≡ l.fn.self.left;
  same : IsSameRun l.fn.self l.self 0;
}
