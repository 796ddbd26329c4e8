use Rattle.std.proofs.Common.{◌≡◌}
use Rattle.ddr_world.specs.Events.{Release}
use Rattle.ddr_world.specs.Kept.{state_of}
use Rattle.ddr_rounds.specs.Rounds.{items_of}
use Rattle.ddr_sim.specs.Simulated.{IsSameRun}
use Rattle.ddr_sim.proofs.Courses.{Onward, replies_of}
use Rattle.ddr_sim.proofs.simulation.Simulation.serve_port.Given as goal

abbrev pub invariant-replies : goal.invariant-replies
invariant-replies g l = record {
  onward : Onward (replies_of l.port) l.initial.self (g.W.Write.contents l.initial.writer) (replies_of l.port) l.self (g.W.Write.contents l.writer);
  left : l.self.left ≡ l.initial.self.left;
  same : IsSameRun l.initial.self l.self 0;
}

abbrev pub decreases-replies : goal.decreases-replies
decreases-replies g l = items_of (state_of l.self.world) (Release l.port)
