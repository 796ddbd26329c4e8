use Rattle.ddr_sim.specs.Runs.{served_out}
use Rattle.ddr_sim.specs.Simulated.{IsSameRun}
use Rattle.ddr_sim.proofs.Courses.{Onward}
use Rattle.ddr_sim.proofs.simulation.Simulation.serve_out.Given as goal

abbrev pub invariant-rounds : goal.invariant-rounds
invariant-rounds g l = record {
  onward : Onward (served_out l.fn.self.config l.fn.self.left) l.fn.self (g.W.Write.contents l.fn.writer) (served_out l.fn.self.config l.self.left) l.self (g.W.Write.contents l.writer);
  same : IsSameRun l.fn.self l.self 0;
}

abbrev pub decreases-rounds : goal.decreases-rounds
decreases-rounds g l = l.self.left
