use Rattle.ddr_sim.specs.Rounds.{rounds}
use Rattle.ddr_sim.specs.Simulated.{IsSameRun}
use Rattle.ddr_sim.proofs.Courses.{Onward}
use Rattle.ddr_sim.proofs.simulation.Simulation.rounds.Given as goal

abbrev pub invariant-rounds : goal.invariant-rounds
invariant-rounds g l = record {
  onward : Onward (rounds l.fn.self.config l.fn.count) l.fn.self (g.W.Write.contents l.fn.writer) (rounds l.fn.self.config l.to_make) l.self (g.W.Write.contents l.writer);
  same : IsSameRun l.fn.self l.self 0;
}

abbrev pub decreases-rounds : goal.decreases-rounds
decreases-rounds g l = l.to_make
