use Rattle.std.proofs.Common.{◌≡◌, ◌≤◌, drop, map}
use Rattle.ddr_sim.specs.Runs.{all_followed}
use Rattle.ddr_text.specs.Script.{view}
use Rattle.ddr_sim.proofs.Courses.{Onward}
use Rattle.ddr_sim.proofs.simulation.Simulation.follow_all.Given as goal

abbrev pub invariant-loop-instruction : goal.invariant-loop-instruction
invariant-loop-instruction g l = record {
  onward : Onward (all_followed l.fn.self.config (map view l.instructions)) l.fn.self (g.W.Write.contents l.fn.writer) (all_followed l.fn.self.config (map view (drop l.instruction-index l.instructions))) l.self (g.W.Write.contents l.writer);
  config : l.self.config ≡ l.fn.self.config;
  silent : l.self.silent ≡ l.fn.self.silent;
  waiting : l.self.waiting ≤ l.instruction-index;
}
