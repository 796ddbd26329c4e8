use Rattle.std.proofs.Common.{◌≡◌, Ok}
use Rattle.ddr_sim.specs.Rounds.{ports_served}
use Rattle.ddr_sim.specs.Simulated.{IsSameRun, Leads}
use Rattle.ddr_sim.proofs.simulation.Simulation.serve_ports.Given as goal

abbrev pub invariant-loop-port : goal.invariant-loop-port
invariant-loop-port g l = record {
  leads : Leads (λ run. Ok (ports_served l.port run)) l.fn.self (g.W.Write.contents l.fn.writer) l.self (g.W.Write.contents l.writer) (Ok tt);
  left : l.self.left ≡ l.fn.self.left;
  same : IsSameRun l.fn.self l.self 0;
}
