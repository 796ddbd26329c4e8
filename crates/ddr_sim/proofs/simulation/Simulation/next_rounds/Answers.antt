-- Quiet rounds were made at once.
use Rattle.ddr_sim.proofs.QuietLemmas.{quietly_made}
use Rattle.ddr_sim.proofs.simulation.Simulation.next_rounds.Goals as goal

pub returns-then-quiet-gt0-clause-made : goal.returns-then-quiet-gt0-clause-made
returns-then-quiet-gt0-clause-made g c =
    quietly_made c.args.most c.quiet_rounds-quiet.result c.args.self.now c.pass.new.self (g.W.Write.contents c.args.writer.now) c.if-quiet-gt0.true c.quiet_rounds-quiet.ensures.within
    (c.quiet_rounds-quiet.ensures.quiet c.if-quiet-gt0.true) c.pass.ensures.state c.pass.ensures.left c.pass.ensures.same.silent
