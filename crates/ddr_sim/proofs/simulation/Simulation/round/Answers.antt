-- A round whose channels' part failed.
use Rattle.std.proofs.Common.{◌≡◌, false, ne_eqb, subst}
use Rattle.std.specs.Prelude.{◌==◌}
use Rattle.std.proofs.lemmas.Result.{err_from_is_err_and}
use Rattle.ddr_sim.specs.Simulated.{Simulated}
use Rattle.ddr_sim.proofs.Courses.{round_stopped}
use Rattle.ddr_sim.proofs.simulation.Simulation.round.Goals as goal

pub returns-in_err-serve_channels-clause-leads : goal.returns-in_err-serve_channels-clause-leads
returns-in_err-serve_channels-clause-leads g c =
    let some = subst (λ (s : Simulated). (s.left == 0) ≡ false) c.self.view_is (ne_eqb c.self.inside.left 0 c.if-self-eq0.false) in
    let p = err_from_is_err_and c.from_residual.result c.from_residual.ensures.1 in
    rw (p.1, p.2) (round_stopped c.args.self.now.config c.args.self.now c.serve_channels.new.self (g.W.Write.contents c.args.writer.now) c.in_err-serve_channels.field-0.0 some c.serve_channels.ensures.same.silent c.in_err-serve_channels.ensures.fault)
