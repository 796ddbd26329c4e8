-- No more rounds than the core is quiet for.
use Rattle.std.proofs.Common.{arith, subst}
use Rattle.ddr_sim.specs.Quiet.{AreQuiet}
use Rattle.ddr_world.specs.Kept.{state_of}
use Rattle.ddr_sim.specs.Simulated.{Simulated}
use Rattle.ddr_sim.proofs.QuietLemmas.{are_quiet}
use Rattle.ddr_sim.proofs.simulation.Simulation.quiet_rounds.Goals as goal

pub returns-else-quiet-from-clause-quiet : goal.returns-else-quiet-from-clause-quiet
returns-else-quiet-from-clause-quiet c = λ some.
    let a = c.self.inside in
    let n = c.min-most.result in
    subst (λ (s : Simulated). AreQuiet s.config n (state_of s.world) s.left) c.self.view_is
    (are_quiet a.config n c.still-quiet.result a.world a.left c.self.invariant.config c.still-quiet.ensures.channels c.still-quiet.ensures.quiet (c.has_front.ensures.replies c.if-has_front.false) some
    (omega (arith, c.if-quiet-from.false, c.from.ensures)) (omega (arith, c.min-most.ensures)))
