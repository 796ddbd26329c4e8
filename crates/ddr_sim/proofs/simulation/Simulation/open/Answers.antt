-- Nothing is outstanding before the first event.
use Rattle.std.proofs.Common.{ap, sym, ◌∙◌}
use Rattle.ddr_world.specs.State.{State}
use Rattle.ddr_rounds.specs.Rounds.{outstanding}
use Rattle.ddr_rounds.proofs.StepCounts.{none_opened}
use Rattle.ddr_sim.proofs.simulation.Simulation.open.Goals as goal

pub invariant_of-result : goal.invariant_of-result
invariant_of-result c = record {
  config = (c.in_ok-open_as.ensures.stands).config;
  counted = sym (ap (λ (s : State). outstanding s) c.in_ok-open_as.ensures.state ∙ none_opened c.args.config.now 0 0 c.args.config.now.limits.ports);
  keeps = (c.in_ok-open_as.ensures.stands).keeps;
}
