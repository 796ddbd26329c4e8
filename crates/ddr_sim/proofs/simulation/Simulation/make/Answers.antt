-- What is counted is what is outstanding.
use Rattle.std.proofs.Common.{arith, subst, sym, ◌∙◌}
use Rattle.ddr_world.specs.declared.event.Outcome.{Outcome}
use Rattle.ddr_world.specs.Events.{event_of}
use Rattle.ddr_world.specs.Kept.{state_of}
use Rattle.ddr_rounds.specs.Rounds.{outstanding}
use Rattle.ddr_rounds.proofs.StepCounts.{Counted, as_many, made_counts}
use Rattle.ddr_sim.proofs.simulation.Simulation.make.Goals as goal

pub invariant_of-self-in-Accepted : goal.invariant_of-self-in-Accepted
invariant_of-self-in-Accepted c =
    let a = c.self.inside in
    let n = outstanding (state_of a.world) in
    let m = outstanding (state_of c.step.new.self) in
    let counted = made_counts (state_of a.world) (state_of c.step.new.self) (event_of c.args.event) c.in_ok-outcome.outcome c.in_ok-outcome.ensures.answer.ok in
    record {
      config = c.in_ok-outcome.ensures.answer.config ∙ c.self.invariant.config;
      keeps = c.in_ok-outcome.ensures.answer.keeps ∙ c.self.invariant.keeps;
      counted = omega (arith, c.self.invariant.counted, (subst (λ (o : Outcome). Counted (event_of c.args.event) n o m) c.in-Accepted.is counted).0);
    }

pub overflow_sub-self : goal.overflow_sub-self
overflow_sub-self c =
    let a = c.self.inside in
    let n = outstanding (state_of a.world) in
    let m = outstanding (state_of c.step.new.self) in
    let counted = made_counts (state_of a.world) (state_of c.step.new.self) (event_of c.args.event) c.in_ok-outcome.outcome c.in_ok-outcome.ensures.answer.ok in
    omega (arith, c.self.invariant.counted, subst (λ (o : Outcome). Counted (event_of c.args.event) n o m) c.in-Released.is counted)

pub invariant_of-self-in-Released : goal.invariant_of-self-in-Released
invariant_of-self-in-Released c =
    let a = c.self.inside in
    let n = outstanding (state_of a.world) in
    let m = outstanding (state_of c.step.new.self) in
    let counted = made_counts (state_of a.world) (state_of c.step.new.self) (event_of c.args.event) c.in_ok-outcome.outcome c.in_ok-outcome.ensures.answer.ok in
    record {
      config = c.in_ok-outcome.ensures.answer.config ∙ c.self.invariant.config;
      keeps = c.in_ok-outcome.ensures.answer.keeps ∙ c.self.invariant.keeps;
      counted = omega (arith, c.self.invariant.counted, subst (λ (o : Outcome). Counted (event_of c.args.event) n o m) c.in-Released.is counted);
    }

pub invariant_of-self-in_default : goal.invariant_of-self-in_default
invariant_of-self-in_default c =
    let a = c.self.inside in
    let counted = made_counts (state_of a.world) (state_of c.step.new.self) (event_of c.args.event) c.in_ok-outcome.outcome c.in_ok-outcome.ensures.answer.ok in
    record {
      config = c.in_ok-outcome.ensures.answer.config ∙ c.self.invariant.config;
      keeps = c.in_ok-outcome.ensures.answer.keeps ∙ c.self.invariant.keeps;
      counted = c.self.invariant.counted ∙ sym (as_many (event_of c.args.event) (outstanding (state_of a.world)) (outstanding (state_of c.step.new.self)) c.in_ok-outcome.outcome counted c.in_default.not-Accepted c.in_default.not-Released);
    }

pub overflow_add-self : goal.overflow_add-self
overflow_add-self c =
    let a = c.self.inside in
    let n = outstanding (state_of a.world) in
    let m = outstanding (state_of c.step.new.self) in
    let counted = made_counts (state_of a.world) (state_of c.step.new.self) (event_of c.args.event) c.in_ok-outcome.outcome c.in_ok-outcome.ensures.answer.ok in
    let room = rw (← c.self.view_is) at c.requires in
    omega (arith, (subst (λ (o : Outcome). Counted (event_of c.args.event) n o m) c.in-Accepted.is counted).1, room)
