-- One item after another is popped.
use Rattle.std.proofs.Common.{arith, sym, ap, ◌∙◌}
use Rattle.ddr_world.specs.Events.{event_of}
use Rattle.ddr_world.specs.Kept.{state_of}
use Rattle.ddr_world.specs.State.{State}
use Rattle.ddr_rounds.specs.Rounds.{items_of, outstanding}
use Rattle.ddr_rounds.proofs.ContinueLemmas.{continues_by, continues_then}
use Rattle.ddr_rounds.proofs.EventLemmas.{answered_err, answered_ok, made_at_all, made_first}
use Rattle.ddr_rounds.proofs.PartLemmas.{popped_alike}
use Rattle.ddr_rounds.proofs.StepCounts.{made_pops, repeated_end, repeated_more}
use Rattle.ddr_rounds.proofs.events.repeat.Goals as goal

pub items-smaller : goal.items-smaller
items-smaller c =
    let event = event_of c.args.event in
    let ok = answered_ok c.items.world c.step.new.self event c.step.result c.step.ensures.answer (sym c.is_ok.ensures.value ∙ c.items-test.true) in
    omega (arith, made_pops (state_of c.items.world) (state_of c.step.new.self) event ok.0 c.requires ok.1)

pub items-preserved : goal.items-preserved
items-preserved c =
    let kept = c.items.invariant in
    let event = event_of c.args.event in
    let before = c.items.world in
    let after = c.step.new.self in
    let ok = answered_ok before after event c.step.result c.step.ensures.answer (sym c.is_ok.ensures.value ∙ c.items-test.true) in
    record {
      state = repeated_more (state_of before) (state_of after) event ok.0 c.requires ok.1 ∙ kept.state;
      made = λ _. made_first c.items.some (state_of c.args.world.now) (state_of before) (state_of after) event ok.0 kept.made kept.none ok.1;
      none = λ is. absurd (let impossible = is in cc);
      config = c.step.ensures.answer.config ∙ kept.config;
      keeps = c.step.ensures.answer.keeps ∙ kept.keeps;
      continues = continues_then c.args.world.now before after kept.continues (continues_by before after event c.step.result c.step.ensures.stands);
    }

pub returns : goal.returns
returns c =
    let event = event_of c.args.event in
    let kept = c.items.invariant in
    let start = c.args.world.now in
    let now = c.items.world in
    let after = c.step.new.self in
    let err = answered_err now after event c.step.result c.requires c.step.ensures.answer (sym c.is_ok.ensures.value ∙ c.items-test.false) in
    let state = err.2 ∙ sym (repeated_end (items_of (state_of now) event) (state_of now) event err.0 err.1) ∙ kept.state in
    record {
      state = state;
      some = made_at_all c.items.some (state_of start) (state_of now) event err.0 kept.made kept.none err.1;
      outstanding = ap (λ (s : State). outstanding s) state ∙ popped_alike event (state_of start) c.requires;
      config = c.step.ensures.answer.config ∙ kept.config;
      keeps = c.step.ensures.answer.keeps ∙ kept.keeps;
      continues = continues_then start now after kept.continues (continues_by now after event c.step.result c.step.ensures.stands);
    }
