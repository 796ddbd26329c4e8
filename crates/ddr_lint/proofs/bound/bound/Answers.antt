use Rattle.std.proofs.Common.{ap, subst, ◌∙◌}
use Rattle.ddr_text.specs.Input.{IsText}
use Rattle.ddr_lint.specs.Lint.{configuration_of}
use Rattle.ddr_lint.proofs.BoundLemmas.{input_bounded, sample_bounded}
use Rattle.ddr_lint.proofs.bound.bound.Goals as goal

pub returns-then-sample-clause-written : goal.returns-then-sample-clause-written
returns-then-sample-clause-written g c =
    sample_bounded _ c.args.sample _ c.tell.result _ _ c.if-sample.true c.tell.ensures.written

pub returns-clause-written : goal.returns-clause-written
returns-clause-written g c =
    let text = c.in_ok-text.ensures.text in
    input_bounded _ c.args.sample _ c.in_ok-input.input.items _ c.tell-2.result _ _ c.if-sample.false c.in_ok-input.ensures.all (subst IsText c.as_slice.ensures.value text.1)
    (c.configuration.ensures ∙ ap configuration_of (text.0 ∙ c.as_slice.ensures.value)) c.tell-2.ensures.written
