-- The command was judged, and broke no rule or one.
use Rattle.std.proofs.Common.{None, Some, inr, pos, refl, ap, arith, subst, ◌∙◌}
use Rattle.ddr_timing.specs.declared.config.Config.{Config}
use Rattle.ddr_judge_c.specs.Calls.{IsAnswered}
use Rattle.ddr_judge_c.specs.Faults.{fault_of}
use Rattle.ddr_judge_c.proofs.answer.Goals as goal

pub returns-in-None : goal.returns-in-None
returns-in-None c =
    let early = c.if-entry-ge-CLOCK_STOP.false in
    subst (λ o. IsAnswered o c.args.fault.now c.args.fault.now (pos 0) c.args.judge.now c.judge.new.self) c.in-Ok.ensures (inr (inr (record {
      early = omega (arith, early);
      verdict = None;
      right = c.in-None.ensures.told;
      counted = c.in-None.ensures.counted;
      code_is = refl;
      shown = refl;
      last = c.in-None.ensures.last;
      config = c.in-None.ensures.config;
      start_is = c.in-None.ensures.start;
    })))

pub returns-in-Some : goal.returns-in-Some
returns-in-Some c =
    let early = c.if-entry-ge-CLOCK_STOP.false in
    subst (λ o. IsAnswered o c.args.fault.now c.fault_of.result (pos 19) c.args.judge.now c.judge.new.self) c.in-Ok.ensures (inr (inr (record {
      early = omega (arith, early);
      verdict = Some c.in-Some.told;
      right = c.in-Some.ensures.told;
      counted = c.in-Some.ensures.counted;
      code_is = refl;
      shown = c.fault_of.ensures ∙ ap (λ (d : Config). fault_of d.timing c.in-Ok.entry c.in-Some.told) c.in-Some.ensures.config;
      last = c.in-Some.ensures.last;
      config = c.in-Some.ensures.config;
      start_is = c.in-Some.ensures.start;
    })))
