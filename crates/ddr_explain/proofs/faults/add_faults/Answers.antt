-- The rule is broken, and is added, or it is kept.
use Rattle.std.proofs.Common.{◌≡◌, ◌++◌, ap, arith, sym, take, ◌∙◌}
use Rattle.std.proofs.lemmas.List.{take_all}
use Rattle.ddr_trace.specs.declared.rule.TheConstants.Rule.{ALL}
use Rattle.ddr_explain.specs.AllFaults.{fault_at}
use Rattle.ddr_explain.proofs.AllLemmas.{faults_here, rule_broken, rule_kept}
use Rattle.ddr_explain.proofs.faults.add_faults.Goals as goal
use Rattle.ddr_explain.proofs.faults.add_faults.Goals.{then-breaks+in_ok-push, else-breaks}

pub loop-rule-preserved : goal.loop-rule-preserved
loop-rule-preserved c =
    let a = c.args in
    elim c.if-breaks.branch [
      | then-breaks+in_ok-push w ↦
          rule_broken _ (fault_at a.place) a.faults.now.items c.loop-rule.faults.items c.if-breaks.faults.items c.loop-rule.rule-index c.loop-rule-test.true
          (sym c.breaks.ensures ∙ w.if-breaks.true) (rw w.faults-is w.in_ok-push.ensures.items) c.loop-rule.invariant
      | else-breaks w ↦
          rw w.faults-is (rule_kept _ (fault_at a.place) a.faults.now.items c.loop-rule.faults.items c.loop-rule.rule-index c.loop-rule-test.true
          (sym c.breaks.ensures ∙ w.if-breaks.false) c.loop-rule.invariant)
    ]

pub returns : goal.returns
returns c =
    let a = c.args in
    let all : take c.loop-rule.rule-index ALL ≡ ALL = take_all c.loop-rule.rule-index ALL (omega arith) in
    rw all at c.loop-rule.invariant ∙ ap (λ fs. a.faults.now.items ++ fs) (faults_here a.config.now a.start a.end a.entries.now a.place _ c.requires.within)
