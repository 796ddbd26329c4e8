-- The places, and the trace's end.
use Rattle.std.proofs.Common.{[], ◌∷◌, ◌++◌, length, true, false, ap, sym, ◌∙◌, append-nil}
use Rattle.ddr_trace.specs.declared.rule.Rule.TheVariants as rule
use Rattle.ddr_explain.specs.AllFaults.{fault_at}
use Rattle.ddr_explain.proofs.AllLemmas.{all_of}
use Rattle.ddr_explain.proofs.faults.all_faults.Goals as goal
use Rattle.ddr_explain.proofs.faults.all_faults.Goals.{then-is_some+in_ok-push, else-is_some}

pub returns : goal.returns
returns c =
    let entries = c.args.entries.now in
    let so_far = c.in_ok-faults.ensures in
    elim c.if-is_some.branch [
      | then-is_some+in_ok-push w ↦
          rw w.faults-is (w.in_ok-push.ensures.items ∙ ap (λ fs. fs ++ fault_at (length entries) rule.RefLate ∷ []) so_far
          ∙ sym (all_of c.args.config.now c.args.start c.args.end entries true (sym c.evidence_at_end.ensures.broken ∙ sym c.is_some.ensures ∙ w.if-is_some.true)))
      | else-is_some w ↦
          rw w.faults-is (so_far ∙ sym (append-nil _) ∙ sym (all_of c.args.config.now c.args.start c.args.end entries false (sym c.evidence_at_end.ensures.broken ∙ sym c.is_some.ensures ∙ w.if-is_some.false)))
    ]
