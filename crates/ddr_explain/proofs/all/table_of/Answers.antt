-- What is told is broken, and nothing is told exactly of a trace without a fault.
use Rattle.std.proofs.Common.{◌≡◌, true, ◌==◌, length, ap, sym, ◌∙◌}
use Rattle.std.proofs.lemmas.List.Elements.{All-same}
use Rattle.ddr_trace.specs.declared.checker.Fault.{Fault}
use Rattle.ddr_trace.specs.Legality.{breaks_at}
use Rattle.ddr_trace.specs.Traces.{Recorded}
use Rattle.ddr_explain.specs.AllFaults.{told_of}
use Rattle.ddr_explain.proofs.CleanLemmas.{legal_of, told_broken}
use Rattle.ddr_explain.proofs.all.table_of.Goals as goal

pub lines_text-requires : goal.lines_text-requires
lines_text-requires c =
    let told = c.told_of-told.ensures ∙ ap (told_of c.args.most) (c.as_slice.ensures.value ∙ c.in_ok-faults.ensures) in
    All-same (λ (fault : Fault). breaks_at c.args.config.now c.trace.inside.start c.trace.inside.end c.as_slice-entries.result.now fault.place fault.rule ≡ true) _ _ told
    (told_broken c.args.config.now c.trace.inside.start c.trace.inside.end c.as_slice-entries.result.now c.args.most)

pub returns-clause-legal : goal.returns-clause-legal
returns-clause-legal c =
    let start : c.trace.inside.start ≡ c.args.trace.now.start = ap (λ (t : Recorded). t.start) c.trace.view_is in
    let end : c.trace.inside.end ≡ c.args.trace.now.end = ap (λ (t : Recorded). t.end) c.trace.view_is in
    let same : c.as_slice-entries.result.now ≡ c.args.trace.now.entries = c.as_slice-entries.ensures.value ∙ ap (λ (t : Recorded). t.entries) c.trace.view_is in
    legal_of c.args.config.now c.args.trace.now.start c.args.trace.now.end c.args.trace.now.entries c.in_ok-faults.faults.items c.is_empty.result (rw (start, end, same) at c.in_ok-faults.ensures)
    (c.is_empty.ensures ∙ ap (λ n. n == 0) (sym c.as_slice.ensures.len ∙ ap length c.as_slice.ensures.value))
