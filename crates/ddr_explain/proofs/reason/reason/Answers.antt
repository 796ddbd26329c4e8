-- The entry at the place, or the trace's end behind the last one.
use Rattle.std.proofs.Common.{◌≡◌, ◌<◌, ◌≤◌, List, length, ap, subst, ◌∙◌}
use Rattle.ddr_trace.specs.declared.command.Entry.{Entry}
use Rattle.ddr_trace.specs.Traces.{Recorded}
use Rattle.ddr_explain.proofs.ReasonLemmas.{breaks_behind, breaks_there}
use Rattle.ddr_explain.proofs.reason.reason.Goals as goal

pub entry_reason-requires : goal.entry_reason-requires
entry_reason-requires c =
    let start : c.trace.inside.start ≡ c.args.trace.now.start = ap (λ (t : Recorded). t.start) c.trace.view_is in
    let end : c.trace.inside.end ≡ c.args.trace.now.end = ap (λ (t : Recorded). t.end) c.trace.view_is in
    let same : c.as_slice-entries.result.now ≡ c.args.trace.now.entries = c.as_slice-entries.ensures.value ∙ ap (λ (t : Recorded). t.entries) c.trace.view_is in
    let within = subst (λ (es : List Entry). c.args.fault.place < length es) same c.if-fault-entries.true in
    rw (start, end, same) (breaks_there c.args.config.now c.args.trace.now.start c.args.trace.now.end c.args.trace.now.entries c.args.fault.place _ c.args.fault.rule within c.requires)

pub end_reason-requires : goal.end_reason-requires
end_reason-requires c =
    let start : c.trace.inside.start ≡ c.args.trace.now.start = ap (λ (t : Recorded). t.start) c.trace.view_is in
    let end : c.trace.inside.end ≡ c.args.trace.now.end = ap (λ (t : Recorded). t.end) c.trace.view_is in
    let same : c.as_slice-entries.result.now ≡ c.args.trace.now.entries = c.as_slice-entries.ensures.value ∙ ap (λ (t : Recorded). t.entries) c.trace.view_is in
    let past = subst (λ (es : List Entry). length es ≤ c.args.fault.place) same c.if-fault-entries.false in
    rw (start, end, same) (breaks_behind c.args.config.now c.args.trace.now.start c.args.trace.now.end c.args.trace.now.entries c.args.fault.place c.args.fault.rule past c.requires)
