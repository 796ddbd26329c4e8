use Rattle.std.proofs.Common.{rules, ◌++◌, ℕ, Bool, List, map, string_bytes, sym, subst, ap, ap₂, ◌∙◌}
use Rattle.std.proofs.lemmas.Bool.{false≢true}
use Rattle.std.proofs.lemmas.Result.{err_from_is_err_and}
use Rattle.ddr_workers.specs.Closing.{IsClosed, Left}
use Rattle.ddr_workers.specs.Port.{PortEnded}
use Rattle.ddr_run.specs.declared.run.TheConstants.{RUN}
use Rattle.ddr_workers.specs.Worker.{WorkerEnded}
use Rattle.ddr_run.specs.Outcome.{AreVerdicts, are_legal, channel_lines}
use Rattle.ddr_text.specs.Script.{view}
use Rattle.ddr_run.proofs.LegalLemmas.{closed_judged, closed_legal}
use Rattle.ddr_run.proofs.OutcomeLemmas.{complete, new_ports}
use Rattle.ddr_run.proofs.run.run_threads.Goals as goal

pub run_all-requires-clause-numbers : goal.run_all-requires-clause-numbers
run_all-requires-clause-numbers g c κs outlives = new_ports c.args.config.now 0 RUN c.in_ok-ports.ports.items c.in_ok-ports.workers.items c.in_ok-ports.ensures.opened

pub close-requires : goal.close-requires
close-requires g c = (complete c.all_ends_of_one_open.ensures c.args.config.now (map view c.args.instructions.now) c.in_ok-ports.ports.items c.in_ok-ports.workers.items c.in_ok-ended.ended c.in_ok-replies.replies.ends.items (search rules) (search rules) c.in_ok-ports.ensures.opened c.in_ok-ended.ensures.ended c.in_ok-replies.ensures.ends).one

pub unreachable-requires : goal.unreachable-requires
unreachable-requires g c =
    let ends = complete c.all_ends_of_one_open.ensures c.args.config.now (map view c.args.instructions.now) c.in_ok-ports.ports.items c.in_ok-ports.workers.items c.in_ok-ended.ended c.in_ok-replies.replies.ends.items (search rules) (search rules) c.in_ok-ports.ensures.opened c.in_ok-ended.ensures.ended c.in_ok-replies.ensures.ends in
    false≢true (sym ends.own ∙ (rw c.in-Err-Foreign.field-0-is at c.in-Err-Foreign.ensures.err).0)

pub unreachable-requires-in-Err-Missing : goal.unreachable-requires-in-Err-Missing
unreachable-requires-in-Err-Missing g c =
    let ends = complete c.all_ends_of_one_open.ensures c.args.config.now (map view c.args.instructions.now) c.in_ok-ports.ports.items c.in_ok-ports.workers.items c.in_ok-ended.ended c.in_ok-replies.replies.ends.items (search rules) (search rules) c.in_ok-ports.ensures.opened c.in_ok-ended.ensures.ended c.in_ok-replies.ensures.ends in
    false≢true (sym ends.whole ∙ (rw c.in-Err-Missing.field-0-is at c.in-Err-Missing.ensures.err).1)

pub returns-clause-ran : goal.returns-clause-ran
returns-clause-ran g c =
    let closed = subst (λ (es : List PortEnded). IsClosed RUN es c.in_ok-ended.ended.workers.items c.in-Ok.closed) c.in_ok-replies.ensures.ends c.in-Ok.ensures.ok in
    let worked = c.in_ok-ended.ended.workers.items in
    let left = c.in-Ok.closed in
    let verdicts = string_bytes c.in_ok-verdicts.verdicts in
    let ports = c.in_ok-ports.ports.items in
    let workers = c.in_ok-ports.workers.items in
    let ends = map (λ h. h.end) c.in_ok-ended.ended.ports.items in
    let faults = c.as_slice.ensures.value ∙ ap (λ (given : Left). given.faults) c.closed.view_is in
    let are_verdicts : AreVerdicts c.args.config.now 0 (map (λ (w : WorkerEnded). w.trace) closed.by_channel) verdicts c.in_ok-verdicts.legal =
    subst (λ (said : List ℕ × Bool). AreVerdicts c.args.config.now 0 (map (λ (w : WorkerEnded). w.trace) closed.by_channel) said.0 said.1)
    (sym (ap₂ (λ (text : List ℕ) (legal : Bool). (text, legal)) (c.in_ok-verdicts.ensures.text ∙ ap (channel_lines 0) faults) (c.in_ok-verdicts.ensures.legal ∙ ap are_legal faults)))
    (closed_judged c.args.config.now ports workers ends worked left c.in_ok-ports.ensures.opened c.in_ok-ended.ensures.ended.worked closed) in
    record {
      ports = c.in_ok-ports.ports.items;
      workers = c.in_ok-ports.workers.items;
      system = c.in_ok-ports.ensures.opened;
      hosted = c.in_ok-ended.ended.ports.items;
      asked = c.in_ok-ended.ensures.ended.hosted;
      worked = worked;
      ended = c.in_ok-ended.ensures.ended.worked;
      left = left;
      is_closed = closed;
      verdicts = verdicts;
      are_verdicts = are_verdicts;
      all_legal = closed_legal c.args.config.now ports workers ends worked left c.in_ok-ports.ensures.opened c.in_ok-ended.ensures.ended.worked closed verdicts c.in_ok-verdicts.legal are_verdicts;
      text_is = c.in_ok-push_str.ensures.bytes ∙ ap₂ ◌++◌ c.in_ok-replies.ensures.text c.as_str.ensures.value;
    }

pub returns-in_err-ended-clause-stopped : goal.returns-in_err-ended-clause-stopped
returns-in_err-ended-clause-stopped g c =
    let p = err_from_is_err_and c.from_residual-in_err-ended.result c.from_residual-in_err-ended.ensures.1 in
    rw (p.1, p.2) (λ not_memory. (c.in_ok-ports.ports.items, c.in_ok-ports.workers.items, c.in_ok-ports.ensures.opened, c.in_err-ended.ensures.stopped not_memory))
