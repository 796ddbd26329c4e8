use Rattle.std.proofs.Common.{rules, ◌≡◌, ◌++◌, ◌∷◌, [], Some, slice_get, sym, ◌∙◌, subst}
use Rattle.std.proofs.lemmas.List.{map-append}
use Rattle.ddr_workers.specs.Ended.{IsWorkerEnded}
use Rattle.ddr_workers.specs.Worker.{WorkerEnded}
use Rattle.ddr_workers.proofs.GatherLemmas.{all_came, comes_next, next_added, room_for_next, side_for_each}
use Rattle.ddr_workers.proofs.SideLemmas.{each_pushed}
use Rattle.ddr_workers.proofs.closing.gather_workers.Goals as goal

pub add-requires-clause-room : goal.add-requires-clause-room
add-requires-clause-room c =
    room_for_next (λ (w : WorkerEnded). w.completions) (λ (w : WorkerEnded). w.requests) c.args.sides c.loop-end.sides (comes_next c.loop-end.yielded c.in-Some.ensures.steps.0 c.loop-end.invariant.items) c.loop-end.invariant.sides c.requires.sides

pub add-requires-clause-each : goal.add-requires-clause-each
add-requires-clause-each c =
    side_for_each (λ (w : WorkerEnded). w.completions) (λ (w : WorkerEnded). w.requests) c.args.sides c.loop-end.sides (comes_next c.loop-end.yielded c.in-Some.ensures.steps.0 c.loop-end.invariant.items) c.loop-end.invariant.sides
    c.into_parts-completions.result.0.items c.into_parts-completions.ensures.completions c.requires.each

pub loop-end-preserved : goal.loop-end-preserved
loop-end-preserved c = record {
  can_next = search rules;
  is_finite = search rules;
  items = (comes_next c.loop-end.yielded c.in-Some.ensures.steps.0 c.loop-end.invariant.items).behind;
  len = search rules;
  sides = next_added (λ (w : WorkerEnded). w.completions) (λ (w : WorkerEnded). w.requests) c.args.sides c.loop-end.sides (comes_next c.loop-end.yielded c.in-Some.ensures.steps.0 c.loop-end.invariant.items) c.loop-end.invariant.sides
      c.add.new.self c.into_parts-completions.result.0.items c.into_parts-completions.result.1 c.into_parts-completions.ensures.completions c.into_parts-completions.ensures.requests c.add.ensures;
  traces = c.push_reserved.ensures.items ∙ (λ i. c.loop-end.invariant.traces i ++ c.into_parts-completions.ensures.kept i ∷ []) ∙ sym (map-append (λ (w : WorkerEnded). w.kept) c.loop-end.yielded (c.in-Some.end ∷ []));
  faults = c.push_reserved-in-loop-end.ensures.items ∙ (λ i. c.loop-end.invariant.faults i ++ c.into_parts-completions.ensures.fault i ∷ []) ∙ sym (map-append (λ (w : WorkerEnded). w.fault) c.loop-end.yielded (c.in-Some.end ∷ []));
  room = search rules;
  fault_room = search rules;
  ended = each_pushed (λ k w. IsWorkerEnded w) c.loop-end.yielded c.in-Some.end c.loop-end.invariant.ended c.into_parts-completions.ensures.ended;
}

pub returns-clause-ended : goal.returns-clause-ended
returns-clause-ended c = λ k w there. let all = all_came c.loop-end.yielded _ c.args.ends.items _ c.loop-end.invariant.items c.loop-end.invariant.len c.in-None.ensures.steps.0 in c.loop-end.invariant.ended k w (subst (λ xs. slice_get xs k ≡ Some w) all there)
