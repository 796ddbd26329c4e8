use Rattle.std.proofs.Common.{rules, ◌≡◌, ◌++◌, ◌∷◌, [], Some, slice_get, sym, ◌∙◌, subst}
use Rattle.std.proofs.lemmas.List.{map-append}
use Rattle.ddr_workers.specs.Ended.{IsEnded}
use Rattle.ddr_workers.specs.Port.{PortEnded}
use Rattle.ddr_workers.proofs.GatherLemmas.{all_came, comes_next, next_added, room_for_next, side_for_each}
use Rattle.ddr_workers.proofs.SideLemmas.{each_pushed}
use Rattle.ddr_workers.proofs.closing.gather_ports.Goals as goal

pub add-requires-clause-room : goal.add-requires-clause-room
add-requires-clause-room c =
    room_for_next (λ (e : PortEnded). e.requests) (λ (e : PortEnded). e.completions) c.args.sides c.loop-end.sides (comes_next c.loop-end.yielded c.in-Some.ensures.steps.0 c.loop-end.invariant.items) c.loop-end.invariant.sides c.requires.sides

pub add-requires-clause-each : goal.add-requires-clause-each
add-requires-clause-each c =
    side_for_each (λ (e : PortEnded). e.requests) (λ (e : PortEnded). e.completions) c.args.sides c.loop-end.sides (comes_next c.loop-end.yielded c.in-Some.ensures.steps.0 c.loop-end.invariant.items) c.loop-end.invariant.sides
    c.into_parts-requests.result.0.items c.into_parts-requests.ensures.requests c.requires.each

pub loop-end-preserved : goal.loop-end-preserved
loop-end-preserved c = record {
  can_next = search rules;
  is_finite = search rules;
  items = (comes_next c.loop-end.yielded c.in-Some.ensures.steps.0 c.loop-end.invariant.items).behind;
  len = search rules;
  sides = next_added (λ (e : PortEnded). e.requests) (λ (e : PortEnded). e.completions) c.args.sides c.loop-end.sides (comes_next c.loop-end.yielded c.in-Some.ensures.steps.0 c.loop-end.invariant.items) c.loop-end.invariant.sides
      c.add.new.self c.into_parts-requests.result.0.items c.into_parts-requests.result.1 c.into_parts-requests.ensures.requests c.into_parts-requests.ensures.completions c.add.ensures;
  counts = c.push_reserved.ensures.items ∙ (λ i. c.loop-end.invariant.counts i ++ c.into_parts-requests.ensures.taken i ∷ []) ∙ sym (map-append (λ (e : PortEnded). e.taken) c.loop-end.yielded (c.in-Some.end ∷ []));
  room = search rules;
  ended = each_pushed (λ k e. IsEnded e) c.loop-end.yielded c.in-Some.end c.loop-end.invariant.ended c.into_parts-requests.ensures.ended;
}

pub returns-clause-ended : goal.returns-clause-ended
returns-clause-ended c = λ k e there. let all = all_came c.loop-end.yielded _ c.args.ends.items _ c.loop-end.invariant.items c.loop-end.invariant.len c.in-None.ensures.steps.0 in c.loop-end.invariant.ended k e (subst (λ xs. slice_get xs k ≡ Some e) all there)
