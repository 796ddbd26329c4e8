use Rattle.std.proofs.Common.{◌++◌, sym, ap, ◌∙◌}
use Rattle.std.proofs.lemmas.List.{length-map}
use Rattle.ddr_workers.specs.Sides.{PutSide}
use Rattle.ddr_workers.proofs.JoinLemmas.{gives_back_to}
use Rattle.ddr_workers.proofs.SideLemmas.{slice_get-here}
use Rattle.ddr_workers.proofs.lane.joining.give_back.Goals as goal

pub absorb-requires-clause-queue : goal.absorb-requires-clause-queue
absorb-requires-clause-queue g c =
    let here = slice_get-here c.loop-put.yielded c.in-Some.put _ _ (ap (λ l. c.loop-put.yielded ++ l) (sym c.in-Some.ensures.steps.0) ∙ c.loop-put.invariant.items) in
    let this = c.requires.puts _ _ here in
    (c.loop-put.invariant.queue, (ap (λ (s : PutSide _ _). s.who.queue.table) c.put.view_is ∙ this.0 ∙ sym c.loop-put.invariant.table ∙ c.loop-put.invariant.queue.0, c.put.invariant.0.1))

pub absorb-requires-clause-rule : goal.absorb-requires-clause-rule
absorb-requires-clause-rule g c =
    let here = slice_get-here c.loop-put.yielded c.in-Some.put _ _ (ap (λ l. c.loop-put.yielded ++ l) (sym c.in-Some.ensures.steps.0) ∙ c.loop-put.invariant.items) in
    let this = c.requires.puts _ _ here in
    gives_back_to g.K.Carries.source g.K.Carries.proper _ _ _ _ _ _ _ c.requires.at_work c.loop-put.invariant.knows c.put.invariant.1
    (ap (λ (s : PutSide _ _). s.who.source) c.put.view_is ∙ this.1 ∙ sym (length-map c.loop-put.yielded (λ (s : PutSide _ _). s.put)))
