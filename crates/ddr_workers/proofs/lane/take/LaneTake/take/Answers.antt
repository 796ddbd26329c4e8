use Rattle.ddr_workers.proofs.LawLemmas.{pops_at, learns_take_at, counts_empty_at}
use Rattle.ddr_workers.proofs.StepLemmas.{was_empty_at, is_next_at}
use Rattle.ddr_workers.proofs.lane.take.LaneTake.take.Goals as goal

pub pop_as-requires-clause-rule : goal.pop_as-requires-clause-rule
pop_as-requires-clause-rule g c = let k = g.K.Carries in (pops_at k.source k.proper _ _ _ c.self.invariant.knows, learns_take_at k.source k.proper _ _ _ c.self.invariant.knows)

pub another-spent-requires-clause-rule : goal.another-spent-requires-clause-rule
another-spent-requires-clause-rule g c = let k = g.K.Carries in counts_empty_at k.source k.proper _ _ _ _ c.self.invariant.knows c.in-None.ensures.rule.0

pub returns-in-Some-clause-next : goal.returns-in-Some-clause-next
returns-in-Some-clause-next g c = let k = g.K.Carries in is_next_at k.source k.proper _ _ _ _ c.self.invariant.knows c.self.view_is c.in-Some.ensures.rule.1

pub returns-in-None-clause-empty : goal.returns-in-None-clause-empty
returns-in-None-clause-empty g c = let k = g.K.Carries in was_empty_at k.source k.proper _ _ _ c.self.invariant.knows c.self.view_is c.in-None.ensures.rule.1
