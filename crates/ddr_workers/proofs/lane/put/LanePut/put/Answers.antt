use Rattle.std.proofs.Common.{ap}
use Rattle.ddr_workers.proofs.LawLemmas.{learns_put_at, counts_full_at}
use Rattle.ddr_workers.proofs.StepLemmas.{pushes_at, was_full_at}
use Rattle.ddr_workers.proofs.lane.put.LanePut.put.Goals as goal

pub push_as-requires-clause-rule : goal.push_as-requires-clause-rule
push_as-requires-clause-rule g c = let k = g.K.Carries in
    (pushes_at k.source k.proper _ _ _ _ _ _ c.self.invariant.1 c.self.view_is c.requires.own c.requires.proper, learns_put_at k.source k.proper _ _ _ c.self.invariant.1)

pub another-spent-requires-clause-rule : goal.another-spent-requires-clause-rule
another-spent-requires-clause-rule g c = let k = g.K.Carries in counts_full_at k.source k.proper _ _ _ _ c.self.invariant.1 c.in-Err.ensures.rule.1

pub returns-in-Err-clause-full : goal.returns-in-Err-clause-full
returns-in-Err-clause-full g c = let k = g.K.Carries in was_full_at k.source k.proper _ _ _ _ c.self.invariant.1 c.self.view_is (ap (λ l. l.queue.cap) c.deref.ensures) c.in-Err.ensures.rule.2
