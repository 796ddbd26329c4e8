use Rattle.ddr_workers.proofs.StepLemmas.{sets_at}
use Rattle.ddr_workers.proofs.lane.steps.set_purpose.Goals as goal

pub another-spent-requires-clause-rule : goal.another-spent-requires-clause-rule
another-spent-requires-clause-rule g c = sets_at g.K.Carries.source g.K.Carries.proper _ _ _ _ _ _ c.requires.nothing c.requires.fresh c.requires.purpose c.requires.sides
