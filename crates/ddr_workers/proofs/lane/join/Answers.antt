use Rattle.ddr_workers.proofs.StepLemmas.{is_left_at}
use Rattle.ddr_workers.proofs.lane.join.Goals as goal

pub returns : goal.returns
returns g c = is_left_at g.K.Carries.source g.K.Carries.proper _ _ _ _ _ _ c.requires c.take.view_is c.take.invariant.knows c.give_back.ensures.back c.take_left.ensures
