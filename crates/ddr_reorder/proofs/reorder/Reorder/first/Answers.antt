use Rattle.ddr_reorder.proofs.Wholes.{first_next}
use Rattle.ddr_reorder.proofs.reorder.Reorder.first.Goals as goal

pub returns : goal.returns
returns c = rw c.len.ensures.len (rw (← c.self.view_is) (first_next c.self.inside c.self.invariant))
