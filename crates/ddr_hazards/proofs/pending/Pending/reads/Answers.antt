use Rattle.ddr_address_map.specs.declared.request.Kind.TheVariants.{Read}
use Rattle.ddr_hazards.proofs.pending.Pending.reads.Goals as goal

pub returns : goal.returns
returns c = rw (← c.self.view_is) (c.self.invariant.counted Read)
