use Rattle.ddr_address_map.specs.declared.request.Kind.TheVariants.{Write}
use Rattle.ddr_hazards.proofs.pending.Pending.writes.Goals as goal

pub returns : goal.returns
returns c = rw (← c.self.view_is) (c.self.invariant.counted Write)
