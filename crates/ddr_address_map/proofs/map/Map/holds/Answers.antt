-- The capacity that is kept is that of the memory's shape.
use Rattle.std.proofs.Common.{nat_lt, ap, ◌∙◌}
use Rattle.ddr_address_map.proofs.MapLemmas.{below-place}
use Rattle.ddr_address_map.proofs.map.Map.holds.Goals as goal

pub returns : goal.returns
returns c = ap (λ n. nat_lt c.args.addr n) c.args.self.now.capacity_is ∙ below-place c.args.self.now.geometry c.args.addr
