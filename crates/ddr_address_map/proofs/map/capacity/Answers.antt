-- The largest memory has 2^37 bytes.
use Rattle.std.proofs.Common.{arith}
use Rattle.ddr_address_map.proofs.MapLemmas.{capacity-bound, capacity-factors}
use Rattle.ddr_address_map.proofs.map.capacity.Goals as goal

pub overflow_mul-result : goal.overflow_mul-result
overflow_mul-result c =
    let factors = capacity-factors c.args.shape.now _ _ _ _ _ _ c.from.ensures c.from-2.ensures c.from-3.ensures c.from-4.ensures c.from-5.ensures c.from-6.ensures in
    omega (arith, capacity-bound c.args.shape.now, factors)
