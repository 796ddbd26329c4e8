use Rattle.std.proofs.Common.{arith}
use Rattle.ddr_address_map.proofs.MapLemmas.{capacity-bound}
use Rattle.ddr_stream.proofs.capacity.capacity.Goals as goal

pub overflow_mul-lines-2 : goal.overflow_mul-lines-2
overflow_mul-lines-2 c = omega (arith, capacity-bound c.args.geometry.now)

pub overflow_mul-result : goal.overflow_mul-result
overflow_mul-result c = omega (arith, capacity-bound c.args.geometry.now, c.from.ensures)
