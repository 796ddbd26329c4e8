use Rattle.std.proofs.Common.{◌≡◌, None, replicate}
use Rattle.ddr_hazards.proofs.slots.empty_cells.Given as goal

abbrev pub invariant-loop-slot : goal.invariant-loop-slot
invariant-loop-slot l = l.cells.items ≡ replicate l._slot None
