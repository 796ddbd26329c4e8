use Rattle.std.proofs.Common.{sym}
use Rattle.ddr_row_array.proofs.Blocks.{length_filled}
use Rattle.ddr_row_array.proofs.arena.Arena.len.Goals as goal

pub returns : goal.returns
returns g c =
    rw (← c.self.view_is) (sym (length_filled c.self.inside.len c.self.inside.blocks.items c.self.invariant.filled))
