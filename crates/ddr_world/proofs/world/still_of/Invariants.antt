use Rattle.std.proofs.Common.{ℕ, ◌<◌, get_or}
use Rattle.ddr_world.specs.Kept.{KeptSide, side_of}
use Rattle.ddr_world.specs.Quiet.{IsQuietSide}
use Rattle.ddr_world.proofs.world.still_of.Given as goal

abbrev pub invariant-loop-side : goal.invariant-loop-side
invariant-loop-side l = (k : ℕ) (d : KeptSide) → k < l.side-index → IsQuietSide l.least (side_of (get_or l.channels k d))
