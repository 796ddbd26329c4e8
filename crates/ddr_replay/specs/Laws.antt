-- What holds of the core's commands.
use Rattle.std.specs.Prelude.{◌≡◌, ◌≤◌, ℕ, Some, slice_get}
use Rattle.ddr_timing.specs.declared.units.TheConstants.{CLOCK_STOP}
use Rattle.ddr_trace.specs.Legality.{IsLegal}
use Rattle.ddr_world.specs.Kept.{Kept, KeptSide}

-- the commands of the channel of this number, if it is there, are legal, and its clock has not passed its end
abbrev pub IsLegalAt : Kept → ℕ → Type 0
IsLegalAt k c = (side : KeptSide) → slice_get k.channels c ≡ Some side
    → IsLegal k.config side.channel.start side.channel.now side.channel.trace × (side.channel.now ≤ CLOCK_STOP)
