-- What the core tells: of a cycle what its channel issued, and of a port what it has done.
use Rattle.std.specs.Prelude.{◌≡◌, ℕ, Option, Some, Result, Ok, Err, slice_get}
use Rattle.ddr_channel.specs.declared.issued.Issued.{Issued}
use Rattle.ddr_channel.specs.Kept as channel
use Rattle.ddr_channel.specs.Told.{issued_in, with_issued}
use Rattle.ddr_world.specs.declared.event.Outcome.{Outcome}
use Rattle.ddr_world.specs.declared.event.Outcome.TheVariants.{Cycled}
use Rattle.ddr_world.specs.declared.event.Refusal.{Refusal}
use Rattle.ddr_world.specs.declared.world.Counts.{Counts}
use Rattle.ddr_world.specs.Kept.{KeptSide, Kept}
use Rattle.ddr_world.specs.State.{PortSide}

-- what the event came to, without what the channel told
abbrev pub cycle_answer : Result (Option Issued) Refusal → Result Outcome Refusal
cycle_answer (Ok o) = Ok Cycled
cycle_answer (Err cause) = Err cause

-- the channel issues this in its cycle, and it is the new entry of the trace
pub record Tells (before after : channel.Kept) (o : Option Issued) : Type 0 where
  pub exact : o ≡ issued_in (channel.state_of before)
  pub trace : after.trace ≡ with_issued o before.trace

-- the channel of that number does
pub record TellsOf (c : ℕ) (before after : Kept) (o : Option Issued) : Type 0 where
  pub old : KeptSide
  pub new : KeptSide
  pub before_is : slice_get before.channels c ≡ Some old
  pub after_is : slice_get after.channels c ≡ Some new
  pub told : Tells old.channel new.channel o

-- how many requests the port accepted, and how many replies it gave up
abbrev pub counts_of : PortSide → Counts
counts_of side = record { accepted = side.accepted; taken = side.taken }
