-- What contracts see of a replay.
use Rattle.std.specs.Prelude.{◌≡◌, ℕ, ◌+◌, Bool, true, false, List, ◌++◌, Option, Some, None, Result, Err}
use Rattle.ddr_timing.specs.declared.config.Config.{Config}
use Rattle.ddr_counting.specs.Noting.{AreNoted}
use Rattle.ddr_world.specs.Kept.{Kept, state_of}
use Rattle.ddr_world.specs.Served.{front_service}
use Rattle.ddr_world.specs.State.{State}
use Rattle.ddr_reorder.specs.declared.reply.Service.{Service}
use Rattle.ddr_text.specs.declared.fault.Fault.{Fault}
use Rattle.ddr_text.specs.declared.fault.Fault.TheVariants as faults
use Rattle.ddr_replay.specs.declared.order.Asking.{Asking}
use Rattle.ddr_replay.specs.declared.replaying.Replaying.TheInside.{Inside}
use Rattle.ddr_ledger.specs.Ledgers.{Ledger}
use Rattle.ddr_rounds.specs.Rounds.{outstanding}
use Rattle.ddr_replay.specs.Runs.{Run, released_by}
use Rattle.ddr_replay.specs.Stuck.{IsStuckIn}
use Rattle.ddr_replay.specs.Told.{IsKept, channel_of, commands_of, said, wanted_of}
use Rattle.ddr_replay.specs.declared.wanted.Wanted.{Wanted}
use Rattle.ddr_stream.specs.Stream.{Queues}
use Rattle.ddr_stream.specs.Waiting.{IsSized, Waiting}

pub record Replay : Type 0 where
  pub config : Config
  pub asking : Asking
  pub world : Kept
  pub stream : Waiting
  pub ledger : Ledger
  -- how many rounds were made
  pub round : ℕ
  -- what is to be told of it, and what of that is to be written next
  pub wanted : Wanted
  pub text : List ℕ

abbrev pub replay_of : Inside → Replay
replay_of a = record { config = a.config; asking = a.asking; world = a.world; stream = a.stream; ledger = a.books.ledger; round = a.round; wanted = wanted_of a.teller.tale; text = a.teller.text.items }

-- a run that a replay has come to, where these requests are left to be submitted
abbrev pub whole_run : Replay → Queues → Run
whole_run r queues = record { asking = r.asking; state = state_of r.world; queues = queues; ledger = r.ledger; round = r.round }

-- as far as its requests were read
abbrev pub run_of : Replay → Run
run_of r = whole_run r r.stream.queues

pub record IsWhole (a : Inside) : Type 0 where
  pub config : a.world.config ≡ a.config
  -- no channel keeps its trace, whatever is to be told
  pub unkept : a.world.keeps ≡ false
  pub stream : a.stream.config ≡ a.config
  pub sized : IsSized a.stream
  -- what was taken and not released is outstanding
  pub counted : a.released + outstanding (state_of a.world) ≡ a.stream.taken
  -- the statistics are those of all commands
  pub noted : AreNoted a.config (state_of a.world) a.books.noting
  -- the commands of one channel are looked at, where they are asked for
  pub watched : a.books.watched ≡ channel_of (wanted_of a.teller.tale)
  -- what is told at the end is kept of each request whose reply was released
  pub kept : IsKept a.teller.tale a.books.ledger.served

-- all that was told so far of a replay: what was written before, and what is to be written next
abbrev pub told_so_far : Replay → List ℕ
told_so_far r = said r.wanted r.ledger.served (commands_of r.wanted (state_of r.world))

abbrev pub IsTold : List ℕ → Replay → Type 0
IsTold earlier r = told_so_far r ≡ earlier ++ r.text

-- so it stays
abbrev pub Tells : Replay → Replay → Type 0
Tells old new = (earlier : List ℕ) → IsTold earlier old → IsTold earlier new

-- all but the core is as it was
pub record IsSame (old new : Replay) : Type 0 where
  pub config : new.config ≡ old.config
  pub asking : new.asking ≡ old.asking
  pub stream : new.stream ≡ old.stream
  pub ledger : new.ledger ≡ old.ledger
  pub round : new.round ≡ old.round
  pub wanted : new.wanted ≡ old.wanted
  pub text : new.text ≡ old.text

-- all but the core, the ledger and what is to be written is as it was
pub record IsButBooks (old new : Replay) : Type 0 where
  pub config : new.config ≡ old.config
  pub asking : new.asking ≡ old.asking
  pub stream : new.stream ≡ old.stream
  pub round : new.round ≡ old.round
  pub wanted : new.wanted ≡ old.wanted

-- before the same round it is one of the same configuration, of which the same is to be told
pub record IsBeforeSame (old new : Replay) : Type 0 where
  pub config : new.config ≡ old.config
  pub wanted : new.wanted ≡ old.wanted
  pub round : new.round ≡ old.round

-- all but the ledger is as it was
pub record IsButLedger (old new : Replay) : Type 0 where
  pub config : new.config ≡ old.config
  pub asking : new.asking ≡ old.asking
  pub world : new.world ≡ old.world
  pub stream : new.stream ≡ old.stream
  pub round : new.round ≡ old.round
  pub wanted : new.wanted ≡ old.wanted
  pub text : new.text ≡ old.text
  pub served : new.ledger.served ≡ old.ledger.served

-- the reply in front of the port was released, if there was one
abbrev pub IsFrontReleased : ℕ → Run → Run → Bool → Type 0
IsFrontReleased p old new true = (v : Service) × (front_service old.state p ≡ Some v) × (new ≡ released_by p old v)
IsFrontReleased p old new false = (front_service old.state p ≡ None) × (new ≡ old)

-- a part of a round ends by a fault where there is none to be made, or for want of memory
abbrev pub IsCycleFault : Fault → Option State → Type 0
IsCycleFault faults.ClockSpent part = part ≡ None
IsCycleFault faults.OutOfMemory part = Unit {0}
IsCycleFault _ part = ⊥

-- a fault ends the run as said, unless memory ran out, or where it can go on no more
abbrev pub IsRunFault : Config → Fault → Result Run Fault → Type 0
IsRunFault config faults.ReplayLimit said = said ≡ Err faults.ReplayLimit
IsRunFault config faults.ClockSpent said = said ≡ Err faults.ClockSpent
IsRunFault config (faults.ReplayStuck cycle) said = IsStuckIn config said cycle
IsRunFault config faults.OutOfMemory said = Unit {0}
IsRunFault config _ said = ⊥
