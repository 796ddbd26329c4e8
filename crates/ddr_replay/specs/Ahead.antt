-- What becomes of all requests that are left of a stream, also of those that were not read.
use Rattle.std.specs.Prelude.{◌≡◌, ◌<◌, ◌≤◌, ◌+◌, ◌⊎◌, ℕ, Bool, true, false, List, ◌++◌, slice_set, Option, Some, None, IfOk, IfSome, Result, Ok, Err}
use Rattle.std.specs.Io.KnownBytes.{Appends}
use Rattle.ddr_timing.specs.declared.config.Config.{Config}
use Rattle.ddr_text.specs.declared.fault.Fault.{Fault}
use Rattle.ddr_text.specs.declared.fault.Fault.TheVariants as faults
use Rattle.ddr_world.specs.State.{State}
use Rattle.ddr_stream.specs.declared.ask.Ask.{Ask}
use Rattle.ddr_stream.specs.Stream.{queue_at}
use Rattle.ddr_stream.specs.Waiting.{All, IsSaidFault}
use Rattle.ddr_ledger.specs.Ledgers.{Ledger}
use Rattle.ddr_replay.specs.Runs.{Run, all_submitted, ports_submitted, replayed, submitted, turns}
use Rattle.ddr_replay.specs.Told.{commands_of, said}
use Rattle.ddr_replay.specs.View.{IsRunFault, IsTold, Replay, whole_run}
use Rattle.ddr_replay.specs.Waits.{AreWaiting, IsWaiting, IsWaitingIn}

-- where all requests are known, so are those that are left of them, and they keep to this; a fault of the lines stays
abbrev pub Carries : (All → All → Type 0) → Option (Result All Fault) → Option (Result All Fault) → Type 0
Carries keep None new = Unit {0}
Carries keep (Some (Err fault)) new = new ≡ Some (Err fault)
Carries keep (Some (Ok all)) new = (next : All) × (new ≡ Some (Ok next)) × keep all next

-- what all requests lead to by this
pub record Leads (by : Run → Run) (old new : Replay) (all next : All) : Type 0 where
  pub requests : next.requests ≡ all.requests
  pub run : by (whole_run old all.queues) ≡ whole_run new next.queues

-- a port submits its next requests of all that are left, the core and the ledger come to these, and it waits until this cycle
pub record IsSubmitted (port round until : ℕ) (before : State) (old : Ledger) (after : State) (new : Ledger) (all next : All) : Type 0 where
  pub requests : next.requests ≡ all.requests
  pub rest : List Ask
  pub queues : next.queues ≡ slice_set all.queues port rest
  pub submitted : submitted port round (queue_at all.queues port) before old ≡ record { state = after; ledger = new; rest = rest }
  pub waits : IsWaiting port until round rest after

-- so many ports from this one on submitted, and wait until this cycle; the others wait on as they did
pub record AreSubmitted (first count until : ℕ) (old new : Replay) (all next : All) : Type 0 where
  pub leads : Leads (ports_submitted first count) old new all next
  pub waits : (p : ℕ) → first ≤ p → p < first + count → IsWaitingIn p until (whole_run new next.queues)
  pub others : (p less : ℕ) → (p < first) ⊎ (first + count ≤ p) → IsWaitingIn p less (whole_run old all.queues) → IsWaitingIn p less (whole_run new next.queues)

-- all of them did
pub record AreAllSubmitted (config : Config) (until : ℕ) (old new : Replay) (all next : All) : Type 0 where
  pub leads : Leads (all_submitted config) old new all next
  pub waits : AreWaiting config.limits.ports until (whole_run new next.queues)

-- what they lead to in so many rounds is what the rest does in so many
pub record LeadsAlike (config : Config) (left behind : ℕ) (old new : Replay) (all next : All) : Type 0 where
  pub requests : next.requests ≡ all.requests
  pub run : replayed config left (whole_run old all.queues) ≡ replayed config behind (whole_run new next.queues)
  -- by so many turns
  pub many : ℕ
  pub turns : turns config many (whole_run old all.queues) ≡ Some (whole_run new next.queues)

-- all requests are known, and the run that they come to ends by this fault
abbrev pub IsCutOff : Config → ℕ → Replay → Fault → All → Type 0
IsCutOff config left old fault all = IsRunFault config fault (replayed config left (whole_run old all.queues))

-- a fault is one of the run
abbrev pub is_of_run : Fault → Bool
is_of_run faults.ReplayLimit = true
is_of_run (faults.ReplayStuck cycle) = true
is_of_run faults.ClockSpent = true
is_of_run _ = false

-- A fault by which the rounds end: one of the lines is the first of theirs, though those behind it were not read; one of the run is its
-- own, where no line that is left is at fault. Reading, writing and memory fail by themselves.
abbrev pub IsStopped : Config → ℕ → Replay → Fault → Option (Result All Fault) → Option (Result All Fault) → Type 0
IsStopped config left old (faults.ReplayLine line cause) all next = IsSaidFault (faults.ReplayLine line cause) all
IsStopped config left old (faults.ReplayRange line) all next = IsSaidFault (faults.ReplayRange line) all
IsStopped config left old faults.InputTooLong all next = IsSaidFault faults.InputTooLong all
IsStopped config left old faults.Read all next = Unit {0}
IsStopped config left old faults.Write all next = Unit {0}
IsStopped config left old faults.OutOfMemory all next = Unit {0}
IsStopped config left old fault all next = Carries (λ before after. IsCutOff config left old fault before) all next

-- so it is, and no line is at fault where the run is
abbrev pub IsEnded : Config → ℕ → Replay → Fault → Option (Result All Fault) → Type 0
IsEnded config left old (faults.ReplayLine line cause) all = IsSaidFault (faults.ReplayLine line cause) all
IsEnded config left old (faults.ReplayRange line) all = IsSaidFault (faults.ReplayRange line) all
IsEnded config left old faults.InputTooLong all = IsSaidFault faults.InputTooLong all
IsEnded config left old faults.Read all = Unit {0}
IsEnded config left old faults.Write all = Unit {0}
IsEnded config left old faults.OutOfMemory all = Unit {0}
IsEnded config left old fault all = IfSome all (λ said. (before : All) × (said ≡ Ok before) × IsCutOff config left old fault before)

-- the run came to its end, with these requests
pub record IsOver (config : Config) (left : ℕ) (old new : Replay) (all : All) : Type 0 where
  pub requests : all.requests ≡ new.stream.asked
  pub run : replayed config left (whole_run old all.queues) ≡ Ok (whole_run new new.stream.queues)
  -- by so many turns
  pub many : ℕ
  pub turns : turns config many (whole_run old all.queues) ≡ Some (whole_run new new.stream.queues)

-- a fault by which a turn ends
abbrev pub IsTurnFault : Fault → Type 0
IsTurnFault (faults.ReplayLine line cause) = Unit {0}
IsTurnFault (faults.ReplayRange line) = Unit {0}
IsTurnFault faults.InputTooLong = Unit {0}
IsTurnFault faults.Read = Unit {0}
IsTurnFault faults.OutOfMemory = Unit {0}
IsTurnFault faults.ReplayLimit = Unit {0}
IsTurnFault faults.ClockSpent = Unit {0}
IsTurnFault _ = ⊥

-- a fault by which a replay ends: one of a turn, that it can go on no more, or one of writing
abbrev pub IsReplayFault : Fault → Type 0
IsReplayFault (faults.ReplayLine line cause) = Unit {0}
IsReplayFault (faults.ReplayRange line) = Unit {0}
IsReplayFault faults.InputTooLong = Unit {0}
IsReplayFault faults.Read = Unit {0}
IsReplayFault faults.Write = Unit {0}
IsReplayFault faults.OutOfMemory = Unit {0}
IsReplayFault faults.ReplayLimit = Unit {0}
IsReplayFault (faults.ReplayStuck cycle) = Unit {0}
IsReplayFault faults.ClockSpent = Unit {0}
IsReplayFault _ = ⊥

-- ---- what was told

-- this is the beginning of what is told of a run that all requests come to by so many turns
pub record IsBeginning (config : Config) (old : Replay) (text : List ℕ) (all : All) : Type 0 where
  pub many : ℕ
  pub run : Run
  pub turns : turns config many (whole_run old all.queues) ≡ Some run
  pub rest : List ℕ
  pub said : said old.wanted run.ledger.served (commands_of old.wanted run.state) ≡ text ++ rest

-- What was written where a replay ended by a fault: where no line is at fault, the beginning of what is told of its run. Where writing failed it
-- is not known.
abbrev pub IsCutShort : Config → Replay → Fault → Option (List ℕ) → Option (List ℕ) → Option (Result All Fault) → Type 0
IsCutShort config old fault before after all = (fault ≡ faults.Write) ⊎ ((text : List ℕ) × Appends before after text × IfSome all (λ known. IfOk known (IsBeginning config old text)))

-- what was written at its end, and what is to be written next, are all that was told
abbrev pub HasTold : Replay → Option (List ℕ) → Option (List ℕ) → Type 0
HasTold r before after = (earlier : List ℕ) × Appends before after earlier × IsTold earlier r
