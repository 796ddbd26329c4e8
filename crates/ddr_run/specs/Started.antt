-- What the command `run` writes, and by which faults it ends.
use Rattle.std.specs.Prelude.{◌≡◌, ℕ, Bool, true, false, List, ◌++◌, map, Option, Some, None, Result, Ok, Err}
use Rattle.std.specs.Io.KnownBytes.{Appends}
use Rattle.std.specs.Str.Lines.{lines}
use Rattle.ddr_timing.specs.declared.config.Config.{Config}
use Rattle.ddr_latency.specs.Latency.{leaves_time}
use Rattle.ddr_workers.specs.Closing.{AreMatched, IsClosed, Left}
use Rattle.ddr_workers.specs.Open.{IsOpened as IsSystem}
use Rattle.ddr_workers.specs.Port.{PortState}
use Rattle.ddr_workers.specs.Worker.{WorkerState, WorkerEnded, IsEndOf}
use Rattle.ddr_text.specs.declared.fault.Fault.{Fault}
use Rattle.ddr_text.specs.declared.fault.Fault.TheVariants as faults
use Rattle.ddr_run.specs.declared.flag.Stop.{Stop}
use Rattle.ddr_run.specs.declared.flag.Stop.TheVariants as stops
use Rattle.ddr_run.specs.declared.hosting.Hosted.{Hosted}
use Rattle.ddr_run.specs.declared.run.TheConstants.{RUN}
use Rattle.ddr_text.specs.Body.{HasInputFault, HasParts, parts_of}
use Rattle.ddr_text.specs.Input.{IsText}
use Rattle.ddr_text.specs.Instructions.{form_of, instructions_of}
use Rattle.ddr_run.specs.Outcome.{AreVerdicts, texts_of}
use Rattle.ddr_text.specs.Requests.{first_fault}
use Rattle.ddr_text.specs.Script.{Instruction}
use Rattle.ddr_run.specs.Threads.{HasStopped, IsHostedFrom}

-- why a run ends where a thread stopped
abbrev pub stop_fault : Stop → Fault
stop_fault stops.Told = faults.PortBroken
stop_fault stops.OutOfMemory = faults.OutOfMemory
stop_fault stops.ClockSpent = faults.ClockSpent
stop_fault stops.PortBroken = faults.PortBroken
stop_fault stops.ThreadsRefused = faults.ThreadsRefused

-- a thread that stopped before it served its seat: it was told to, or others didn't come
abbrev pub comes_from_start : Stop → Bool
comes_from_start stops.Told = true
comes_from_start stops.ThreadsRefused = true
comes_from_start stop = false

-- what an input says: its configuration, and its script's instructions, none of which makes rounds, or the script's first fault
pub record SaysRequests (sample : Bool) (profile : List ℕ) (input : List ℕ) (config : Config) (said : Result (List Instruction) Fault) : Type 0 where
  pub text : IsText input
  pub body : List ℕ
  pub opened : HasParts (parts_of sample profile input) config body
  pub script : instructions_of (form_of config false) body ≡ said

-- the script is at fault by a line alone
abbrev pub IsNoRequests : Bool → List ℕ → List ℕ → Fault → Type 0
IsNoRequests sample profile input fault = (config : Config) × SaysRequests sample profile input config (Err fault)

-- the input says these instructions, and the first request that no port takes, if there is one, is at this fault
pub record AreChecked (sample : Bool) (profile : List ℕ) (input : List ℕ) (config : Config) (instructions : List Instruction) (fault : Option Fault) : Type 0 where
  pub says : SaysRequests sample profile input config (Ok instructions)
  pub requests : first_fault config 0 (lines says.body) ≡ fault

-- every line is one of a script, and its first request that no port takes, if there is one, is at this fault
abbrev pub HasChecked : Bool → List ℕ → List ℕ → Option Fault → Type 0
HasChecked sample profile input fault = (config : Config) × (instructions : List Instruction) × AreChecked sample profile input config instructions fault

-- the script is one that ports take, and a refresh interval leaves no time to serve a request
abbrev pub IsStuck : Bool → List ℕ → List ℕ → Type 0
IsStuck sample profile input =
    (config : Config) × (instructions : List Instruction) × AreChecked sample profile input config instructions None × (leaves_time config ≡ false)

-- a fault by which a run ends whose script is one that ports take
abbrev pub IsRunStop : Config → Fault → Type 0
IsRunStop config (faults.RunStuck cycle) = leaves_time config ≡ false
IsRunStop config faults.OutOfMemory = Unit {0}
IsRunStop config faults.ClockSpent = Unit {0}
IsRunStop config faults.PortBroken = Unit {0}
IsRunStop config faults.ThreadsRefused = Unit {0}
IsRunStop config fault = ⊥

-- The input has the fault that a run in threads ends by. Where a thread stopped before its end, or writing failed, the
-- script is one that ports take; reading and memory fail by themselves.
abbrev pub HasRunFault : Bool → List ℕ → List ℕ → Fault → Type 0
HasRunFault sample profile input (faults.ScriptLine line) = IsNoRequests sample profile input (faults.ScriptLine line)
HasRunFault sample profile input faults.ScriptLimit = IsNoRequests sample profile input faults.ScriptLimit
HasRunFault sample profile input (faults.RequestLine line cause) = HasChecked sample profile input (Some (faults.RequestLine line cause))
HasRunFault sample profile input (faults.RunStuck cycle) = IsStuck sample profile input
HasRunFault sample profile input faults.ClockSpent = HasChecked sample profile input None
HasRunFault sample profile input faults.PortBroken = HasChecked sample profile input None
HasRunFault sample profile input faults.ThreadsRefused = HasChecked sample profile input None
HasRunFault sample profile input faults.Write = HasChecked sample profile input None
HasRunFault sample profile input faults.Read = Unit {0}
HasRunFault sample profile input faults.OutOfMemory = Unit {0}
HasRunFault sample profile input fault = HasInputFault sample profile input fault

-- What the threads of a run came to, on this configuration: ports and workers were opened, each port, in order, pushed what
-- the script asks it for, all were closed, and the text has the replies of the ports, in order, and then the verdicts on the
-- traces.
pub record IsThreaded (config : Config) (instructions : List Instruction) (text : List ℕ) (legal : Bool) : Type 0 where
  pub ports : List PortState
  pub workers : List WorkerState
  pub system : IsSystem config RUN ports workers
  pub hosted : List Hosted
  pub asked : AreMatched (IsHostedFrom instructions) ports hosted
  pub worked : List WorkerEnded
  pub ended : AreMatched IsEndOf workers worked
  pub left : Left
  pub is_closed : IsClosed RUN (map (λ h. h.end) hosted) worked left
  pub verdicts : List ℕ
  pub are_verdicts : AreVerdicts config 0 (map (λ w. w.trace) is_closed.by_channel) verdicts legal
  -- each is that the trace is legal
  pub all_legal : legal ≡ true
  pub text_is : text ≡ texts_of hosted ++ verdicts

-- Why the threads of a run stopped, on this configuration: ports and workers were opened, and one of their threads stopped
-- before its end.
abbrev pub IsStopped : Config → List Instruction → Stop → Type 0
IsStopped config instructions stop = (ports : List PortState) × (workers : List WorkerState) × IsSystem config RUN ports workers × HasStopped ports workers instructions stop

-- what a run without a fault writes and answers
pub record IsRan (sample : Bool) (profile : List ℕ) (input : List ℕ) (legal : Bool) (old new : Option (List ℕ)) : Type 0 where
  pub config : Config
  pub instructions : List Instruction
  pub checked : AreChecked sample profile input config instructions None
  pub text : List ℕ
  pub threaded : IsThreaded config instructions text legal
  pub written : Appends old new text
