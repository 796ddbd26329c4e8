-- What the command `sim` writes, and by which faults it ends.
use Rattle.std.specs.Prelude.{◌≡◌, ℕ, Bool, true, false, nat_lt, List, ◌⊎◌, Option, Some, None, Result, Ok, Err}
use Rattle.std.specs.Io.KnownBytes.{Appends}
use Rattle.ddr_timing.specs.declared.config.Config.{Config}
use Rattle.ddr_text.specs.declared.fault.Fault.{Fault}
use Rattle.ddr_text.specs.declared.fault.Fault.TheVariants as faults
use Rattle.ddr_text.specs.Body.{HasInputFault, HasParts, parts_of}
use Rattle.ddr_text.specs.Input.{IsText}
use Rattle.ddr_text.specs.Instructions.{form_of, instructions_of}
use Rattle.ddr_world.specs.State.{IsDrained}
use Rattle.ddr_sim.specs.Rounds.{Run, Course, Stopped}
use Rattle.ddr_sim.specs.Runs.{run_of, written_by}
use Rattle.ddr_text.specs.Script.{Instruction}
use Rattle.ddr_sim.specs.Simulated.{BeginsWith, printed_in}

-- the channel that is named, if one is, is there
abbrev pub has_channel : Config → Option ℕ → Bool
has_channel config None = true
has_channel config (Some channel) = nat_lt channel config.geometry.channels

-- what an input says: its configuration, on which the channel that is named is there, and its script's instructions or the
-- script's first fault
pub record Says (sample : Bool) (profile : List ℕ) (trace : Option ℕ) (input : List ℕ) (config : Config) (said : Result (List Instruction) Fault) : Type 0 where
  pub text : IsText input
  pub body : List ℕ
  pub opened : HasParts (parts_of sample profile input) config body
  pub there : has_channel config trace ≡ true
  pub script : instructions_of (form_of config true) body ≡ said

-- the input asks for a run that goes so
pub record AsksFor (sample : Bool) (profile : List ℕ) (trace : Option ℕ) (input : List ℕ) (course : Course) : Type 0 where
  pub config : Config
  pub instructions : List Instruction
  pub says : Says sample profile trace input config (Ok instructions)
  pub course_is : run_of config instructions ≡ course

-- the script is at fault
abbrev pub IsNoScript : Bool → List ℕ → Option ℕ → List ℕ → Fault → Type 0
IsNoScript sample profile trace input fault = (config : Config) × Says sample profile trace input config (Err fault)

-- the channel that is named is not there
pub record NamesNoChannel (sample : Bool) (profile : List ℕ) (trace : Option ℕ) (input : List ℕ) : Type 0 where
  pub text : IsText input
  pub config : Config
  pub body : List ℕ
  pub opened : HasParts (parts_of sample profile input) config body
  pub absent : has_channel config trace ≡ false

-- what a run without a fault writes; at its end the core is drained
pub record IsRun (sample : Bool) (profile : List ℕ) (trace : Option ℕ) (input : List ℕ) (old new : Option (List ℕ)) : Type 0 where
  pub run : Run
  pub asks : AsksFor sample profile trace input (Ok run)
  pub drained : IsDrained run.state
  pub written : Appends old new (written_by trace (Ok run))

-- a fault stopped the run, and what was printed before it is written
pub record IsStopped (sample : Bool) (profile : List ℕ) (trace : Option ℕ) (input : List ℕ) (old new : Option (List ℕ)) (fault : Fault) : Type 0 where
  pub stop : Stopped
  pub asks : AsksFor sample profile trace input (Err stop)
  pub fault_is : stop.fault ≡ fault
  pub written : Appends old new (written_by trace (Err stop))

-- the input asks for a run
abbrev pub AsksForRun : Bool → List ℕ → Option ℕ → List ℕ → Type 0
AsksForRun sample profile trace input = (course : Course) × AsksFor sample profile trace input course

-- what was written is what this run begins to print, and of a trace nothing
abbrev pub IsBeginning : Option ℕ → Course → Option (List ℕ) → Option (List ℕ) → Type 0
IsBeginning None course old new = (text : List ℕ) × BeginsWith (printed_in course) text × Appends old new text
IsBeginning (Some channel) course old new = new ≡ old

-- memory ran out in the run that the input asks for
pub record IsCutShort (sample : Bool) (profile : List ℕ) (trace : Option ℕ) (input : List ℕ) (old new : Option (List ℕ)) : Type 0 where
  pub course : Course
  pub asks : AsksFor sample profile trace input course
  pub written : IsBeginning trace course old new

-- The input has the fault that a run ends by. Where the script has too many requests nothing is written, and where it needs
-- too many rounds what was printed in those that are made; where memory runs out nothing is written, or what the run begins
-- to print; and where writing fails the input asks for a run. Reading fails by itself.
abbrev pub HasSimFault : Bool → List ℕ → Option ℕ → List ℕ → Option (List ℕ) → Option (List ℕ) → Fault → Type 0
HasSimFault sample profile trace input old new faults.TraceNoSuch = NamesNoChannel sample profile trace input
HasSimFault sample profile trace input old new (faults.ScriptLine line) = IsNoScript sample profile trace input (faults.ScriptLine line)
HasSimFault sample profile trace input old new faults.ScriptLimit =
    (IsNoScript sample profile trace input faults.ScriptLimit × (new ≡ old)) ⊎ IsStopped sample profile trace input old new faults.ScriptLimit
HasSimFault sample profile trace input old new faults.ClockSpent = IsStopped sample profile trace input old new faults.ClockSpent
HasSimFault sample profile trace input old new faults.Write = AsksForRun sample profile trace input
HasSimFault sample profile trace input old new faults.Read = Unit {0}
HasSimFault sample profile trace input old new faults.OutOfMemory = (new ≡ old) ⊎ IsCutShort sample profile trace input old new
HasSimFault sample profile trace input old new fault = HasInputFault sample profile input fault
