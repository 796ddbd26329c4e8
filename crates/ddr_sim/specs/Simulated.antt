-- What contracts see of a simulation, and how its calls lead along a run.
use Rattle.std.specs.Prelude.{◌≡◌, ◌+◌, ◌≤◌, ℕ, Bool, true, false, List, ◌++◌, Option, Some, None, Result, Ok, Err}
use Rattle.std.specs.Io.KnownBytes.{Appends}
use Rattle.ddr_timing.specs.declared.config.Config.{Config}
use Rattle.ddr_world.specs.Kept.{Kept, state_of}
use Rattle.ddr_world.specs.State.{State}
use Rattle.ddr_rounds.specs.Rounds.{outstanding}
use Rattle.ddr_reorder.specs.Replies.{Answer}
use Rattle.ddr_text.specs.Replies.{reply_text}
use Rattle.ddr_text.specs.declared.fault.Fault.{Fault}
use Rattle.ddr_text.specs.declared.fault.Fault.TheVariants as faults
use Rattle.ddr_sim.specs.declared.simulation.Simulation.TheInside.{Inside}
use Rattle.ddr_sim.specs.Rounds.{Run, Course}

pub record Simulated : Type 0 where
  pub config : Config
  pub world : Kept
  -- how many rounds may still be made
  pub left : ℕ
  -- how many numbers are outstanding
  pub waiting : ℕ
  -- nothing is printed
  pub silent : Bool

abbrev pub simulated : Inside → Simulated
simulated a = record { config = a.config; world = a.world; left = a.left; waiting = a.waiting; silent = a.silent }

pub record IsWhole (a : Inside) : Type 0 where
  pub config : a.world.config ≡ a.config
  pub counted : a.waiting ≡ outstanding (state_of a.world)
  -- traces are kept where one is to be printed in place of replies
  pub keeps : a.world.keeps ≡ a.silent

-- the run that a simulation has come to, where this text was to be printed
abbrev pub run_at : Simulated → List ℕ → Run
run_at sim text = record { state = state_of sim.world; text = text; left = sim.left }

-- bytes grew by a text, or stayed where nothing is printed
abbrev pub Prints : Bool → Option (List ℕ) → Option (List ℕ) → List ℕ → Type 0
Prints true begin now text = now ≡ begin
Prints false begin now text = Appends begin now text

-- the configuration and what is printed stay, and at most so many numbers more are outstanding
pub record IsSameRun (old new : Simulated) (more : ℕ) : Type 0 where
  pub config : new.config ≡ old.config
  pub silent : new.silent ≡ old.silent
  pub waiting : new.waiting ≤ old.waiting + more

-- a cycle is refused where there is none to be made, or for want of memory
abbrev pub IsCycleFault : Fault → Option State → Type 0
IsCycleFault faults.ClockSpent said = said ≡ None
IsCycleFault faults.OutOfMemory said = Unit {0}
IsCycleFault _ said = ⊥

-- what was done about the reply in front of a port: it was printed, or there is none
abbrev pub IsFrontPrinted : ℕ → Option Answer → Bool → Option (List ℕ) → Option (List ℕ) → Bool → Type 0
IsFrontPrinted port None silent before after there = (there ≡ false) × (after ≡ before)
IsFrontPrinted port (Some a) silent before after there = (there ≡ true) × Prints silent before after (reply_text port a)

-- what was printed in a run, whether it goes on or was stopped
abbrev pub printed_in : Course → List ℕ
printed_in (Ok run) = run.text
printed_in (Err stop) = stop.text

-- the text begins so
abbrev pub BeginsWith : List ℕ → List ℕ → Type 0
BeginsWith text front = (rest : List ℕ) × (text ≡ front ++ rest)

-- a part of a run came to this, which printed the bytes since `begin`; or a fault of the input or of a clock ended it; or
-- memory ran out, and what was printed by then is what the run begins to print
abbrev pub ComesTo : Option (List ℕ) → Simulated → Option (List ℕ) → Result (Unit {0}) Fault → Course → Type 0
ComesTo begin sim now (Ok _) course = (text : List ℕ) × (course ≡ Ok (run_at sim text)) × Prints sim.silent begin now text
ComesTo begin sim now (Err faults.ScriptLimit) course =
    (text : List ℕ) × (course ≡ Err (record { fault = faults.ScriptLimit; text = text })) × Prints sim.silent begin now text
ComesTo begin sim now (Err faults.ClockSpent) course =
    (text : List ℕ) × (course ≡ Err (record { fault = faults.ClockSpent; text = text })) × Prints sim.silent begin now text
ComesTo begin sim now (Err faults.OutOfMemory) course = (text : List ℕ) × BeginsWith (printed_in course) text × Prints sim.silent begin now text
ComesTo begin sim now (Err faults.Write) course = Unit {0}
ComesTo begin sim now (Err _) course = ⊥

-- from whatever was printed before, this part of a run was made
abbrev pub Leads : (Run → Course) → Simulated → Option (List ℕ) → Simulated → Option (List ℕ) → Result (Unit {0}) Fault → Type 0
Leads part old before new after result =
    (begin : Option (List ℕ)) (text : List ℕ) → Prints old.silent begin before text → ComesTo begin new after result (part (run_at old text))
