-- How what is left to be told of a replay is written at its end.
use Rattle.std.specs.Prelude.{◌≡◌, ◌⊎◌, ℕ, List, ◌++◌, Option, Result, Ok, Err}
use Rattle.std.specs.Io.KnownBytes.{Appends}
use Rattle.ddr_timing.specs.declared.config.Config.{Config}
use Rattle.ddr_text.specs.declared.fault.Fault.{Fault}
use Rattle.ddr_text.specs.declared.fault.Fault.TheVariants as faults
use Rattle.ddr_replay.specs.Replays.{IsSaid, told_of}
use Rattle.ddr_replay.specs.View.{Replay, run_of, told_so_far}

-- what is to be told of a replay
abbrev pub all_told : Config → Replay → Result (List ℕ) Fault
all_told config r = told_of config r.wanted r.stream.asked (run_of r)

-- it is what was told so far, and this behind it, which was written behind what was to be written next
abbrev pub IsFinished : Config → Replay → Option (List ℕ) → Option (List ℕ) → Type 0
IsFinished config r before after = (ending : List ℕ) × (all_told config r ≡ Ok (told_so_far r ++ ending)) × Appends before after (r.text ++ ending)

-- there is nothing to be told, or writing it failed by this fault
abbrev pub IsUnfinished : Config → Replay → Fault → Fault → Type 0
IsUnfinished config r writing fault =
    IsSaid {X = List ℕ} (λ text. text) (Err fault) (all_told config r) ⊎ ((fault ≡ writing) × ((text : List ℕ) × (all_told config r ≡ Ok text)))

-- a part of what was to be written next was; where writing failed it is not known
abbrev pub IsPartly : List ℕ → Fault → Option (List ℕ) → Option (List ℕ) → Type 0
IsPartly next fault before after = (fault ≡ faults.Write) ⊎ ((text : List ℕ) × (rest : List ℕ) × Appends before after text × (next ≡ text ++ rest))

-- a fault by which it ends
abbrev pub IsEndFault : Fault → Type 0
IsEndFault faults.ClockSpent = Unit {0}
IsEndFault faults.OutOfMemory = Unit {0}
IsEndFault faults.Write = Unit {0}
IsEndFault _ = ⊥
