-- A whole script: its instructions, or what is at fault before its first step.
use Rattle.std.specs.Prelude.{◌≡◌, ◌≤◌, ℕ, ◌+◌, Bool, true, false, ◌&&◌, ◌==◌, ◌||◌, if◌then◌else◌, List, [], ◌∷◌, ◌++◌, map, Option, Result, Ok, Err}
use Rattle.std.specs.Option.{option_map_or}
use Rattle.std.specs.Str.Lines.{lines}
use Rattle.ddr_timing.specs.declared.config.Config.{Config}
use Rattle.ddr_text.specs.declared.fault.Fault.{Fault}
use Rattle.ddr_text.specs.declared.fault.Fault.TheVariants.{ScriptLimit, ScriptLine, OutOfMemory}
use Rattle.ddr_text.specs.Script.{Instruction, Ask, Rounds, instruction_of, is_skipped, only_if, view, ◌>>=◌}
use Rattle.ddr_text.specs.declared.instructions.Form.{Form}
use Rattle.ddr_text.specs.declared.instructions.Reading.TheInside.{Inside}

-- the most requests of a script
abbrev pub MOST_REQUESTS : ℕ
MOST_REQUESTS = 10000

-- the instructions that were read, and how many of them are requests
pub record Script : Type 0 where
  pub instructions : List Instruction
  pub requests : ℕ

abbrev pub script_of : Inside → Script
script_of a = record { instructions = map view a.instructions.items; requests = a.requests }

abbrev pub IsFew : Inside → Type 0
IsFew a = a.requests ≤ MOST_REQUESTS

abbrev pub nothing_read : Script
nothing_read = record { instructions = []; requests = 0 }

abbrev pub is_request : Instruction → Bool
is_request (Ask port asked) = true
is_request (Rounds count) = false

-- one instruction more, unless it is one request too many
abbrev pub with_instruction : Script → Instruction → Result Script Fault
with_instruction script instruction =
    if is_request instruction && script.requests == MOST_REQUESTS then Err ScriptLimit
    else Ok (record {
      instructions = script.instructions ++ instruction ∷ [];
      requests = if is_request instruction then script.requests + 1 else script.requests;
    })

-- so many ports as the configuration has
abbrev pub form_of : Config → Bool → Form
form_of config rounds = record { ports = config.limits.ports; rounds = rounds }

-- the instruction of a line that is not skipped, if a script of this form has it
unfoldable pub instruction_in : Form → List ℕ → Option Instruction
instruction_in form text = instruction_of form.ports text >>= only_if (λ instruction. form.rounds || is_request instruction)

-- one line more, which has this number
abbrev pub with_line : Form → ℕ → Script → List ℕ → Result Script Fault
with_line form line script text =
    if is_skipped text then Ok script
    else option_map_or (with_instruction script) (instruction_in form text) (Err (ScriptLine line))

infixl 10 ◌>>>◌
abbrev pub ◌>>>◌ : {A B : Type 0} → Result A Fault → (A → Result B Fault) → Result B Fault
Ok a >>> f = f a
Err fault >>> f = Err fault

-- the lines behind so many, which were read to this script
abbrev pub script_from : Form → ℕ → Script → List (List ℕ) → Result Script Fault
script_from form count script [] = Ok script
script_from form count script (text ∷ more) = with_line form (count + 1) script text >>> λ next. script_from form (count + 1) next more

-- The instructions of a script of this form, or its first fault: `ScriptLine` at a line that is none of such a script, where
-- lines count from 1, or `ScriptLimit` at the first request too many.
unfoldable pub instructions_of : Form → List ℕ → Result (List Instruction) Fault
instructions_of form text = script_from form 0 nothing_read (lines text) >>> λ script. Ok script.instructions

-- what is answered, seen by the view, is what the script says, unless memory ran out
abbrev pub AreRead : {X Y : Type 0} → (X → Y) → Result X Fault → Result Y Fault → Type 0
AreRead view (Ok x) said = said ≡ Ok (view x)
AreRead view (Err OutOfMemory) said = Unit {0}
AreRead view (Err ScriptLimit) said = said ≡ Err ScriptLimit
AreRead view (Err (ScriptLine line)) said = said ≡ Err (ScriptLine line)
AreRead view (Err _) said = ⊥

-- the script was read on as said, unless memory ran out
abbrev pub IsRead : Script → Result (Unit {0}) Fault → Result Script Fault → Type 0
IsRead next (Ok _) said = said ≡ Ok next
IsRead next (Err OutOfMemory) said = Unit {0}
IsRead next (Err ScriptLimit) said = said ≡ Err ScriptLimit
IsRead next (Err (ScriptLine line)) said = said ≡ Err (ScriptLine line)
IsRead next (Err _) said = ⊥
