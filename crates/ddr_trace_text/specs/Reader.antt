-- The text of a trace, read: a header, the commands, END, and nothing behind it. A line counts records from 1.
use Rattle.std.specs.Prelude.{◌≡◌, ℕ, ◌+◌, ◌≤◌, ◌==◌, ◌&&◌, nat_le, true, if◌then◌else◌, List, [], ◌∷◌, ◌++◌, length, Option, Some, None, Result, Ok, Err}
use Rattle.std.specs.List.{list_all}
use Rattle.ddr_timing.specs.declared.geometry.Geometry.{Geometry}
use Rattle.ddr_timing.specs.declared.units.TheConstants.{CLOCK_STOP}
use Rattle.csv.specs.Reading.{default_config, records_from, strip_bom}
use Rattle.csv.specs.declared.parser.State.TheVariants as state
use Rattle.ddr_trace.specs.declared.command.Entry.{Entry}
use Rattle.ddr_trace_text.specs.declared.parse.Parsed.{Parsed}
use Rattle.ddr_trace_text.specs.declared.parse.Parsed.TheVariants as says
use Rattle.ddr_trace_text.specs.declared.text.TraceError.{TraceError}
use Rattle.ddr_trace_text.specs.declared.text.TraceError.TheVariants as error
use Rattle.ddr_trace_text.specs.Parse.{is_header, record_of}
use Rattle.ddr_trace.specs.Rules.{is_in}
use Rattle.ddr_trace.specs.Traces.{Recorded}

-- what the record at a line says, by which of the two it is
abbrev pub by_record : {X : Type 0} → ℕ → (Entry → Result X TraceError) → (ℕ → Result X TraceError) → Option Parsed → Result X TraceError
by_record line command last None = Err (error.Row line)
by_record line command last (Some (says.Command e)) = command e
by_record line command last (Some (says.End end)) = last end

-- a record behind END
unfoldable pub behind_end : ℕ → Recorded → List (List (List ℕ)) → Result Recorded TraceError
behind_end line trace [] = Ok trace
behind_end line trace (fields ∷ _) = by_record line (λ _. Err (error.Order line)) (λ _. Err (error.Order line)) (record_of fields)

-- a trace has at most 65,536 commands
unfoldable pub entries_of : ℕ → List Entry → List (List (List ℕ)) → Result Recorded TraceError
entries_of line so_far [] = Err error.Truncated
entries_of line so_far (fields ∷ rest) = by_record line
    (λ e. if length so_far == 65536 then Err error.TooLong else entries_of (line + 1) (so_far ++ e ∷ []) rest)
    (λ end. behind_end (line + 1) (record { start = 0; end = end; entries = so_far }) rest)
    (record_of fields)

-- the trace that the records are, or the fault that comes first among them
unfoldable pub trace_of : List (List (List ℕ)) → Result Recorded TraceError
trace_of [] = Err error.Header
trace_of (first ∷ rest) = if is_header first then entries_of 2 [] rest else Err error.Header

-- the records of a text that are looked at: the header, the commands, END and one behind it
abbrev pub records_in : List ℕ → List (List (List ℕ))
records_in text = records_from default_config 65539 state.StartRecord (strip_bom text)

-- what is answered is what the records say, but for a reader that fails, and for memory
abbrev pub IsAnswer : Result Recorded TraceError → Result Recorded TraceError → Type 0
IsAnswer said (Err error.Read) = Unit {0}
IsAnswer said (Err error.OutOfMemory) = Unit {0}
IsAnswer said answer = answer ≡ said

-- the answer of a reader that stopped at an error
abbrev pub FailsAs : Result Recorded TraceError → TraceError → Type 0
FailsAs said fault = IsAnswer said (Err fault)

-- what a text carries there and back: at most 65,536 commands, each in the geometry, and no cycle behind the one at
-- which a clock stops
pub record FitsText (g : Geometry) (entries : List Entry) (end : ℕ) : Type 0 where
  pub few : length entries ≤ 65536
  pub within : list_all (λ e. is_in g e.command && nat_le e.cycle CLOCK_STOP) entries ≡ true
  pub ends : end ≤ CLOCK_STOP
