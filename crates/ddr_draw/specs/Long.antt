-- A trace that is too long to be read whole, line by line: the header, the commands, END, and nothing behind it. A line counts from 1.
use Rattle.std.specs.Prelude.{◌≡◌, ℕ, ◌+◌, ◌<◌, ◌⊎◌, Bool, false, nat_lt, if◌then◌else◌, List, [], ◌∷◌, ◌++◌, length, Option, Some, None, Result, Ok, Err}
use Rattle.std.specs.Str.{bytes_eq}
use Rattle.std.specs.Str.Lines.{lines}
use Rattle.ddr_timing.specs.declared.config.Config.{Config}
use Rattle.ddr_trace.specs.declared.command.Entry.{Entry}
use Rattle.ddr_trace_text.specs.declared.text.TraceError.{TraceError}
use Rattle.ddr_trace_text.specs.declared.text.TraceError.TheVariants as error
use Rattle.ddr_trace.specs.Traces.{Recorded}
use Rattle.ddr_text.specs.declared.command.Format.TheVariants.{Own}
use Rattle.ddr_text.specs.declared.fault.Fault.{Fault}
use Rattle.ddr_text.specs.declared.fault.Fault.TheVariants as faults
use Rattle.ddr_text.specs.declared.fault.LineFault.{LineFault}
use Rattle.ddr_text.specs.Body.{HasParts, parts_of}
use Rattle.ddr_text.specs.Check.{RefusesTrace}
use Rattle.ddr_text.specs.Input.{IsTooLong}
use Rattle.ddr_capture.specs.declared.feed.TheConstants.{LONGEST_LINE}
use Rattle.ddr_capture.specs.declared.line.Said.{Said}
use Rattle.ddr_capture.specs.declared.line.Said.TheVariants as says
use Rattle.ddr_capture.specs.Front.{IsConfigRefused}
use Rattle.ddr_capture.specs.Line.{said_of}
use Rattle.ddr_draw.specs.declared.long.Row.{Row}
use Rattle.ddr_draw.specs.declared.long.Row.TheVariants as rows
use Rattle.ddr_draw.specs.declared.long.TheConstants.{HEADER, MOST_COMMANDS}

-- what a line behind the header says, as `check --stream` reads it; no line is left out
abbrev pub row_said : Result Said LineFault → Option Row
row_said (Ok (says.Command channel e)) = Some (rows.Command e)
row_said (Ok (says.End end)) = Some (rows.End end)
row_said _ = None

unfoldable pub row_of : List ℕ → Option Row
row_of text = if nat_lt LONGEST_LINE (length text) then None else row_said (said_of Own false text)

-- by which of the two it is
abbrev pub by_row : ℕ → (Entry → Result Recorded TraceError) → (ℕ → Result Recorded TraceError) → Option Row → Result Recorded TraceError
by_row line command last None = Err (error.Row line)
by_row line command last (Some (rows.Command e)) = command e
by_row line command last (Some (rows.End end)) = last end

-- nothing stands behind END
abbrev pub long_end : ℕ → Recorded → List (List ℕ) → Result Recorded TraceError
long_end line trace [] = Ok trace
long_end line trace (text ∷ rest) = Err (error.Order line)

abbrev pub long_from : ℕ → List Entry → List (List ℕ) → Result Recorded TraceError
long_from line so_far [] = Err error.Truncated
long_from line so_far (text ∷ rest) = by_row line
    (λ e. long_from (line + 1) (so_far ++ e ∷ []) rest)
    (λ end. long_end (line + 1) (record { start = 0; end = end; entries = so_far }) rest)
    (row_of text)

-- the trace that the lines are, or the fault that comes first among them
abbrev pub long_trace : List (List ℕ) → Result Recorded TraceError
long_trace [] = Err error.Header
long_trace (first ∷ rest) = if bytes_eq first HEADER.now then long_from 2 [] rest else Err error.Header

-- ---- an input

-- `check` refuses the input as too long
abbrev pub IsLong : Bool → List ℕ → List ℕ → Type 0
IsLong sample profile input = IsTooLong input ⊎ RefusesTrace sample profile input error.TooLong

-- what such an input says: its body's trace and its configuration, or the fault that comes first in the body
pub record SaysLong (sample : Bool) (profile input : List ℕ) (config : Config) (said : Result Recorded TraceError) : Type 0 where
  pub body : List ℕ
  pub opened : HasParts (parts_of sample profile input) config body
  pub read : long_trace (lines body) ≡ said

abbrev pub RefusesLong : Bool → List ℕ → List ℕ → TraceError → Type 0
RefusesLong sample profile input refusal = (config : Config) × SaysLong sample profile input config (Err refusal)

abbrev pub HasLong : Bool → List ℕ → List ℕ → Type 0
HasLong sample profile input = (config : Config) × (trace : Recorded) × SaysLong sample profile input config (Ok trace)

-- the body has more lines than are counted, 2^62 or more
abbrev pub HasTooManyLines : Bool → List ℕ → List ℕ → Type 0
HasTooManyLines sample profile input = (config : Config) × (body : List ℕ) × HasParts (parts_of sample profile input) config body × (MOST_COMMANDS < length (lines body))

-- the fault of a long input; where writing fails it is a trace, and reading and memory fail by themselves
abbrev pub HasLongFault : Bool → List ℕ → List ℕ → Fault → Type 0
HasLongFault sample profile input faults.TraceHeader = RefusesLong sample profile input error.Header
HasLongFault sample profile input (faults.TraceRow line) = RefusesLong sample profile input (error.Row line)
HasLongFault sample profile input (faults.TraceOrder line) = RefusesLong sample profile input (error.Order line)
HasLongFault sample profile input faults.TraceTruncated = RefusesLong sample profile input error.Truncated
HasLongFault sample profile input faults.InputTooLong = IsConfigRefused sample profile input faults.InputTooLong ⊎ HasTooManyLines sample profile input
HasLongFault sample profile input faults.Write = HasLong sample profile input
HasLongFault sample profile input fault = IsConfigRefused sample profile input fault
