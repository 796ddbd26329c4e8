-- How far a long trace was read.
use Rattle.std.specs.Prelude.{◌≡◌, ℕ, ◌+◌, ◌<◌, List, [], ◌∷◌, ◌++◌, length, IfSome, Option, Result, Ok, Err}
use Rattle.std.specs.Str.Lines.{lines}
use Rattle.ddr_trace.specs.declared.command.Entry.{Entry}
use Rattle.ddr_trace_text.specs.declared.text.TraceError.TheVariants as error
use Rattle.ddr_trace.specs.Traces.{Recorded}
use Rattle.ddr_text.specs.declared.fault.Fault.{Fault}
use Rattle.ddr_text.specs.declared.fault.Fault.TheVariants as faults
use Rattle.ddr_capture.specs.Feed.{Along}
use Rattle.ddr_capture.specs.declared.feed.Refusal.{Refusal}
use Rattle.ddr_capture.specs.declared.feed.Refusal.TheVariants as refusals
use Rattle.ddr_draw.specs.declared.long.Row.{Row}
use Rattle.ddr_draw.specs.declared.long.Row.TheVariants as rows
use Rattle.ddr_draw.specs.declared.long.TheConstants.{MOST_COMMANDS}
use Rattle.ddr_draw.specs.Long.{long_end, long_from, long_trace}

-- of the body the lines before this one say these commands, and the rest is left
pub record StandsAt (line : ℕ) (so_far : List Entry) (body rest : List ℕ) : Type 0 where
  pub said : long_from line so_far (lines rest) ≡ long_trace (lines body)
  pub counted : line + length (lines rest) ≡ length (lines body) + 1

-- they say this trace, where nothing is left
abbrev pub EndsAt : ℕ → Recorded → List ℕ → List ℕ → Type 0
EndsAt line trace body rest = long_end line trace (lines rest) ≡ long_trace (lines body)

-- the body has this fault, or more lines than are counted; reading and memory fail by themselves
abbrev pub IsBodyFault : List ℕ → Fault → Type 0
IsBodyFault body faults.TraceHeader = long_trace (lines body) ≡ Err error.Header
IsBodyFault body (faults.TraceRow line) = long_trace (lines body) ≡ Err (error.Row line)
IsBodyFault body (faults.TraceOrder line) = long_trace (lines body) ≡ Err (error.Order line)
IsBodyFault body faults.TraceTruncated = long_trace (lines body) ≡ Err error.Truncated
IsBodyFault body faults.InputTooLong = MOST_COMMANDS < length (lines body)
IsBodyFault body faults.Read = Unit {0}
IsBodyFault body faults.OutOfMemory = Unit {0}
IsBodyFault body _ = ⊥

-- the first line is the header, behind which this is left; or the body has the fault
abbrev pub IsHeader : Option (List ℕ) → Option (List ℕ) → Result Unit Fault → Type 0
IsHeader a c (Ok done) = Along (StandsAt 2 []) a c
IsHeader a c (Err fault) = IfSome a (λ body. IsBodyFault body fault)

-- the line of this number is a command or END, behind which this is left; or the body has the fault
abbrev pub IsRow : ℕ → List Entry → Option (List ℕ) → Option (List ℕ) → Result Row Fault → Type 0
IsRow line so_far a c (Ok (rows.Command e)) = Along (StandsAt (line + 1) (so_far ++ e ∷ [])) a c
IsRow line so_far a c (Ok (rows.End end)) = Along (EndsAt (line + 1) (record { start = 0; end = end; entries = so_far })) a c
IsRow line so_far a c (Err fault) = IfSome a (λ body. IsBodyFault body fault)

-- nothing stands behind END, and the body is this trace; or the body has the fault
abbrev pub IsEnd : Recorded → Option (List ℕ) → Result Unit Fault → Type 0
IsEnd trace a (Ok done) = IfSome a (λ body. long_trace (lines body) ≡ Ok trace)
IsEnd trace a (Err fault) = IfSome a (λ body. IsBodyFault body fault)

-- why a line was not found
abbrev pub header_fault : Refusal → Fault
header_fault refusals.Line = faults.TraceHeader
header_fault refusals.Read = faults.Read
header_fault refusals.OutOfMemory = faults.OutOfMemory

abbrev pub row_fault : ℕ → Refusal → Fault
row_fault line refusals.Line = faults.TraceRow line
row_fault line refusals.Read = faults.Read
row_fault line refusals.OutOfMemory = faults.OutOfMemory

abbrev pub end_fault : ℕ → Refusal → Fault
end_fault line refusals.Line = faults.TraceOrder line
end_fault line refusals.Read = faults.Read
end_fault line refusals.OutOfMemory = faults.OutOfMemory
