-- How a trace's text is not refused.
use Rattle.std.proofs.Common.{ℕ, ◌+◌, ◌==◌, Bool, true, false, cond, List, [], ◌∷◌, ◌++◌, length, Option, None, Some, Result, Err}
use Rattle.ddr_trace.specs.declared.command.Entry.{Entry}
use Rattle.ddr_trace_text.specs.declared.parse.Parsed.{Parsed}
use Rattle.ddr_trace_text.specs.declared.parse.Parsed.TheVariants as says
use Rattle.ddr_trace_text.specs.declared.text.TraceError.{TraceError}
use Rattle.ddr_trace_text.specs.declared.text.TraceError.TheVariants as error
use Rattle.ddr_trace_text.specs.Parse.{is_header, record_of}
use Rattle.ddr_trace_text.specs.Reader.{behind_end, by_record, entries_of, trace_of}
use Rattle.ddr_trace.specs.Traces.{Recorded}

-- no text is refused as a writer that fails
unfoldable pub NotWrite : Result Recorded TraceError → Type 0
NotWrite (Err error.Write) = ⊥
NotWrite _ = Unit {0}

record_not : (line : ℕ) (command : Entry → Result Recorded TraceError) (last : ℕ → Result Recorded TraceError) (said : Option Parsed) → ((e : Entry) → NotWrite (command e)) → ((end : ℕ) → NotWrite (last end)) → NotWrite (by_record line command last said)
unfolding NotWrite
record_not line command last None at_command at_end = tt
record_not line command last (Some (says.Command e)) at_command at_end = at_command e
record_not line command last (Some (says.End end)) at_command at_end = at_end end

behind_not : (line : ℕ) (trace : Recorded) (rows : List (List (List ℕ))) → NotWrite (behind_end line trace rows)
unfolding NotWrite behind_end
behind_not line trace [] = tt
behind_not line trace (fields ∷ rest) = record_not line (λ _. Err (error.Order line)) (λ _. Err (error.Order line)) (record_of fields) (λ _. tt) (λ _. tt)

either_not : (b : Bool) (x y : Result Recorded TraceError) → NotWrite x → NotWrite y → NotWrite (cond b x y)
either_not true x y p q = p
either_not false x y p q = q

entries_not : (line : ℕ) (so_far : List Entry) (rows : List (List (List ℕ))) → NotWrite (entries_of line so_far rows)
unfolding NotWrite entries_of
entries_not line so_far [] = tt
entries_not line so_far (fields ∷ rest) = record_not line _ _ (record_of fields)
    (λ e. either_not (length so_far == 65536) (Err error.TooLong) _ tt (entries_not (line + 1) (so_far ++ e ∷ []) rest))
    (λ end. behind_not (line + 1) (record { start = 0; end = end; entries = so_far }) rest)

pub trace_not : (rows : List (List (List ℕ))) → NotWrite (trace_of rows)
unfolding NotWrite trace_of
trace_not [] = tt
trace_not (first ∷ rest) = either_not (is_header first) _ (Err error.Header) (entries_not 2 [] rest) tt
