-- What the command `check` writes.
use Rattle.std.specs.Prelude.{◌≡◌, ℕ, Bool, List, [], ◌∷◌, ◌++◌, codes, Option, Some, None, is_none, Result, Ok, Err}
use Rattle.std.specs.Fmt.{decimal}
use Rattle.std.specs.Io.KnownBytes.{Appends}
use Rattle.ddr_timing.specs.declared.config.Config.{Config}
use Rattle.ddr_trace.specs.declared.checker.Fault as checker
use Rattle.ddr_trace_text.specs.declared.text.TraceError.{TraceError}
use Rattle.ddr_trace_text.specs.declared.text.TraceError.TheVariants as error
use Rattle.ddr_trace.specs.Legality.{IsFirstFault, IsLegal, IsRefreshed}
use Rattle.ddr_trace.specs.Names.{name_of}
use Rattle.ddr_trace_text.specs.Reader.{records_in, trace_of}
use Rattle.ddr_trace.specs.Traces.{Recorded}
use Rattle.ddr_text.specs.declared.fault.Fault.{Fault}
use Rattle.ddr_text.specs.declared.fault.Fault.TheVariants as faults
use Rattle.ddr_text.specs.Body.{HasInputFault, HasParts, parts_of}
use Rattle.ddr_text.specs.Input.{IsText}

-- the line that is written: the trace is legal, or the place of its first fault and the rule broken there
unfoldable pub verdict_text : Option checker.Fault → List ℕ
verdict_text None = codes "legal" ++ 10 ∷ []
verdict_text (Some fault) = codes "fault " ++ (decimal fault.place ++ (codes " " ++ (name_of fault.rule ++ 10 ∷ [])))

-- the first fault of a trace; none where it is legal and refreshed
abbrev pub IsVerdict : Config → Recorded → Option checker.Fault → Type 0
IsVerdict config trace None =
    IsLegal config trace.start trace.end trace.entries × IsRefreshed config trace.start trace.end trace.entries
IsVerdict config trace (Some fault) = IsFirstFault config trace.start trace.end trace.entries fault.place fault.rule

-- what an input says: its body's trace and its configuration, or the fault that comes first in the body
pub record SaysTrace (sample : Bool) (profile input : List ℕ) (config : Config) (said : Result Recorded TraceError) : Type 0 where
  pub text : IsText input
  pub body : List ℕ
  pub opened : HasParts (parts_of sample profile input) config body
  pub read : trace_of (records_in body) ≡ said

-- what a check without a fault writes and answers
pub record IsChecked (sample : Bool) (profile input : List ℕ) (legal : Bool) (old new : Option (List ℕ)) : Type 0 where
  pub config : Config
  pub trace : Recorded
  pub says : SaysTrace sample profile input config (Ok trace)
  pub verdict : Option checker.Fault
  pub first : IsVerdict config trace verdict
  pub written : Appends old new (verdict_text verdict)
  pub answered : legal ≡ is_none verdict

-- the body is a trace, on which there is a verdict
abbrev pub HasTrace : Bool → List ℕ → List ℕ → Type 0
HasTrace sample profile input = (config : Config) × (trace : Recorded) × SaysTrace sample profile input config (Ok trace)

-- the body is a text that is refused so
abbrev pub RefusesTrace : Bool → List ℕ → List ℕ → TraceError → Type 0
RefusesTrace sample profile input refusal = (config : Config) × SaysTrace sample profile input config (Err refusal)

-- what refuses a text in memory, which is read without fail
abbrev pub in_memory : TraceError → TraceError
in_memory error.Read = error.OutOfMemory
in_memory refusal = refusal

-- the input has the fault that a check ends by; where writing fails it has a verdict, and reading and memory fail by
-- themselves
abbrev pub HasCheckFault : Bool → List ℕ → List ℕ → Fault → Type 0
HasCheckFault sample profile input faults.TraceHeader = RefusesTrace sample profile input error.Header
HasCheckFault sample profile input (faults.TraceRow line) = RefusesTrace sample profile input (error.Row line)
HasCheckFault sample profile input (faults.TraceOrder line) = RefusesTrace sample profile input (error.Order line)
HasCheckFault sample profile input faults.TraceTruncated = RefusesTrace sample profile input error.Truncated
HasCheckFault sample profile input faults.TraceTooLong = RefusesTrace sample profile input error.TooLong
HasCheckFault sample profile input faults.Read = Unit {0}
HasCheckFault sample profile input faults.Write = HasTrace sample profile input
HasCheckFault sample profile input faults.OutOfMemory = Unit {0}
HasCheckFault sample profile input fault = HasInputFault sample profile input fault
