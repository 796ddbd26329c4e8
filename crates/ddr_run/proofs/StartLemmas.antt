-- What an input of a run in threads says, and which fault it has.
use Rattle.std.proofs.Common.{◌≡◌, ℕ, List, Bool, true, false, Option, None, Some, Result, Ok, Err, IfSome, refl, subst, ◌∙◌}
use Rattle.std.specs.Str.Lines.{lines}
use Rattle.ddr_timing.specs.declared.config.Config.{Config}
use Rattle.ddr_text.specs.declared.fault.Fault.{Fault}
use Rattle.ddr_text.specs.declared.fault.Fault.TheVariants as faults
use Rattle.ddr_text.specs.Body.{HasParts, IsRefused, parts_of}
use Rattle.ddr_text.specs.Input.{IsText}
use Rattle.ddr_text.specs.Instructions.{AreRead, form_of, instructions_of}
use Rattle.ddr_text.specs.Requests.{IsTaken, first_fault}
use Rattle.ddr_text.specs.Script.{Instruction}
use Rattle.ddr_text.specs.Sink.{write_fault}
use Rattle.ddr_text.proofs.BodyLemmas.{not_of_parts}
use Rattle.ddr_run.specs.Started.{AreChecked, HasChecked, HasRunFault, IsRunStop, SaysRequests}

-- what holds of the text that was read holds of the input, where that is known
pub of_input : (remaining : Option (List ℕ)) (items text : List ℕ) (P : List ℕ → Type 0) → IfSome remaining (λ bytes. items ≡ bytes) → text ≡ items → P text → IfSome remaining P
of_input None items text P known same p = tt
of_input (Some input) items text P known same p = subst P (same ∙ known) p

abbrev says : (text profile : List ℕ) (sample : Bool) (config : Config) (body : List ℕ) (said : Result (List Instruction) Fault) → IsText text → HasParts (parts_of sample profile text) config body → instructions_of (form_of config false) body ≡ said → SaysRequests sample profile text config said
says text profile sample config body said is_text opened e = record { text = is_text; body = body; opened = opened; script = e }

-- a script whose lines are read
pub checked : (text profile : List ℕ) (sample : Bool) (config : Config) (body : List ℕ) (instructions : List Instruction) (fault : Option Fault) → IsText text → HasParts (parts_of sample profile text) config body → instructions_of (form_of config false) body ≡ Ok instructions
    → first_fault config 0 (lines body) ≡ fault → AreChecked sample profile text config instructions fault
checked text profile sample config body instructions fault is_text opened script requests = record {
  says = says text profile sample config body (Ok instructions) is_text opened script;
  requests = requests;
}

-- the fault of a text whose parts are refused
pub parts_fault : (text profile : List ℕ) (sample : Bool) (fault : Fault) → IsText text → IsRefused (parts_of sample profile text) fault → HasRunFault sample profile text fault
parts_fault text profile sample faults.ConfigSyntax is_text refused = (is_text, refused)
parts_fault text profile sample (faults.ConfigMissing key) is_text refused = (is_text, refused)
parts_fault text profile sample faults.ConfigUnknownKey is_text refused = (is_text, refused)
parts_fault text profile sample (faults.ConfigRange key) is_text refused = (is_text, refused)
parts_fault text profile sample (faults.ConfigNotPowerOfTwo key) is_text refused = (is_text, refused)
parts_fault text profile sample (faults.ConfigRelation n) is_text refused = (is_text, refused)
parts_fault text profile sample faults.InputHasNoMark is_text refused = (is_text, refused)
parts_fault text profile sample faults.InputTooLong is_text refused = not_of_parts (parts_of sample profile text) faults.InputTooLong refused refl
parts_fault text profile sample faults.InputNotUtf8 is_text refused = not_of_parts (parts_of sample profile text) faults.InputNotUtf8 refused refl
parts_fault text profile sample (faults.ScriptLine line) is_text refused = not_of_parts (parts_of sample profile text) (faults.ScriptLine line) refused refl
parts_fault text profile sample (faults.RequestLine line cause) is_text refused = not_of_parts (parts_of sample profile text) (faults.RequestLine line cause) refused refl
parts_fault text profile sample (faults.MapLine line) is_text refused = not_of_parts (parts_of sample profile text) (faults.MapLine line) refused refl
parts_fault text profile sample (faults.ReplayLine line cause) is_text refused = not_of_parts (parts_of sample profile text) (faults.ReplayLine line cause) refused refl
parts_fault text profile sample (faults.ReplayRange line) is_text refused = not_of_parts (parts_of sample profile text) (faults.ReplayRange line) refused refl
parts_fault text profile sample faults.ReplayLimit is_text refused = not_of_parts (parts_of sample profile text) faults.ReplayLimit refused refl
parts_fault text profile sample (faults.ReplayStuck cycle) is_text refused = not_of_parts (parts_of sample profile text) (faults.ReplayStuck cycle) refused refl
parts_fault text profile sample (faults.RunStuck cycle) is_text refused = not_of_parts (parts_of sample profile text) (faults.RunStuck cycle) refused refl
parts_fault text profile sample (faults.CaptureLine line cause) is_text refused = not_of_parts (parts_of sample profile text) (faults.CaptureLine line cause) refused refl
parts_fault text profile sample (faults.CaptureOrder line) is_text refused = not_of_parts (parts_of sample profile text) (faults.CaptureOrder line) refused refl
parts_fault text profile sample faults.TraceHeader is_text refused = not_of_parts (parts_of sample profile text) faults.TraceHeader refused refl
parts_fault text profile sample (faults.TraceRow line) is_text refused = not_of_parts (parts_of sample profile text) (faults.TraceRow line) refused refl
parts_fault text profile sample (faults.TraceOrder line) is_text refused = not_of_parts (parts_of sample profile text) (faults.TraceOrder line) refused refl
parts_fault text profile sample faults.TraceTruncated is_text refused = not_of_parts (parts_of sample profile text) faults.TraceTruncated refused refl
parts_fault text profile sample faults.TraceTooLong is_text refused = not_of_parts (parts_of sample profile text) faults.TraceTooLong refused refl
parts_fault text profile sample faults.TraceNoSuch is_text refused = not_of_parts (parts_of sample profile text) faults.TraceNoSuch refused refl
parts_fault text profile sample faults.DrawTooLong is_text refused = not_of_parts (parts_of sample profile text) faults.DrawTooLong refused refl
parts_fault text profile sample faults.ScriptLimit is_text refused = not_of_parts (parts_of sample profile text) faults.ScriptLimit refused refl
parts_fault text profile sample faults.Read is_text refused = tt
parts_fault text profile sample faults.Write is_text refused = not_of_parts (parts_of sample profile text) faults.Write refused refl
parts_fault text profile sample faults.OutOfMemory is_text refused = tt
parts_fault text profile sample faults.ClockSpent is_text refused = not_of_parts (parts_of sample profile text) faults.ClockSpent refused refl
parts_fault text profile sample faults.PortBroken is_text refused = not_of_parts (parts_of sample profile text) faults.PortBroken refused refl
parts_fault text profile sample faults.ThreadsRefused is_text refused = not_of_parts (parts_of sample profile text) faults.ThreadsRefused refused refl

-- a script that is at fault by a line alone
pub no_requests : {X : Type 0} (view : X → List Instruction) (text profile : List ℕ) (sample : Bool) (config : Config) (body : List ℕ) (fault : Fault) → IsText text → HasParts (parts_of sample profile text) config body → AreRead view (Err fault) (instructions_of (form_of config false) body)
    → HasRunFault sample profile text fault
no_requests view text profile sample config body faults.OutOfMemory is_text opened is = tt
no_requests view text profile sample config body faults.ScriptLimit is_text opened is = (config, says text profile sample config body (Err faults.ScriptLimit) is_text opened is)
no_requests view text profile sample config body (faults.ScriptLine line) is_text opened is = (config, says text profile sample config body (Err (faults.ScriptLine line)) is_text opened is)
no_requests view text profile sample config body _ is_text opened is = absurd is

-- a request that no port takes
pub not_taken : (text profile : List ℕ) (sample : Bool) (config : Config) (body : List ℕ) (instructions : List Instruction) (fault : Fault) → IsText text → HasParts (parts_of sample profile text) config body → instructions_of (form_of config false) body ≡ Ok instructions
    → IsTaken (Err fault) (first_fault config 0 (lines body)) → HasRunFault sample profile text fault
not_taken text profile sample config body instructions faults.OutOfMemory is_text opened script is = tt
not_taken text profile sample config body instructions (faults.RequestLine line cause) is_text opened script is =
    (config, instructions, checked text profile sample config body instructions (Some (faults.RequestLine line cause)) is_text opened script is)
not_taken text profile sample config body instructions _ is_text opened script is = absurd is

-- a run that stopped
pub stopped : (text profile : List ℕ) (sample : Bool) (config : Config) (instructions : List Instruction) (fault : Fault) → AreChecked sample profile text config instructions None → IsRunStop config fault → HasRunFault sample profile text fault
stopped text profile sample config instructions (faults.RunStuck cycle) checked is = (config, instructions, checked, is)
stopped text profile sample config instructions faults.OutOfMemory checked is = tt
stopped text profile sample config instructions faults.ClockSpent checked is = (config, instructions, checked)
stopped text profile sample config instructions faults.PortBroken checked is = (config, instructions, checked)
stopped text profile sample config instructions faults.ThreadsRefused checked is = (config, instructions, checked)
stopped text profile sample config instructions _ checked is = absurd is

-- a text that was not written
pub unwritten : (text profile : List ℕ) (sample may_fail : Bool) (fault : Fault) → fault ≡ write_fault may_fail → HasChecked sample profile text None → HasRunFault sample profile text fault
unwritten text profile sample true fault e checked = rw e checked
unwritten text profile sample false fault e checked = rw e tt
