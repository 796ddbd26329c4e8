-- What was read says which trace stands in it.
use Rattle.std.proofs.Common.{◌≡◌, ◌≢◌, Bool, true, false, List, ℕ, Option, Some, None, Result, Ok, Err, IfSome, refl, sym, subst, ◌∙◌}
use Rattle.std.specs.Prelude.{is_some, not}
use Rattle.std.specs.Io.KnownBytes.{Appends}
use Rattle.ddr_text.specs.Input.{IsText}
use Rattle.ddr_timing.specs.declared.config.Config.{Config}
use Rattle.ddr_trace.specs.declared.checker.Fault as checker
use Rattle.ddr_trace_text.specs.declared.text.TraceError.{TraceError}
use Rattle.ddr_trace_text.specs.declared.text.TraceError.TheVariants as error
use Rattle.ddr_trace_text.specs.Reader.{IsAnswer, records_in, trace_of}
use Rattle.ddr_trace_text.proofs.RefusalLemmas.{NotWrite}
use Rattle.ddr_trace.specs.Traces.{Recorded}
use Rattle.ddr_text.specs.declared.fault.Fault.{Fault}
use Rattle.ddr_text.specs.declared.fault.Fault.TheVariants as faults
use Rattle.ddr_text.specs.Body.{HasParts, IsRefused, parts_of}
use Rattle.ddr_text.specs.Check.{HasCheckFault, IsChecked, IsVerdict, SaysTrace, verdict_text}
use Rattle.ddr_text.specs.Fault.{trace_fault_of}
use Rattle.ddr_text.specs.Sink.{write_fault}
use Rattle.ddr_text.proofs.BodyLemmas.{not_of_parts}

-- what was read says what the body's records say
pub trace_said : (remaining : Option (List ℕ)) (items text profile : List ℕ) (sample : Bool) (config : Config) (body : List ℕ) (said : Result Recorded TraceError) → IfSome remaining (λ bytes. items ≡ bytes) → text ≡ items → IsText items → HasParts (parts_of sample profile text) config body → trace_of (records_in body) ≡ said
    → IfSome remaining (λ input. SaysTrace sample profile input config said)
trace_said None items text profile sample config body said known same is_text opened read = tt
trace_said (Some input) items text profile sample config body said known same is_text opened read =
    subst (λ i. SaysTrace sample profile i config said) known (record {
      text = is_text;
      body = body;
      opened = subst (λ t. HasParts (parts_of sample profile t) config body) same opened;
      read = read;
    })

-- the fault of a text whose parts are refused
text_fault : (profile text : List ℕ) (sample : Bool) (fault : Fault) → IsText text → IsRefused (parts_of sample profile text) fault → HasCheckFault sample profile text fault
text_fault profile text sample faults.OutOfMemory is_text refused = tt
text_fault profile text sample faults.Read is_text refused = tt
text_fault profile text sample faults.Write is_text refused = not_of_parts (parts_of sample profile text) faults.Write refused refl
text_fault profile text sample faults.TraceHeader is_text refused = not_of_parts (parts_of sample profile text) faults.TraceHeader refused refl
text_fault profile text sample (faults.TraceRow line) is_text refused = not_of_parts (parts_of sample profile text) (faults.TraceRow line) refused refl
text_fault profile text sample (faults.TraceOrder line) is_text refused = not_of_parts (parts_of sample profile text) (faults.TraceOrder line) refused refl
text_fault profile text sample faults.TraceTruncated is_text refused = not_of_parts (parts_of sample profile text) faults.TraceTruncated refused refl
text_fault profile text sample faults.TraceTooLong is_text refused = not_of_parts (parts_of sample profile text) faults.TraceTooLong refused refl
text_fault profile text sample faults.InputTooLong is_text refused = not_of_parts (parts_of sample profile text) faults.InputTooLong refused refl
text_fault profile text sample faults.InputNotUtf8 is_text refused = not_of_parts (parts_of sample profile text) faults.InputNotUtf8 refused refl
text_fault profile text sample _ is_text refused = (is_text, refused)

pub parts_fault : (remaining : Option (List ℕ)) (items text profile : List ℕ) (sample : Bool) (fault : Fault) → IfSome remaining (λ bytes. items ≡ bytes) → text ≡ items → IsText items → IsRefused (parts_of sample profile text) fault → IfSome remaining (λ input. HasCheckFault sample profile input fault)
parts_fault None items text profile sample fault known same is_text refused = tt
parts_fault (Some input) items text profile sample fault known same is_text refused =
    subst (λ i. HasCheckFault sample profile i fault) known
    (text_fault profile items sample fault is_text (subst (λ t. IsRefused (parts_of sample profile t) fault) same refused))

-- a body that is read is not refused as unreadable
pub not_read : {X : Type 0} (answer : Result X Fault) (refusal : TraceError) (A : Type 0) → answer ≡ Err (trace_fault_of refusal) → refusal ≢ error.Read → answer ≡ Err faults.Read → A
not_read answer error.Read A was other is = absurd (other refl)
not_read answer error.Write A was other is = absurd (let impossible = sym was ∙ is in cc)
not_read answer error.Header A was other is = absurd (let impossible = sym was ∙ is in cc)
not_read answer (error.Row line) A was other is = absurd (let impossible = sym was ∙ is in cc)
not_read answer (error.Order line) A was other is = absurd (let impossible = sym was ∙ is in cc)
not_read answer error.Truncated A was other is = absurd (let impossible = sym was ∙ is in cc)
not_read answer error.TooLong A was other is = absurd (let impossible = sym was ∙ is in cc)
not_read answer error.OutOfMemory A was other is = absurd (let impossible = sym was ∙ is in cc)

-- nor as one that can't be written
pub not_written : {X : Type 0} (answer : Result X Fault) (refusal : TraceError) (said : Result Recorded TraceError) (A : Type 0) → NotWrite said → IsAnswer said (Err refusal) → answer ≡ Err (trace_fault_of refusal) → answer ≡ Err faults.Write → A
unfolding NotWrite
not_written answer error.Write said A other_than told was is = absurd (subst NotWrite (sym told) other_than)
not_written answer error.Read said A other_than told was is = absurd (let impossible = sym was ∙ is in cc)
not_written answer error.Header said A other_than told was is = absurd (let impossible = sym was ∙ is in cc)
not_written answer (error.Row line) said A other_than told was is = absurd (let impossible = sym was ∙ is in cc)
not_written answer (error.Order line) said A other_than told was is = absurd (let impossible = sym was ∙ is in cc)
not_written answer error.Truncated said A other_than told was is = absurd (let impossible = sym was ∙ is in cc)
not_written answer error.TooLong said A other_than told was is = absurd (let impossible = sym was ∙ is in cc)
not_written answer error.OutOfMemory said A other_than told was is = absurd (let impossible = sym was ∙ is in cc)

-- the fault of a body that is refused
pub trace_fault : (remaining : Option (List ℕ)) (profile : List ℕ) (sample : Bool) (config : Config) (refusal : TraceError) (said : Result Recorded TraceError) → NotWrite said → IsAnswer said (Err refusal) → ((other : Result Recorded TraceError) → said ≡ other → IfSome remaining (λ input. SaysTrace sample profile input config other)) → IfSome remaining (λ input. HasCheckFault sample profile input (trace_fault_of refusal))
unfolding NotWrite
trace_fault None profile sample config refusal said other_than answer says = tt
trace_fault (Some input) profile sample config error.Read said other_than answer says = tt
trace_fault (Some input) profile sample config error.Write said other_than answer says = absurd (subst NotWrite (sym answer) other_than)
trace_fault (Some input) profile sample config error.OutOfMemory said other_than answer says = tt
trace_fault (Some input) profile sample config error.Header said other_than answer says = (config, says (Err error.Header) (sym answer))
trace_fault (Some input) profile sample config (error.Row line) said other_than answer says = (config, says (Err (error.Row line)) (sym answer))
trace_fault (Some input) profile sample config (error.Order line) said other_than answer says = (config, says (Err (error.Order line)) (sym answer))
trace_fault (Some input) profile sample config error.Truncated said other_than answer says = (config, says (Err error.Truncated) (sym answer))
trace_fault (Some input) profile sample config error.TooLong said other_than answer says = (config, says (Err error.TooLong) (sym answer))

turned : (some legal : Bool) → some ≡ not legal → legal ≡ not some
turned some true e = rw e refl
turned some false e = rw e refl

-- what was written is the verdict
pub trace_checked : (remaining : Option (List ℕ)) (profile : List ℕ) (sample : Bool) (config : Config) (trace : Recorded) (verdict : Option checker.Fault) (legal : Bool) (text : List ℕ) (old new : Option (List ℕ)) → IfSome remaining (λ input. SaysTrace sample profile input config (Ok trace)) → IsVerdict config trace verdict → text ≡ verdict_text verdict → Appends old new text → is_some verdict ≡ not legal
    → IfSome remaining (λ input. IsChecked sample profile input legal old new)
trace_checked None profile sample config trace verdict legal text old new says first same written answered = tt
trace_checked (Some input) profile sample config trace verdict legal text old new says first same written answered = record {
  config = config;
  trace = trace;
  says = says;
  verdict = verdict;
  first = first;
  written = subst (λ t. Appends old new t) same written;
  answered = turned (is_some verdict) legal answered;
}

-- a verdict that was not written
pub verdict_unwritten : (remaining : Option (List ℕ)) (profile : List ℕ) (sample : Bool) (config : Config) (trace : Recorded) (may_fail : Bool) (fault : Fault) → fault ≡ write_fault may_fail → IfSome remaining (λ input. SaysTrace sample profile input config (Ok trace)) → IfSome remaining (λ input. HasCheckFault sample profile input fault)
verdict_unwritten None profile sample config trace may_fail fault e says = tt
verdict_unwritten (Some input) profile sample config trace true fault e says = rw e (config, trace, says)
verdict_unwritten (Some input) profile sample config trace false fault e says = rw e tt
