-- One line more of a capture.
use Rattle.std.proofs.Common.{◌≡◌, ℕ, ◌+◌, ◌<◌, ◌≤◌, Bool, true, false, List, [], ◌∷◌, ◌++◌, length, cond, Option, Some, None, Ok, Err, Result, ap, refl, arith, get_or, nat_lt, length-append, sym, subst, ◌∙◌}
use Rattle.std.proofs.lemmas.Bool.{le-leb, leb-false, ltb-false, ltb-true}
use Rattle.std.proofs.lemmas.List.{get_or_append_left}
use Rattle.std.proofs.Math.Seq.{get_or-append_seam}
use Rattle.ddr_timing.specs.declared.config.Config.{Config}
use Rattle.ddr_trace.specs.declared.command.Entry.{Entry}
use Rattle.ddr_judge.specs.declared.fault.Fault as judged
use Rattle.ddr_judge.specs.Records.{Record, end_behind, of_channel}
use Rattle.ddr_judge.specs.Verdict.{IsVerdict}
use Rattle.ddr_text.specs.declared.fault.Fault.{Fault}
use Rattle.ddr_text.specs.declared.fault.Fault.TheVariants as faults
use Rattle.ddr_text.specs.declared.fault.LineFault.{LineFault}
use Rattle.ddr_text.specs.Instructions.{◌>>>◌}
use Rattle.ddr_capture.specs.Captured.{Read, at_line, end_in, with_command, with_end, with_record}
use Rattle.ddr_capture.specs.Form.{channel_of, is_missing}
use Rattle.ddr_capture.specs.Report.{AreVerdicts, channels_in, first_told, told_channels}
use Rattle.ddr_text.specs.declared.command.Format.{Format}
use Rattle.ddr_text.specs.declared.command.Format.TheVariants.{Own, Dramsim3, Ramulator2}
use Rattle.ddr_capture.specs.declared.form.Form.{Form}

pub end_said : (start line cycle : ℕ) (read : Read) → end_behind start read.records ≤ cycle → with_end start line read cycle ≡ Ok (record { records = read.records; end = Some cycle })
end_said start line cycle read behind =
    let next : Read = record { records = read.records; end = Some cycle } in
    let all : Result Read Fault = Ok next in
    ap (λ (b : Bool). cond b all (Err (faults.CaptureOrder line))) (le-leb (end_behind start read.records) cycle behind)

pub command_said : (form : Form) (channels line : ℕ) (read : Read) (named : Option ℕ) (entry : Entry) (channel : ℕ) → channel_of form channels named ≡ Ok channel
    → with_command form channels line read named entry ≡ Ok (with_record line read entry channel)
command_said form channels line read named entry channel is =
    ap (λ (r : Result ℕ LineFault). at_line line r >>> λ c. Ok (with_record line read entry c)) is

pub command_refused : (form : Form) (channels line : ℕ) (read : Read) (named : Option ℕ) (entry : Entry) (cause : LineFault) → channel_of form channels named ≡ Err cause
    → with_command form channels line read named entry ≡ Err (faults.CaptureLine line cause)
command_refused form channels line read named entry cause is =
    ap (λ (r : Result ℕ LineFault). at_line line r >>> λ c. Ok (with_record line read entry c)) is

-- without END the trace ends behind all commands
pub open_behind : (start : ℕ) (next : Read) → next.end ≡ None → end_behind start next.records ≤ end_in start next
open_behind start next none = rw none (omega arith)

-- a verdict more
pub verdicts_none : (config : Config) (start end : ℕ) (records : List Record) (first : ℕ) → AreVerdicts config start end records first 0 []
verdicts_none config start end records first = record { count = refl; each = λ at below. absurd (omega (arith, below)) }

pub verdicts_more : (config : Config) (start end : ℕ) (records : List Record) (first channels : ℕ) (verdicts : List (Option judged.Fault)) (v : Option judged.Fault) → AreVerdicts config start end records first channels verdicts
    → IsVerdict config start end (of_channel (first + channels) records) v → AreVerdicts config start end records first (channels + 1) (verdicts ++ v ∷ [])
verdicts_more config start end records first channels verdicts v are is = record {
  count = omega (arith, length-append verdicts (v ∷ []), are.count);
  each = λ at below. by_place at below (nat_lt at (length verdicts)) refl;
}
  where
    by_place : (at : ℕ) → at < length (verdicts ++ v ∷ []) → (b : Bool) → nat_lt at (length verdicts) ≡ b → IsVerdict config start end (of_channel (first + at) records) (get_or (verdicts ++ v ∷ []) at None)
    by_place at below true e =
        let inside : at < length verdicts = ltb-true at (length verdicts) e in
        subst (λ (w : Option judged.Fault). IsVerdict config start end (of_channel (first + at) records) w) (sym (get_or_append_left verdicts (v ∷ []) None at inside)) (are.each at inside)
    by_place at below false e =
        let last : at ≡ length verdicts = omega (arith, below, length-append verdicts (v ∷ []), ltb-false at (length verdicts) e) in
        let here : get_or (verdicts ++ v ∷ []) at None ≡ v = ap (λ n. get_or (verdicts ++ v ∷ []) n None) last ∙ get_or-append_seam verdicts v [] None in
        subst (λ (w : Option judged.Fault). IsVerdict config start end (of_channel (first + at) records) w) (sym here)
        (subst (λ n. IsVerdict config start end (of_channel (first + n) records) v) (sym (last ∙ are.count)) is)

-- the channels that are told are there
told_of_all : (format : Format) (channels : ℕ) → 1 ≤ channels → channels_in format channels ≤ channels
told_of_all Own channels some = some
told_of_all Dramsim3 channels some = omega arith
told_of_all Ramulator2 channels some = omega arith

pub told_there : (format : Format) (only : Option ℕ) (channels : ℕ) → is_missing (record { format = format; channel = only }) channels ≡ false → 1 ≤ channels
    → first_told (record { format = format; channel = only }) + told_channels (record { format = format; channel = only }) channels ≤ channels
told_there format None channels there some = omega (arith, told_of_all format channels some)
told_there format (Some only) channels there some = omega (arith, leb-false channels only there)
