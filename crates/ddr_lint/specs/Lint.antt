-- What the command `lint` writes and answers.
use Rattle.std.specs.Prelude.{◌≡◌, ℕ, Bool, false, ◌==◌, List, length, Option, if◌then◌else◌}
use Rattle.std.specs.Io.KnownBytes.{Appends}
use Rattle.std.specs.Option.{option_map_or}
use Rattle.toml.specs.Data.{Members}
use Rattle.toml.specs.Parse.{parse_document}
use Rattle.ddr_findings.specs.Faults.{Told, faults_of}
use Rattle.ddr_findings.specs.Texts.{findings_text}
use Rattle.ddr_findings.specs.Warnings.{warnings_of}
use Rattle.ddr_findings.specs.declared.warning.Warning.{Warning}
use Rattle.ddr_text.specs.Body.{split_of}
use Rattle.ddr_text.specs.Input.{IsNoText, IsText, IsTooLong}
use Rattle.ddr_text.specs.declared.fault.Fault.{Fault}
use Rattle.ddr_text.specs.declared.fault.Fault.TheVariants as faults
use Rattle.ddr_lint.specs.declared.verdict.Verdict.{Verdict}
use Rattle.ddr_lint.specs.declared.verdict.Verdict.TheVariants.{AtFault, Clean, Strange}

-- the configuration of an input: what stands before the first line `---`, or all of it where no line is that
abbrev pub configuration_of : List ℕ → List ℕ
configuration_of text = option_map_or (λ parts. parts.0) (split_of text) text

-- the configuration that is looked through
abbrev pub looked_through : Bool → List ℕ → List ℕ → List ℕ
looked_through sample profile input = if sample then profile else configuration_of input

-- at fault where there is a fault, else strange where there is a warning
abbrev pub verdict_of : List Told → List Warning → Verdict
verdict_of faults warnings =
    if length faults == 0 then (if length warnings == 0 then Clean else Strange) else AtFault

-- the verdict on a text that is this table, or none, and the lines that tell why
abbrev pub verdict_on : Option Members → Verdict
verdict_on parsed = verdict_of (faults_of parsed) (warnings_of parsed)

abbrev pub report_of : Option Members → List ℕ
report_of parsed = findings_text (faults_of parsed) (warnings_of parsed)

-- the status that the program ends with
abbrev pub status_of : Verdict → ℕ
status_of Clean = 0
status_of Strange = 1
status_of AtFault = 2

-- what a lint that does not fail writes and answers
pub record IsLinted (sample : Bool) (profile input : List ℕ) (verdict : Verdict) (old new : Option (List ℕ)) : Type 0 where
  pub text : sample ≡ false → IsText input
  pub written : Appends old new (report_of (parse_document (looked_through sample profile input)))
  pub answered : verdict ≡ verdict_on (parse_document (looked_through sample profile input))

-- the input has the fault that a lint ends by; reading, writing and memory fail by themselves
abbrev pub HasLintFault : Bool → List ℕ → Fault → Type 0
HasLintFault sample input faults.InputTooLong = (sample ≡ false) × IsTooLong input
HasLintFault sample input faults.InputNotUtf8 = (sample ≡ false) × IsNoText input
HasLintFault sample input faults.Read = sample ≡ false
HasLintFault sample input faults.Write = Unit {0}
HasLintFault sample input faults.OutOfMemory = Unit {0}
HasLintFault sample input _ = ⊥
