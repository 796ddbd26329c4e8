-- What the command `check --stream` writes.
use Rattle.std.specs.Prelude.{◌≡◌, ◌≤◌, ◌⊎◌, ℕ, Bool, List, length, Option, Result, Ok, Err}
use Rattle.std.specs.Io.KnownBytes.{Appends}
use Rattle.std.specs.Str.Lines.{lines}
use Rattle.ddr_timing.specs.declared.config.Config.{Config}
use Rattle.ddr_judge.specs.declared.fault.Fault as judged
use Rattle.ddr_text.specs.declared.fault.Fault.{Fault}
use Rattle.ddr_text.specs.declared.fault.Fault.TheVariants as faults
use Rattle.ddr_capture.specs.Captured.{Read, captured, end_in}
use Rattle.ddr_capture.specs.Front.{IsConfigRefused, IsOpened}
use Rattle.ddr_capture.specs.Report.{AreVerdicts, are_legal, first_told, report, told_channels}
use Rattle.ddr_capture.specs.declared.feed.TheConstants.{MOST_LINES}
use Rattle.ddr_capture.specs.declared.form.Form.{Form}

-- what an input says: its configuration, and the commands of its body or the fault that comes first in it
pub record SaysCapture (sample : Bool) (profile : List ℕ) (form : Form) (start : ℕ) (input : List ℕ) (config : Config) (said : Result Read Fault) : Type 0 where
  pub body : List ℕ
  pub opened : IsOpened sample profile config input body
  pub read : captured form config start body ≡ said

-- the verdicts on the channels that are told
pub record AreJudged (sample : Bool) (profile : List ℕ) (form : Form) (start : ℕ) (input : List ℕ) (verdicts : List (Option judged.Fault)) : Type 0 where
  pub config : Config
  pub read : Read
  pub says : SaysCapture sample profile form start input config (Ok read)
  pub each : AreVerdicts config start (end_in start read) read.records (first_told form) (told_channels form config.geometry.channels) verdicts

-- what a check without a fault writes and answers
pub record IsCaptured (sample : Bool) (profile : List ℕ) (form : Form) (start : ℕ) (input : List ℕ) (legal : Bool) (old new : Option (List ℕ)) : Type 0 where
  pub verdicts : List (Option judged.Fault)
  pub judged : AreJudged sample profile form start input verdicts
  pub written : Appends old new (report form verdicts)
  pub answered : legal ≡ are_legal verdicts

-- the body says commands, on which there are verdicts
abbrev pub HasCapture : Bool → List ℕ → Form → ℕ → List ℕ → Type 0
HasCapture sample profile form start input = (config : Config) × (read : Read) × SaysCapture sample profile form start input config (Ok read)

-- the body is refused so
abbrev pub RefusesCapture : Bool → List ℕ → Form → ℕ → List ℕ → Fault → Type 0
RefusesCapture sample profile form start input fault = (config : Config) × SaysCapture sample profile form start input config (Err fault)

-- the body has more lines than are counted, 2^64 - 2 or more
abbrev pub HasTooManyLines : Bool → List ℕ → List ℕ → Type 0
HasTooManyLines sample profile input = (config : Config) × (body : List ℕ) × IsOpened sample profile config input body × (MOST_LINES ≤ length (lines body))

-- the input has the fault that a check ends by; where writing fails there are verdicts
abbrev pub HasCaptureFault : Bool → List ℕ → Form → ℕ → List ℕ → Fault → Type 0
HasCaptureFault sample profile form start input (faults.CaptureLine line cause) = RefusesCapture sample profile form start input (faults.CaptureLine line cause)
HasCaptureFault sample profile form start input (faults.CaptureOrder line) = RefusesCapture sample profile form start input (faults.CaptureOrder line)
HasCaptureFault sample profile form start input faults.TraceNoSuch = RefusesCapture sample profile form start input faults.TraceNoSuch
HasCaptureFault sample profile form start input faults.InputTooLong = IsConfigRefused sample profile input faults.InputTooLong ⊎ HasTooManyLines sample profile input
HasCaptureFault sample profile form start input faults.Write = HasCapture sample profile form start input
HasCaptureFault sample profile form start input fault = IsConfigRefused sample profile input fault
