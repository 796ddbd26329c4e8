-- The lines of a capture's body, one by one.
use Rattle.std.specs.Prelude.{◌≡◌, ℕ, ◌+◌, ◌≤◌, Bool, true, false, List, length, IfSome, Option, Result, Ok, Err}
use Rattle.std.specs.Str.Lines.{lines, strip_carriage_return}
use Rattle.ddr_timing.specs.declared.config.Config.{Config}
use Rattle.ddr_text.specs.declared.fault.Fault.{Fault}
use Rattle.ddr_text.specs.declared.fault.Fault.TheVariants as faults
use Rattle.ddr_text.specs.declared.fault.LineFault.TheVariants.{TooLong}
use Rattle.ddr_capture.specs.Captured.{HasRead, Read, captured, read_from}
use Rattle.ddr_capture.specs.Feed.{Along}
use Rattle.ddr_capture.specs.declared.feed.TheConstants.{MOST_LINES}
use Rattle.ddr_capture.specs.declared.feed.Found.{Found}
use Rattle.ddr_capture.specs.declared.feed.Found.TheVariants as found
use Rattle.ddr_capture.specs.declared.feed.Refusal.{Refusal}
use Rattle.ddr_capture.specs.declared.feed.Refusal.TheVariants as refusals
use Rattle.ddr_capture.specs.declared.form.Form.{Form}
use Rattle.ddr_capture.specs.declared.reading.Reading.{Reading}

-- a line without its end: a carriage return belongs to it where a line feed follows
abbrev pub text_of : Found → List ℕ → List ℕ
text_of found.Line line = strip_carriage_return line
text_of found.Last line = line
text_of found.End line = line

-- why the line of this number was not found
abbrev pub line_fault : ℕ → Refusal → Fault
line_fault line refusals.Line = faults.CaptureLine line TooLong
line_fault line refusals.Read = faults.Read
line_fault line refusals.OutOfMemory = faults.OutOfMemory

-- the body has this fault, or more lines than are counted; reading and memory fail by themselves
abbrev pub IsReadFault : Form → Config → ℕ → List ℕ → Fault → Type 0
IsReadFault form config start body (faults.CaptureLine line cause) = captured form config start body ≡ Err (faults.CaptureLine line cause)
IsReadFault form config start body (faults.CaptureOrder line) = captured form config start body ≡ Err (faults.CaptureOrder line)
IsReadFault form config start body faults.InputTooLong = MOST_LINES ≤ length (lines body)
IsReadFault form config start body faults.Read = Unit {0}
IsReadFault form config start body faults.OutOfMemory = Unit {0}
IsReadFault form config start body _ = ⊥

-- of the body so many lines were read to this, and the rest is left
pub record StandsAt (form : Form) (config : Config) (start count : ℕ) (read : Read) (body rest : List ℕ) : Type 0 where
  pub said : read_from form config.geometry.channels start count read (lines rest) ≡ captured form config start body
  pub counted : count + length (lines rest) ≡ length (lines body)

-- Behind a line more what is kept stands for that much, one command more at most than before; at the end it stands for all; or the
-- body has the fault. The body is known, or nothing is said of it.
abbrev pub IsNext : Reading → Form → Config → ℕ → ℕ → Read → Option (List ℕ) → Option (List ℕ) → Result Bool Fault → Type 0
IsNext next form config start count before a c (Ok false) =
    (read : Read) × HasRead next config start read × (length read.records ≤ length before.records + 1) × Along (StandsAt form config start (count + 1) read) a c
IsNext next form config start count before a c (Ok true) = HasRead next config start before × IfSome a (λ body. captured form config start body ≡ Ok before)
IsNext next form config start count before a c (Err fault) = IfSome a (λ body. IsReadFault form config start body fault)

-- what is kept stands for all that the body says, if that is known
pub record AreRead (r : Reading) (config : Config) (form : Form) (start : ℕ) (body : Option (List ℕ)) : Type 0 where
  pub read : Read
  pub has : HasRead r config start read
  pub said : IfSome body (λ text. captured form config start text ≡ Ok read)
