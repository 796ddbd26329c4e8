-- The commands of a capture, or its first line at fault.
use Rattle.std.specs.Prelude.{◌≡◌, ℕ, ◌+◌, ◌≤◌, ◌==◌, nat_lt, nat_le, if◌then◌else◌, List, [], ◌∷◌, ◌++◌, length, Option, Some, None, is_some, unwrap_or, Result, Ok, Err}
use Rattle.std.specs.Str.Lines.{lines}
use Rattle.ddr_timing.specs.declared.config.Config.{Config}
use Rattle.ddr_trace.specs.declared.command.Entry.{Entry}
use Rattle.ddr_judge.specs.Judged.{HasJudged}
use Rattle.ddr_judge.specs.Records.{Record, end_behind}
use Rattle.ddr_text.specs.declared.fault.Fault.{Fault}
use Rattle.ddr_text.specs.declared.fault.Fault.TheVariants.{CaptureLine, CaptureOrder, TraceNoSuch}
use Rattle.ddr_text.specs.declared.fault.LineFault.{LineFault}
use Rattle.ddr_text.specs.declared.fault.LineFault.TheVariants.{TooLong}
use Rattle.ddr_text.specs.Instructions.{◌>>>◌}
use Rattle.ddr_text.specs.Script.{is_skipped}
use Rattle.ddr_capture.specs.Form.{channel_of, is_missing}
use Rattle.ddr_capture.specs.Line.{said_of}
use Rattle.ddr_capture.specs.declared.feed.TheConstants.{LONGEST_LINE}
use Rattle.ddr_capture.specs.declared.form.Form.{Form}
use Rattle.ddr_capture.specs.declared.line.Said.{Said}
use Rattle.ddr_capture.specs.declared.line.Said.TheVariants as says
use Rattle.ddr_capture.specs.declared.reading.Reading.{Reading}

-- the commands of all channels so far, and END's cycle where it stood
pub record Read : Type 0 where
  pub records : List Record
  pub end : Option ℕ

abbrev pub nothing : Read
nothing = record { records = []; end = None }

-- what a line of this number says, or the body's fault
abbrev pub at_line : {X : Type 0} → ℕ → Result X LineFault → Result X Fault
at_line line (Ok x) = Ok x
at_line line (Err cause) = Err (CaptureLine line cause)

-- a command behind the others
abbrev pub with_record : ℕ → Read → Entry → ℕ → Read
with_record line read entry channel = record {
  records = read.records ++ record { channel = channel; entry = entry; line = line } ∷ [];
  end = read.end;
}

-- a command of the channel that its line names, if that is one of so many
abbrev pub with_command : Form → ℕ → ℕ → Read → Option ℕ → Entry → Result Read Fault
with_command form channels line read named entry =
    at_line line (channel_of form channels named) >>> λ channel. Ok (with_record line read entry channel)

-- END, which stands behind all commands
abbrev pub with_end : ℕ → ℕ → Read → ℕ → Result Read Fault
with_end start line read cycle =
    if nat_le (end_behind start read.records) cycle then Ok (record { records = read.records; end = Some cycle })
    else Err (CaptureOrder line)

abbrev pub with_said : Form → ℕ → ℕ → ℕ → Read → Said → Result Read Fault
with_said form channels start line read says.Nothing = Ok read
with_said form channels start line read (says.Command named entry) = with_command form channels line read named entry
with_said form channels start line read (says.End cycle) = with_end start line read cycle

-- a line that END does not stand before
abbrev pub with_open : Form → ℕ → ℕ → ℕ → Read → List ℕ → Result Read Fault
with_open form channels start line read text =
    at_line line (said_of form.format (line == 1) text) >>> with_said form channels start line read

-- a line that END stands before
abbrev pub with_closed : ℕ → Read → List ℕ → Result Read Fault
with_closed line read text = if is_skipped text then Ok read else Err (CaptureOrder line)

-- one line more, which has this number
abbrev pub with_line : Form → ℕ → ℕ → ℕ → Read → List ℕ → Result Read Fault
with_line form channels start line read text =
    if nat_lt LONGEST_LINE (length text) then Err (CaptureLine line TooLong)
    else if is_some read.end then with_closed line read text
    else with_open form channels start line read text

-- the lines behind so many, of which this was read
abbrev pub read_from : Form → ℕ → ℕ → ℕ → Read → List (List ℕ) → Result Read Fault
read_from form channels start count read [] = Ok read
read_from form channels start count read (text ∷ more) =
    with_line form channels start (count + 1) read text >>> λ next. read_from form channels start (count + 1) next more

-- What a body says in this form, or the first fault: that the one channel whose it is isn't there; `CaptureLine` at a line of no
-- form, one that is too long or one of a channel that is not there, `CaptureOrder` at an END that is not behind all commands or at
-- what stands behind END. Lines count from 1.
unfoldable pub captured : Form → Config → ℕ → List ℕ → Result Read Fault
captured form config start body =
    if is_missing form config.geometry.channels then Err TraceNoSuch
    else read_from form config.geometry.channels start 0 nothing (lines body)

-- the trace's end: END's cycle, or else the first cycle from the start on that is behind every command
abbrev pub end_in : ℕ → Read → ℕ
end_in start read = unwrap_or read.end (end_behind start read.records)

-- for this much stands what is kept
pub record HasRead (r : Reading) (config : Config) (start : ℕ) (read : Read) : Type 0 where
  pub judged : HasJudged r.judge config start read.records
  pub ended : r.end ≡ read.end
  pub behind : end_behind start read.records ≤ end_in start read

-- what is kept stands for what was said, one command more at most than before, or what was answered is the fault
abbrev pub IsStep : Reading → Config → ℕ → Read → Result (Unit {0}) Fault → Result Read Fault → Type 0
IsStep next config start before (Ok _) said = (read : Read) × HasRead next config start read × (said ≡ Ok read) × (length read.records ≤ length before.records + 1)
IsStep next config start before (Err fault) said = said ≡ Err fault

-- a line's fault
abbrev pub IsLineFault : ℕ → Fault → Type 0
IsLineFault line (CaptureLine at cause) = at ≡ line
IsLineFault line (CaptureOrder at) = at ≡ line
IsLineFault line _ = ⊥
