-- What is told of a capture: a verdict on each channel.
use Rattle.std.specs.Prelude.{◌≡◌, ℕ, ◌+◌, ◌<◌, ◌∷◌, ◌++◌, Bool, if◌then◌else◌, List, [], length, codes, Option, Some, None, is_none, is_some, slice_index_or, unwrap_or}
use Rattle.std.specs.Fmt.{decimal}
use Rattle.std.specs.List.{list_all}
use Rattle.ddr_timing.specs.declared.config.Config.{Config}
use Rattle.ddr_trace.specs.Names.{name_of}
use Rattle.ddr_judge.specs.declared.fault.Fault as judged
use Rattle.ddr_judge.specs.Records.{Record, of_channel}
use Rattle.ddr_judge.specs.Verdict.{IsVerdict}
use Rattle.ddr_text.specs.declared.command.Format.{Format}
use Rattle.ddr_text.specs.declared.command.Format.TheVariants.{Own, Dramsim3, Ramulator2}
use Rattle.ddr_capture.specs.declared.form.Form.{Form}

-- how many channels a capture of all is of: one in this project's own form
abbrev pub channels_in : Format → ℕ → ℕ
channels_in Own channels = 1
channels_in Dramsim3 channels = channels
channels_in Ramulator2 channels = channels

-- the first channel that is told
abbrev pub first_told : Form → ℕ
first_told form = unwrap_or form.channel 0

-- how many are told, of so many
abbrev pub told_channels : Form → ℕ → ℕ
told_channels form channels = if is_some form.channel then 1 else channels_in form.format channels

-- this project's own form: `legal`, or `fault PLACE RULE`
unfoldable pub own_text : Option judged.Fault → List ℕ
own_text None = codes "legal" ++ 10 ∷ []
own_text (Some fault) = codes "fault " ++ (decimal fault.place ++ (codes " " ++ (name_of fault.rule ++ 10 ∷ [])))

-- the line of the command, unless the trace's end is at fault
abbrev pub line_text : Option ℕ → List ℕ
line_text None = 10 ∷ []
line_text (Some line) = codes " line " ++ (decimal line ++ 10 ∷ [])

-- another form: `channel C legal`, or `channel C fault PLACE RULE line N`
unfoldable pub channel_text : ℕ → Option judged.Fault → List ℕ
channel_text channel None = codes "channel " ++ (decimal channel ++ (codes " legal" ++ 10 ∷ []))
channel_text channel (Some fault) =
    codes "channel " ++ (decimal channel ++ (codes " fault " ++ (decimal fault.place ++ (codes " " ++ (name_of fault.rule ++ line_text fault.line)))))

abbrev pub verdict_line : Format → ℕ → Option judged.Fault → List ℕ
verdict_line Own channel verdict = own_text verdict
verdict_line Dramsim3 channel verdict = channel_text channel verdict
verdict_line Ramulator2 channel verdict = channel_text channel verdict

-- a line for each channel from this one on
abbrev pub lines_from : Format → ℕ → List (Option judged.Fault) → List ℕ
lines_from format channel [] = []
lines_from format channel (verdict ∷ more) = verdict_line format channel verdict ++ lines_from format (channel + 1) more

abbrev pub report : Form → List (Option judged.Fault) → List ℕ
report form verdicts = lines_from form.format (first_told form) verdicts

-- of each channel from this one on its verdict, so many
pub record AreVerdicts (config : Config) (start end : ℕ) (records : List Record) (first channels : ℕ) (verdicts : List (Option judged.Fault)) : Type 0 where
  pub count : length verdicts ≡ channels
  pub each : (at : ℕ) → at < length verdicts → IsVerdict config start end (of_channel (first + at) records) (slice_index_or verdicts at None)

abbrev pub are_legal : List (Option judged.Fault) → Bool
are_legal verdicts = list_all is_none verdicts
