-- The command line of the program, and the job that its words state.
use Rattle.std.specs.Prelude.{◌≡◌, ℕ, Bool, true, false, not, ◌&&◌, ◌||◌, nat_lt, ◌==◌, if◌then◌else◌, List, [], ◌∷◌, length, codes, pos, IfSome, Option, Some, None, is_some, option_map, unwrap_or, Result, Ok, Err}
use Rattle.std.specs.Option.{option_map_or}
use Rattle.std.specs.Str.{bytes_eq}
use Rattle.std.specs.Str.Parse.{digits_value, without_leading_plus}
use Rattle.clap.specs.Facts.{parser_of_value}
use Rattle.clap.specs.Simple.{filled}
use Rattle.clap.specs.ValueTests.{accepts}
use Rattle.clap.specs.Walk.{reading_by}
use Rattle.clap.specs.Words.{App, HasKind, Kinds, Row, Rule, Text, fault_of, kind_of, new_app, new_rule, one_of, read_as, subcommand_of, with_rule, with_subcommand}
use Rattle.clap.specs.declared.builder.ArgAction.TheVariants.{SetTrue}
use Rattle.clap.specs.declared.builder.value_parser.ValueParser.TheVariants as parser
use Rattle.clap.specs.declared.error.Error.{Error}
use Rattle.clap.specs.declared.error.kind.ErrorKind.TheVariants.{OutOfMemory}
use Rattle.ddr_words.specs.declared.job.JobError.{JobError}
use Rattle.ddr_words.specs.declared.job.JobError.TheVariants as errors
use Rattle.ddr_words.specs.declared.misuse.Misuse.{Misuse}
use Rattle.ddr_words.specs.declared.misuse.Misuse.TheVariants.{TwoForms, SpreadOfOwnForm, FirstOfNoCycles, RequestsBesideTrace, DrampowerBesideOthers, NumbersBesideOthers, PartOfNumbers, ClockOfNoTime, IntervalOfNoCycle, ClockOfIntervals, FaultsOfCapture, ChannelOfOwnForm, PartOfWaves}
use Rattle.ddr_words.specs.declared.command.Job.{Job}
use Rattle.ddr_words.specs.declared.command.Job.TheVariants.{Sim, Run, Replay, Measure, Check, Explain, All, Stream, Draw, Map, Lint, Bound}
use Rattle.ddr_text.specs.declared.command.Format.{Format}
use Rattle.ddr_text.specs.declared.command.Format.TheVariants.{Own, Dramsim3, Ramulator2}
use Rattle.ddr_words.specs.declared.command.Picture.{Picture}
use Rattle.ddr_words.specs.declared.command.Picture.TheVariants.{Waves, Lanes}
use Rattle.ddr_text.specs.declared.command.Reading.{Reading}
use Rattle.ddr_text.specs.declared.command.Told.{Told}
use Rattle.ddr_text.specs.declared.command.Told.TheVariants.{Statistics, Requests, Trace, Drampower}

-- a flag of this name
abbrev pub flag_rule : Text → Rule
flag_rule name = record (new_rule name) { long = Some name; action = Some SetTrue }

-- the flag `--sample`
abbrev pub sample_rule : Rule
sample_rule = flag_rule (codes "sample")

-- the flag `--explain`
abbrev pub explain_rule : Rule
explain_rule = flag_rule (codes "explain")

-- the flag `--all`
abbrev pub all_rule : Rule
all_rule = flag_rule (codes "all")

-- an option of this name, with a value
abbrev pub value_rule : Text → Rule
value_rule name = record (new_rule name) { long = Some name; value_names = 1 }

-- whose value is below 2^32
abbrev pub number_rule : Text → Rule
number_rule name = record (value_rule name) { parser = Some (parser.Signed (pos 0) (pos 4294967295)) }

-- whose value is a cycle, below 2^64
abbrev pub cycle_rule : Text → Rule
cycle_rule name = record (value_rule name) { parser = Some (parser.Unsigned 0 18446744073709551615) }

-- the option `--trace`
abbrev pub trace_rule : Rule
trace_rule = number_rule (codes "trace")

-- the option `--drampower`
abbrev pub drampower_rule : Rule
drampower_rule = number_rule (codes "drampower")

-- the option `--most`
abbrev pub most_rule : Rule
most_rule = number_rule (codes "most")

-- the flag `--dramsim3`
abbrev pub dramsim3_rule : Rule
dramsim3_rule = flag_rule (codes "dramsim3")

-- the flag `--ramulator2`
abbrev pub ramulator2_rule : Rule
ramulator2_rule = flag_rule (codes "ramulator2")

-- the flag `--spread`
abbrev pub spread_rule : Rule
spread_rule = flag_rule (codes "spread")

-- the flag `--wrap`
abbrev pub wrap_rule : Rule
wrap_rule = flag_rule (codes "wrap")

-- the flag `--from-first`
abbrev pub from_first_rule : Rule
from_first_rule = flag_rule (codes "from-first")

-- the flag `--fair`
abbrev pub fair_rule : Rule
fair_rule = flag_rule (codes "fair")

-- the flag `--requests`
abbrev pub requests_rule : Rule
requests_rule = flag_rule (codes "requests")

-- the flag `--numbers`
abbrev pub numbers_rule : Rule
numbers_rule = flag_rule (codes "numbers")

-- the option `--skip`
abbrev pub skip_rule : Rule
skip_rule = number_rule (codes "skip")

-- the option `--tck`
abbrev pub clock_rule : Rule
clock_rule = number_rule (codes "tck")

-- the option `--every`
abbrev pub every_rule : Rule
every_rule = number_rule (codes "every")

-- the flag `--progress`
abbrev pub progress_rule : Rule
progress_rule = flag_rule (codes "progress")

-- the flag `--stream`
abbrev pub stream_rule : Rule
stream_rule = flag_rule (codes "stream")

-- the option `--start`
abbrev pub start_rule : Rule
start_rule = cycle_rule (codes "start")

-- the option `--channel`
abbrev pub channel_rule : Rule
channel_rule = number_rule (codes "channel")

-- the flag `--svg`
abbrev pub svg_rule : Rule
svg_rule = flag_rule (codes "svg")

-- the option `--from`
abbrev pub from_rule : Rule
from_rule = cycle_rule (codes "from")

-- the option `--to`
abbrev pub to_rule : Rule
to_rule = cycle_rule (codes "to")

-- the flag `--bound`
abbrev pub bound_rule : Rule
bound_rule = flag_rule (codes "bound")

-- a subcommand with the flag
abbrev pub with_sample : Text → App
with_sample name = with_rule (new_app name) sample_rule

-- a subcommand with the options that say which faults are told
abbrev pub with_faults : App → App
with_faults app = with_rule (with_rule (with_rule app explain_rule) all_rule) most_rule

-- a subcommand with the options that say how captured commands are read
abbrev pub with_capture : App → App
with_capture app = with_rule (with_rule (with_rule (with_rule (with_rule app stream_rule) dramsim3_rule) ramulator2_rule) start_rule) channel_rule

-- the subcommand `check`, with its own options behind the flag
abbrev pub check_app : App
check_app = with_capture (with_faults (with_sample (codes "check")))

-- a subcommand with the options that say how a stream is taken
abbrev pub with_reading : App → App
with_reading app = with_rule (with_rule (with_rule (with_rule (with_rule (with_rule app dramsim3_rule) ramulator2_rule) spread_rule) wrap_rule) from_first_rule) fair_rule

-- a subcommand with the options that say what is told of a replay
abbrev pub with_telling : App → App
with_telling app = with_rule (with_rule (with_rule (with_rule app requests_rule) trace_rule) drampower_rule) progress_rule

-- a subcommand with the options that say which numbers are told of a replay
abbrev pub with_numbers : App → App
with_numbers app = with_rule (with_rule (with_rule (with_rule app numbers_rule) skip_rule) clock_rule) every_rule

-- the subcommand `replay`, with its own options behind the flag
abbrev pub replay_app : App
replay_app = with_numbers (with_telling (with_reading (with_sample (codes "replay"))))

-- the subcommand `draw`, with its own flag and its options behind
abbrev pub draw_app : App
draw_app = with_rule (with_rule (with_rule (with_sample (codes "draw")) svg_rule) from_rule) to_rule

-- the subcommand `lint`, with its own flag behind
abbrev pub lint_app : App
lint_app = with_rule (with_sample (codes "lint")) bound_rule

-- the program's name, which a subcommand has to follow
abbrev pub name_alone : App
name_alone = let app = new_app (codes "ddr") in
    record app { top = record app.top { subcommand_required = true; disable_help_subcommand = true } }

-- the command line: one of seven subcommands
unfoldable pub ddr_app : App
ddr_app =
    let sim = with_subcommand name_alone (with_rule (with_sample (codes "sim")) trace_rule).top in
    let run = with_subcommand sim (with_sample (codes "run")).top in
    let replay = with_subcommand run replay_app.top in
    let check = with_subcommand replay check_app.top in
    let draw = with_subcommand check draw_app.top in
    let map = with_subcommand draw (with_sample (codes "map")).top in
    with_subcommand map lint_app.top

-- whether the flag was used
abbrev pub is_used : Text → List Row → Bool
is_used flag options = option_map_or (λ text. bytes_eq text (codes "true")) (one_of flag options) false

abbrev pub is_sample : List Row → Bool
is_sample = is_used (codes "sample")

-- the number of the option, if that was used
abbrev pub number_in : Text → List Row → Option ℕ
number_in name options = option_map (λ text. digits_value 10 (without_leading_plus text)) (one_of name options)

-- the channel of `--trace`
abbrev pub trace_of : List Row → Option ℕ
trace_of = number_in (codes "trace")

-- the channel of `--drampower`
abbrev pub drampower_of : List Row → Option ℕ
drampower_of = number_in (codes "drampower")

-- how many faults `--most` asks for
abbrev pub most_of : List Row → Option ℕ
most_of = number_in (codes "most")

-- the cycle that `--start` names
abbrev pub start_of : List Row → Option ℕ
start_of = number_in (codes "start")

-- the channel of `--channel`
abbrev pub channel_of : List Row → Option ℕ
channel_of = number_in (codes "channel")

-- whether the form of another simulator is named
abbrev pub names_form : List Row → Bool
names_form options = is_used (codes "dramsim3") options || is_used (codes "ramulator2") options

-- whether the forms of both are named
abbrev pub names_two_forms : List Row → Bool
names_two_forms options = is_used (codes "dramsim3") options && is_used (codes "ramulator2") options

-- the format that the flags name, or the program's own
abbrev pub format_of : List Row → Format
format_of options = if is_used (codes "dramsim3") options then Dramsim3 else if is_used (codes "ramulator2") options then Ramulator2 else Own

-- how the stream of `replay` is read
abbrev pub reading_of : List Row → Reading
reading_of options = record { format = format_of options; spread = is_used (codes "spread") options; wrap = is_used (codes "wrap") options }

-- what `replay` tells
abbrev pub told_of : List Row → Told
told_of options =
    option_map_or (λ channel. Trace channel) (trace_of options)
    (option_map_or (λ channel. Drampower channel) (drampower_of options) (if is_used (codes "requests") options then Requests else Statistics))

-- whether `check` reads captured commands; `--start`, `--channel` and the name of a format ask for that by themselves
abbrev pub is_streamed : List Row → Bool
is_streamed options = is_used (codes "stream") options || is_used (codes "dramsim3") options || is_used (codes "ramulator2") options || is_some (start_of options) || is_some (channel_of options)

-- what `draw` draws
abbrev pub picture_of : List Row → Picture
picture_of options = if is_used (codes "svg") options then Lanes (number_in (codes "from") options) (number_in (codes "to") options) else Waves

-- the text is that of a value that the rule's parser takes
abbrev pub IsTaken : Rule → Text → Type 0
IsTaken rule text = (value : Text) × (text ≡ read_as (reading_by rule) value)
    × (accepts rule.ignore_case (parser_of_value rule.parser) value ≡ true)

-- the options have only texts that their parsers take, as `clap` reads no others
pub record AreTaken (options : List Row) : Type 0 where
  pub sample : IfSome (one_of (codes "sample") options) (IsTaken (filled sample_rule))
  pub trace : IfSome (one_of (codes "trace") options) (IsTaken (filled trace_rule))
  pub explain : IfSome (one_of (codes "explain") options) (IsTaken (filled explain_rule))
  pub all : IfSome (one_of (codes "all") options) (IsTaken (filled all_rule))
  pub most : IfSome (one_of (codes "most") options) (IsTaken (filled most_rule))
  pub dramsim3 : IfSome (one_of (codes "dramsim3") options) (IsTaken (filled dramsim3_rule))
  pub ramulator2 : IfSome (one_of (codes "ramulator2") options) (IsTaken (filled ramulator2_rule))
  pub spread : IfSome (one_of (codes "spread") options) (IsTaken (filled spread_rule))
  pub wrap : IfSome (one_of (codes "wrap") options) (IsTaken (filled wrap_rule))
  pub from_first : IfSome (one_of (codes "from-first") options) (IsTaken (filled from_first_rule))
  pub fair : IfSome (one_of (codes "fair") options) (IsTaken (filled fair_rule))
  pub requests : IfSome (one_of (codes "requests") options) (IsTaken (filled requests_rule))
  pub drampower : IfSome (one_of (codes "drampower") options) (IsTaken (filled drampower_rule))
  pub progress : IfSome (one_of (codes "progress") options) (IsTaken (filled progress_rule))
  pub numbers : IfSome (one_of (codes "numbers") options) (IsTaken (filled numbers_rule))
  pub skip : IfSome (one_of (codes "skip") options) (IsTaken (filled skip_rule))
  pub clock : IfSome (one_of (codes "tck") options) (IsTaken (filled clock_rule))
  pub every : IfSome (one_of (codes "every") options) (IsTaken (filled every_rule))
  pub stream : IfSome (one_of (codes "stream") options) (IsTaken (filled stream_rule))
  pub start : IfSome (one_of (codes "start") options) (IsTaken (filled start_rule))
  pub channel : IfSome (one_of (codes "channel") options) (IsTaken (filled channel_rule))
  pub svg : IfSome (one_of (codes "svg") options) (IsTaken (filled svg_rule))
  pub from : IfSome (one_of (codes "from") options) (IsTaken (filled from_rule))
  pub to : IfSome (one_of (codes "to") options) (IsTaken (filled to_rule))
  pub bound : IfSome (one_of (codes "bound") options) (IsTaken (filled bound_rule))

abbrev pub is_subcommand : Text → Bool
is_subcommand name = bytes_eq name (codes "sim") || bytes_eq name (codes "run") || bytes_eq name (codes "replay") || bytes_eq name (codes "check") || bytes_eq name (codes "draw") || bytes_eq name (codes "map") || bytes_eq name (codes "lint")

-- the job of the subcommand `replay`
abbrev pub replay_job : List Row → Bool → Job
replay_job options sample =
    if is_used (codes "numbers") options then Measure sample (reading_of options) (is_used (codes "from-first") options) (is_used (codes "fair") options) (unwrap_or (number_in (codes "skip") options) 0) (number_in (codes "tck") options) (number_in (codes "every") options) (is_used (codes "progress") options)
    else Replay sample (reading_of options) (is_used (codes "from-first") options) (is_used (codes "fair") options) (told_of options) (is_used (codes "progress") options)

-- the job of `check` on a whole trace; who asks for the first faults asks for all, which tell more than an explanation
abbrev pub faults_job : List Row → Bool → Job
faults_job options sample =
    if is_used (codes "all") options || is_some (most_of options) then All sample (most_of options)
    else if is_used (codes "explain") options then Explain sample
    else Check sample

-- the job of the subcommand `check`
abbrev pub check_job : List Row → Bool → Job
check_job options sample =
    if is_streamed options then Stream sample (format_of options) (unwrap_or (start_of options) 0) (channel_of options)
    else faults_job options sample

-- the job of the subcommand `lint`
abbrev pub lint_job : List Row → Bool → Job
lint_job options sample = if is_used (codes "bound") options then Bound sample else Lint sample

-- the job of a subcommand with these options
abbrev pub job_with : Text → List Row → Job
job_with name options =
    if bytes_eq name (codes "sim") then Sim (is_sample options) (trace_of options)
    else if bytes_eq name (codes "run") then Run (is_sample options)
    else if bytes_eq name (codes "replay") then replay_job options (is_sample options)
    else if bytes_eq name (codes "check") then check_job options (is_sample options)
    else if bytes_eq name (codes "draw") then Draw (is_sample options) (picture_of options)
    else if bytes_eq name (codes "map") then Map (is_sample options)
    else lint_job options (is_sample options)

-- the number is there, and 0
abbrev pub is_zero : Option ℕ → Bool
is_zero (Some number) = number == 0
is_zero None = false

-- whether a replay is asked for its requests or for the commands of a channel
abbrev pub tells_others : List Row → Bool
tells_others options = is_used (codes "requests") options || is_some (trace_of options) || is_some (drampower_of options)

-- whether an option is used that says which numbers are told, or how
abbrev pub tells_part : List Row → Bool
tells_part options = is_some (number_in (codes "skip") options) || is_some (number_in (codes "tck") options) || is_some (number_in (codes "every") options)

-- of the numbers of a replay: something else to be told too; a part of them, where none are told; a clock of no time; intervals of no
-- cycle; a clock of intervals, which are told in clocks
abbrev pub numbers_misuse : List Row → Option Misuse
numbers_misuse options =
    if is_used (codes "numbers") options && tells_others options then Some NumbersBesideOthers
    else if not (is_used (codes "numbers") options) && tells_part options then Some PartOfNumbers
    else if is_zero (number_in (codes "tck") options) then Some ClockOfNoTime
    else if is_zero (number_in (codes "every") options) then Some IntervalOfNoCycle
    else if is_some (number_in (codes "tck") options) && is_some (number_in (codes "every") options) then Some ClockOfIntervals
    else None

-- of `replay`: both other forms; ports in turn, where lines name their ports; a first cycle, where lines have none; two things to be told
abbrev pub replay_misuse : List Row → Option Misuse
replay_misuse options =
    if names_two_forms options then Some TwoForms
    else if is_used (codes "spread") options && not (names_form options) then Some SpreadOfOwnForm
    else if is_used (codes "from-first") options && is_used (codes "ramulator2") options then Some FirstOfNoCycles
    else if is_used (codes "requests") options && is_some (trace_of options) then Some RequestsBesideTrace
    else if is_some (drampower_of options) && (is_used (codes "requests") options || is_some (trace_of options)) then Some DrampowerBesideOthers
    else numbers_misuse options

-- whether more is asked for than the first fault
abbrev pub tells_faults : List Row → Bool
tells_faults options = is_used (codes "explain") options || is_used (codes "all") options || is_some (most_of options)

-- of `check`: both other forms; more than the first faults of captured commands; a channel, where there is one
abbrev pub check_misuse : List Row → Option Misuse
check_misuse options =
    if names_two_forms options then Some TwoForms
    else if is_streamed options && tells_faults options then Some FaultsOfCapture
    else if is_some (channel_of options) && not (names_form options) then Some ChannelOfOwnForm
    else None

-- of `draw`: a part of the trace, where waves are drawn
abbrev pub draw_misuse : List Row → Option Misuse
draw_misuse options =
    if (is_some (number_in (codes "from") options) || is_some (number_in (codes "to") options)) && not (is_used (codes "svg") options) then Some PartOfWaves
    else None

-- the first option of a subcommand that would have no effect, if there is one
abbrev pub misuse_of : Text → List Row → Option Misuse
misuse_of name options =
    if bytes_eq name (codes "replay") then replay_misuse options
    else if bytes_eq name (codes "check") then check_misuse options
    else if bytes_eq name (codes "draw") then draw_misuse options
    else None

-- what a subcommand with these options says: its job, unless an option would have no effect
abbrev pub said_by : Text → List Row → Result Job Misuse
said_by name options = option_map_or Err (misuse_of name options) (Ok (job_with name options))

-- the kinds of error that the command line gives at the words, and where it gives none what they say; a subcommand is required
abbrev pub job_or : Kinds → Option (Text × List Row) → Result (Result Job Misuse) Kinds
job_or [] None = Err []
job_or [] (Some subcommand) = Ok (said_by subcommand.0 subcommand.1)
job_or (kind ∷ kinds) subcommand = Err (kind ∷ kinds)

-- the job that the words state or the option that would have no effect, or the kinds of error that they may give; the first word
-- is the program's name
unfoldable pub job_of : List Text → Result (Result Job Misuse) Kinds
job_of words =
    if nat_lt (length words) 2 then Ok (Ok (Sim true None))
    else job_or (fault_of ddr_app words) (subcommand_of ddr_app words)

-- what is read is what was said; an error has one of the kinds, unless memory ran out
abbrev pub Reads : {X : Type 0} → Result X Error → Result X Kinds → Type 0
Reads (Ok x) said = said ≡ Ok x
Reads (Err error) (Ok x) = kind_of error ≡ OutOfMemory
Reads (Err error) (Err kinds) = HasKind kinds error

-- what is answered is what was said
abbrev pub Answers : Result Job JobError → Result (Result Job Misuse) Kinds → Type 0
Answers (Ok job) said = said ≡ Ok (Ok job)
Answers (Err (errors.Misuse misuse)) said = said ≡ Ok (Err misuse)
Answers (Err (errors.Words error)) said = Reads (Err error) said
