-- A whole run: a script's instructions, then rounds until nothing is outstanding, then the Ends.
use Rattle.std.specs.Prelude.{ℕ, ◌==◌, suc, zero, if◌then◌else◌, List, [], ◌∷◌, ◌++◌, slice_get, Option, Some, None, Ok, Err}
use Rattle.std.specs.Option.{option_map_or}
use Rattle.ddr_ports.specs.Asked.{Asked}
use Rattle.ddr_timing.specs.declared.config.Config.{Config}
use Rattle.ddr_trace_text.specs.Text.{trace_text}
use Rattle.ddr_world.specs.Events.{Submit, Take, End}
use Rattle.ddr_world.specs.State.{State, opened}
use Rattle.ddr_world.specs.Step.{Step, step}
use Rattle.ddr_rounds.specs.Rounds.{after, outstanding}
use Rattle.ddr_text.specs.declared.fault.Fault.TheVariants.{ScriptLimit}
use Rattle.ddr_sim.specs.Refusals.{refused_text}
use Rattle.ddr_sim.specs.Rounds.{Run, Course, stopped, ◌then◌, round, rounds}
use Rattle.ddr_text.specs.Script.{Instruction, Ask, Rounds}

-- the most rounds of a run
abbrev pub MOST_ROUNDS : ℕ
MOST_ROUNDS = 10000000

-- before the first instruction
abbrev pub begun : Config → Run
begun config = record { state = opened config 0 0; text = []; left = MOST_ROUNDS }

-- a request that is refused is printed with its cause
abbrev pub after_submit : ℕ → Run → Step → Run
after_submit p run (Ok m) = record run { state = m.state }
after_submit p run (Err cause) = record run { text = run.text ++ refused_text p cause }

abbrev pub submitted : ℕ → Asked → Run → Run
submitted p asked run = after_submit p run (step run.state (Submit p asked))

abbrev pub followed : Config → Instruction → Run → Course
followed config (Ask p asked) run = Ok (submitted p asked run)
followed config (Rounds n) run = rounds config n run

-- the instructions, in order
abbrev pub all_followed : Config → List Instruction → Run → Course
all_followed config [] run = Ok run
all_followed config (instruction ∷ more) run = followed config instruction run then all_followed config more

-- rounds while a number is outstanding, of so many that may be made
abbrev pub served_out : Config → ℕ → Run → Course
served_out config zero run = if outstanding run.state == 0 then Ok run else stopped ScriptLimit run
served_out config (suc n) run = if outstanding run.state == 0 then Ok run else round config run then served_out config n

-- the Ends of the first so many ports to a channel, each taken behind its push
abbrev pub ports_ended : ℕ → ℕ → State → State
ports_ended c zero s = s
ports_ended c (suc p) s = after (after (ports_ended c p s) (End p c)) (Take c)

-- the Ends of so many ports to the first so many channels
abbrev pub channels_ended : ℕ → ℕ → State → State
channels_ended ports zero s = s
channels_ended ports (suc c) s = ports_ended c ports (channels_ended ports c s)

abbrev pub ended : Config → Run → Run
ended config run = record run { state = channels_ended config.limits.ports config.geometry.channels run.state }

-- the instructions, then rounds while a number is outstanding, then the Ends
abbrev pub whole : Config → List Instruction → Run → Course
whole config instructions run =
    all_followed config instructions run then (λ next. served_out config next.left next) then λ last. Ok (ended config last)

-- a whole run
unfoldable pub run_of : Config → List Instruction → Course
run_of config instructions = whole config instructions (begun config)

-- the trace of a channel, as a text
abbrev pub channel_text : State → ℕ → List ℕ
channel_text s c = option_map_or (λ side. trace_text side.channel.trace side.channel.now) (slice_get s.channels c) []

-- What a run writes: all that it prints, or where a channel is named that channel's trace alone, which comes at the end.
abbrev pub written_by : Option ℕ → Course → List ℕ
written_by None (Ok run) = run.text
written_by None (Err stop) = stop.text
written_by (Some c) (Ok run) = channel_text run.state c
written_by (Some c) (Err stop) = []
