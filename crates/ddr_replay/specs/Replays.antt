-- What the command `replay` writes, and by which faults it ends.
use Rattle.std.specs.Prelude.{◌≡◌, ◌⊎◌, ℕ, Bool, true, false, nat_le, if◌then◌else◌, List, [], ◌++◌, drop, map, max, slice_get, Option, Some, IfOk, Result, Ok, Err}
use Rattle.std.specs.Io.KnownBytes.{Appends}
use Rattle.std.specs.Option.{option_map_or}
use Rattle.ddr_timing.specs.declared.config.Config.{Config}
use Rattle.ddr_text.specs.declared.fault.Fault.{Fault}
use Rattle.ddr_text.specs.declared.fault.Fault.TheVariants as faults
use Rattle.ddr_replay.specs.Taken.{taken_of}
use Rattle.ddr_replay.specs.declared.order.Order.{Order}
use Rattle.ddr_replay.specs.declared.taken.Taking.{Taking}
use Rattle.ddr_replay.specs.declared.wanted.Wanted.{Wanted}
use Rattle.ddr_replay.specs.declared.wanted.Wanted.TheVariants as told
use Rattle.ddr_trace_text.specs.Text.{trace_text}
use Rattle.ddr_world.specs.State.{State}
use Rattle.ddr_capture.specs.Front.{IsConfigRefused, IsOpened}
use Rattle.ddr_text.specs.Instructions.{◌>>>◌}
use Rattle.ddr_replay.specs.declared.replaying.TheConstants.{MOST_ROUNDS}
use Rattle.ddr_stream.specs.declared.requests.Requests.{Requests}
use Rattle.ddr_stream.specs.Requests.{requests_in}
use Rattle.ddr_measure.specs.Series.{series_text}
use Rattle.ddr_measure.specs.Text.{measured_text}
use Rattle.ddr_measure.specs.declared.timed.Timed.{Timed}
use Rattle.ddr_ledger.specs.Drampower.{drampower_text}
use Rattle.ddr_ledger.specs.Measured.{timed_of}
use Rattle.ddr_ledger.specs.Numbers.{is_any_spent}
use Rattle.ddr_replay.specs.Report.{report_text}
use Rattle.ddr_replay.specs.Runs.{Run, begun, replayed, turns}
use Rattle.ddr_ledger.specs.ServedText.{served_text}
use Rattle.ddr_replay.specs.Stuck.{IsStuckBody}
use Rattle.ddr_replay.specs.Told.{comes_at_end, commands_of, keeps_served, said}
use Rattle.ddr_stream.specs.Stream.{Queues}

-- the statistics of a run at whose end no clock is spent
abbrev pub reported : Config → List Requests → Run → Result (List ℕ) Fault
reported config requests run =
    if is_any_spent run.state config.geometry.channels then Err faults.ClockSpent else Ok (report_text config requests run)

-- the requests of such a run
abbrev pub listed : Config → Run → Result (List ℕ) Fault
listed config run =
    let channels = config.geometry.channels in
    if is_any_spent run.state channels then Err faults.ClockSpent else Ok (served_text run.ledger.served)

-- the requests of such a run behind the first so many, as numbers are taken of them
abbrev pub requests_behind : Config → ℕ → Run → Result (List Timed) Fault
requests_behind config skip run =
    let channels = config.geometry.channels in
    if is_any_spent run.state channels then Err faults.ClockSpent
    else Ok (map timed_of (drop skip run.ledger.served))

-- the numbers of these
abbrev pub measured : Config → ℕ → Option ℕ → Run → Result (List ℕ) Fault
measured config skip clock run = requests_behind config skip run >>> λ requests. Ok (measured_text config.geometry.channels clock requests)

-- those of each interval of so many cycles, which are at least one
abbrev pub series : Config → ℕ → ℕ → Run → Result (List ℕ) Fault
series config skip every run = requests_behind config skip run >>> λ requests. Ok (series_text (max every 1) requests)

-- the trace of a channel, as a text
abbrev pub channel_text : State → ℕ → List ℕ
channel_text s c = option_map_or (λ side. trace_text side.channel.trace side.channel.now) (slice_get s.channels c) []

-- the commands of a channel, as DRAMPower reads them
abbrev pub channel_commands : State → ℕ → List ℕ
channel_commands s c = option_map_or (λ side. drampower_text side.channel.trace side.channel.now) (slice_get s.channels c) []

-- what is to be told of a run: its statistics, its requests, the trace of a channel in one of two forms, its numbers, or those of
-- intervals
abbrev pub told_of : Config → Wanted → List Requests → Run → Result (List ℕ) Fault
told_of config told.Statistics requests run = reported config requests run
told_of config told.Requests requests run = listed config run
told_of config (told.Trace channel) requests run = Ok (channel_text run.state channel)
told_of config (told.Drampower channel) requests run = Ok (channel_commands run.state channel)
told_of config (told.Numbers skip clock) requests run = measured config skip clock run
told_of config (told.Intervals skip every) requests run = series config skip every run

-- the commands are asked for of a channel that isn't there
abbrev pub names_no_channel : Config → Wanted → Bool
names_no_channel config (told.Trace channel) = nat_le config.geometry.channels channel
names_no_channel config (told.Drampower channel) = nat_le config.geometry.channels channel
names_no_channel config _ = false

-- what is told of the run that these requests come to, or why it ends before
abbrev pub told_behind : Config → Order → Wanted → Queues → Result (List ℕ) Fault
told_behind config order told queues =
    replayed config MOST_ROUNDS (begun config (keeps_served told) order queues) >>> λ run. told_of config told (map requests_in queues) run

-- What is told of a body: of the run that its requests come to. Or that the channel isn't there, the body's first line at fault,
-- or why the run ends before.
unfoldable pub report_of : Config → Taking → Wanted → List ℕ → Result (List ℕ) Fault
report_of config taking told body =
    if names_no_channel config told then Err faults.TraceNoSuch
    else taken_of config taking body >>> told_behind config taking.order told

-- what is answered, seen by the view, is what the body says, unless memory ran out
abbrev pub IsSaid : {X : Type 0} → (X → List ℕ) → Result X Fault → Result (List ℕ) Fault → Type 0
IsSaid view (Ok x) said = said ≡ Ok (view x)
IsSaid view (Err (faults.ReplayLine line cause)) said = said ≡ Err (faults.ReplayLine line cause)
IsSaid view (Err (faults.ReplayRange line)) said = said ≡ Err (faults.ReplayRange line)
IsSaid view (Err faults.InputTooLong) said = said ≡ Err faults.InputTooLong
IsSaid view (Err faults.TraceNoSuch) said = said ≡ Err faults.TraceNoSuch
IsSaid view (Err faults.ReplayLimit) said = said ≡ Err faults.ReplayLimit
IsSaid view (Err faults.ClockSpent) said = said ≡ Err faults.ClockSpent
IsSaid view (Err faults.OutOfMemory) said = Unit {0}
IsSaid view (Err _) said = ⊥

-- ---- what is written

-- The body has the fault that its replay ends by; reading and memory fail by themselves. Where writing fails at the end there is a text.
abbrev pub IsFaultOf : Config → Taking → Wanted → List ℕ → Fault → Type 0
IsFaultOf config taking told body (faults.ReplayLine line cause) = report_of config taking told body ≡ Err (faults.ReplayLine line cause)
IsFaultOf config taking told body (faults.ReplayRange line) = report_of config taking told body ≡ Err (faults.ReplayRange line)
IsFaultOf config taking told body faults.InputTooLong = report_of config taking told body ≡ Err faults.InputTooLong
IsFaultOf config taking told body faults.TraceNoSuch = report_of config taking told body ≡ Err faults.TraceNoSuch
IsFaultOf config taking told body faults.ReplayLimit = report_of config taking told body ≡ Err faults.ReplayLimit
IsFaultOf config taking told body (faults.ReplayStuck cycle) = IsStuckBody config taking (keeps_served told) body cycle
IsFaultOf config taking told body faults.ClockSpent = report_of config taking told body ≡ Err faults.ClockSpent
IsFaultOf config taking told body faults.Write = comes_at_end told ≡ true → (text : List ℕ) × (report_of config taking told body ≡ Ok text)
IsFaultOf config taking told body faults.Read = Unit {0}
IsFaultOf config taking told body faults.OutOfMemory = Unit {0}
IsFaultOf config taking told body _ = ⊥

-- what the body says was written, or it has the fault
abbrev pub IsReported : Config → Taking → Wanted → List ℕ → Option (List ℕ) → Option (List ℕ) → Result (Unit {0}) Fault → Type 0
IsReported config taking told body before after (Ok v) = (text : List ℕ) × (report_of config taking told body ≡ Ok text) × Appends before after text
IsReported config taking told body before after (Err fault) = IsFaultOf config taking told body fault

-- this is the beginning of what is told of a run that these requests come to by so many turns
pub record IsBeginningOf (config : Config) (order : Order) (told : Wanted) (text : List ℕ) (queues : Queues) : Type 0 where
  pub many : ℕ
  pub run : Run
  pub turns : turns config many (begun config (keeps_served told) order queues) ≡ Some run
  pub rest : List ℕ
  pub said : said told run.ledger.served (commands_of told run.state) ≡ text ++ rest

-- so it is, where no line of the body is at fault
abbrev pub IsBeginning : Config → Taking → Wanted → List ℕ → List ℕ → Type 0
IsBeginning config taking told body text = IfOk (taken_of config taking body) (IsBeginningOf config taking.order told text)

-- what was written where a replay ended by a fault; where writing failed it is not known
abbrev pub IsWritten : Config → Taking → Wanted → List ℕ → Fault → Option (List ℕ) → Option (List ℕ) → Type 0
IsWritten config taking told body fault before after = (fault ≡ faults.Write) ⊎ ((text : List ℕ) × Appends before after text × IsBeginning config taking told body text)

pub record IsInputBegun (sample : Bool) (profile : List ℕ) (taking : Taking) (told : Wanted) (input text : List ℕ) : Type 0 where
  pub config : Config
  pub body : List ℕ
  pub opened : IsOpened sample profile config input body
  pub begun : IsBeginning config taking told body text

-- nothing, where the configuration is at fault
abbrev pub HasWritten : Bool → List ℕ → Taking → Wanted → List ℕ → Fault → Option (List ℕ) → Option (List ℕ) → Type 0
HasWritten sample profile taking told input fault before after =
    (fault ≡ faults.Write) ⊎ ((text : List ℕ) × Appends before after text × ((text ≡ []) ⊎ IsInputBegun sample profile taking told input text))

-- a fault that comes before the first round, whatever is told: of the configuration, or of a channel that isn't there
abbrev pub is_before_rounds : Fault → Bool
is_before_rounds faults.ConfigSyntax = true
is_before_rounds (faults.ConfigMissing key) = true
is_before_rounds faults.ConfigUnknownKey = true
is_before_rounds (faults.ConfigRange key) = true
is_before_rounds (faults.ConfigNotPowerOfTwo key) = true
is_before_rounds (faults.ConfigRelation n) = true
is_before_rounds faults.InputNotUtf8 = true
is_before_rounds faults.InputHasNoMark = true
is_before_rounds faults.TraceNoSuch = true
is_before_rounds _ = false

-- what an input says: what is to be told of its body under its configuration, or why there is none
pub record Says (sample : Bool) (profile : List ℕ) (taking : Taking) (told : Wanted) (input : List ℕ) (said : Result (List ℕ) Fault) : Type 0 where
  pub config : Config
  pub body : List ℕ
  pub opened : IsOpened sample profile config input body
  pub report : report_of config taking told body ≡ said

-- an input whose replay can go on no more from this cycle on
pub record IsStuckInput (sample : Bool) (profile : List ℕ) (taking : Taking) (told : Wanted) (input : List ℕ) (cycle : ℕ) : Type 0 where
  pub config : Config
  pub body : List ℕ
  pub opened : IsOpened sample profile config input body
  pub stuck : IsStuckBody config taking (keeps_served told) body cycle

-- what a replay without a fault writes
pub record IsReplayed (sample : Bool) (profile : List ℕ) (taking : Taking) (told : Wanted) (input : List ℕ) (old new : Option (List ℕ)) : Type 0 where
  pub text : List ℕ
  pub says : Says sample profile taking told input (Ok text)
  pub written : Appends old new text

-- the input has a report
abbrev pub HasReport : Bool → List ℕ → Taking → Wanted → List ℕ → Type 0
HasReport sample profile taking told input = (text : List ℕ) × Says sample profile taking told input (Ok text)

-- the input has the fault that a replay ends by, in its configuration or behind it; where writing fails at the end it has a report, and
-- reading and memory fail by themselves
abbrev pub HasReplayFault : Bool → List ℕ → Taking → Wanted → List ℕ → Fault → Type 0
HasReplayFault sample profile taking told input (faults.ReplayLine line cause) = Says sample profile taking told input (Err (faults.ReplayLine line cause))
HasReplayFault sample profile taking told input (faults.ReplayRange line) = Says sample profile taking told input (Err (faults.ReplayRange line))
HasReplayFault sample profile taking told input faults.TraceNoSuch = Says sample profile taking told input (Err faults.TraceNoSuch)
HasReplayFault sample profile taking told input faults.ReplayLimit = Says sample profile taking told input (Err faults.ReplayLimit)
HasReplayFault sample profile taking told input (faults.ReplayStuck cycle) = IsStuckInput sample profile taking told input cycle
HasReplayFault sample profile taking told input faults.ClockSpent = Says sample profile taking told input (Err faults.ClockSpent)
HasReplayFault sample profile taking told input faults.InputTooLong = IsConfigRefused sample profile input faults.InputTooLong ⊎ Says sample profile taking told input (Err faults.InputTooLong)
HasReplayFault sample profile taking told input faults.Read = Unit {0}
HasReplayFault sample profile taking told input faults.Write = comes_at_end told ≡ true → HasReport sample profile taking told input
HasReplayFault sample profile taking told input faults.OutOfMemory = Unit {0}
HasReplayFault sample profile taking told input fault = IsConfigRefused sample profile input fault
