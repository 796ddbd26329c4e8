-- The events of rounds, and that they leave nothing done.
use Rattle.std.specs.Prelude.{◌≡◌, ℕ, suc, zero, List, [], ◌∷◌, ◌++◌, Some, IsSome, Ok, Err, fold, slice_get}
use Rattle.std.specs.Option.{option_map_or}
use Rattle.ddr_timing.specs.declared.config.Config.{Config}
use Rattle.ddr_rounds.specs.Rounds.{channels_served, items_of, ports_collected, round, rounds, until_refused}
use Rattle.ddr_world.specs.Events.{Event, Take, Cycle, Deliver, Collect}
use Rattle.ddr_world.specs.History.{Answered, History, after}
use Rattle.ddr_world.specs.Record.{IsRecord}
use Rattle.ddr_world.specs.State.{ChannelSide, State}
use Rattle.ddr_world.specs.Step.{Step, step}
use Rattle.ddr_core_deadline.specs.InCore.{TakesAllIn}

-- in no channel a completion is left
abbrev pub NoneDone : State → Type 0
NoneDone s = (c : ℕ) (side : ChannelSide) → slice_get s.channels c ≡ Some side → side.channel.done ≡ []

abbrev pub IsNoCycle : Event → Type 0
IsNoCycle (Cycle c) = ⊥
IsNoCycle _ = Unit {0}

-- an event, and what comes behind it, if it is made
abbrev pub made_then : (State → List Answered) → Event → Step → List Answered
made_then later event (Ok m) = record { event = event; answer = Ok m.outcome } ∷ later m.state
made_then later event (Err cause) = []

-- an event at most so many times, until it is refused (`repeated`)
abbrev pub events_repeated : ℕ → Event → State → List Answered
events_repeated zero event s = []
events_repeated (suc n) event s = made_then (events_repeated n event) event (step s event)

abbrev pub events_until_refused : Event → State → List Answered
events_until_refused event s = events_repeated (items_of s event) event s

-- those of a channel's part of a round (`channel_served`)
abbrev pub events_of_channel : ℕ → State → List Answered
events_of_channel c s =
    events_until_refused (Take c) s
    ++ made_then (events_until_refused (Deliver c)) (Cycle c) (step (until_refused (Take c) s) (Cycle c))

-- of the first so many channels, in order
abbrev pub events_of_channels : ℕ → State → List Answered
events_of_channels zero s = []
events_of_channels (suc c) s = events_of_channels c s ++ option_map_or (events_of_channel c) (channels_served c s) []

-- of the first so many ports, in order
abbrev pub events_of_ports : ℕ → State → List Answered
events_of_ports zero s = []
events_of_ports (suc p) s = events_of_ports p s ++ events_until_refused (Collect p) (ports_collected p s)

abbrev pub events_of_round : Config → State → List Answered
events_of_round config s =
    events_of_channels config.geometry.channels s
    ++ option_map_or (events_of_ports config.limits.ports) (channels_served config.geometry.channels s) []

abbrev pub events_of_rounds : Config → ℕ → State → List Answered
events_of_rounds config zero s = []
events_of_rounds config (suc n) s = events_of_round config s ++ option_map_or (events_of_rounds config n) (round config s) []

-- what a host makes of a core: so many rounds, or an event between them
pub data Stretch : Type 0 where
  Rounds : ℕ → Stretch
  Between : Answered → Stretch

abbrev pub events_of_stretch : Config → State → Stretch → List Answered
events_of_stretch config s (Rounds count) = events_of_rounds config count s
events_of_stretch config s (Between a) = a ∷ []

-- the rounds are made, and the event is no cycle
abbrev pub IsStretch : Config → State → Stretch → Type 0
IsStretch config s (Rounds count) = IsSome (rounds config count s)
IsStretch config s (Between a) = IsNoCycle a.event

-- the events of one behind another
abbrev pub events_of_stretches : Config → History → List Stretch → List Answered
events_of_stretches config h [] = []
events_of_stretches config h (x ∷ later) = events_of_stretch config h.state x ++ events_of_stretches config (fold after h (events_of_stretch config h.state x)) later

abbrev pub AreStretches : Config → History → List Stretch → Type 0
AreStretches config h [] = Unit {0}
AreStretches config h (x ∷ later) = IsStretch config h.state x × AreStretches config (fold after h (events_of_stretch config h.state x)) later

-- The core comes to this state by these events, each of which is answered as it may be. Each cycle among them finds that all that was done
-- is taken, and nothing is done behind them.
pub record TakesAllTo (h : History) (later : List Answered) (next : State) : Type 0 where
  pub is_record : IsRecord h later
  pub state : (fold after h later).state ≡ next
  pub takes : TakesAllIn h later
  pub none : NoneDone next
