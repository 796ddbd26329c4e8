-- The events of a replay, and how long its requests take in their channels.
use Rattle.std.specs.Prelude.{◌≡◌, ℕ, ◌+◌, ◌-◌, suc, zero, true, nat_lt, if◌then◌else◌, List, [], ◌∷◌, ◌++◌}
use Rattle.std.specs.Option.{option_map_or}
use Rattle.ddr_timing.specs.declared.config.Config.{Config}
use Rattle.ddr_rounds.specs.Rounds.{channels_served, items_of, until_refused}
use Rattle.ddr_rounds.specs.Rounds as rounds
use Rattle.ddr_world.specs.Events.{Submit, Collect, Release}
use Rattle.ddr_world.specs.History.{Opening, Answered, begun, run}
use Rattle.ddr_world.specs.Record.{IsRecord}
use Rattle.ddr_world.specs.Served.{front_service}
use Rattle.ddr_world.specs.State.{ChannelSide, State}
use Rattle.ddr_world.specs.Step.{step}
use Rattle.ddr_core_deadline.specs.InCore.{IsChannelInTime, calls_of}
use Rattle.ddr_core_deadline.specs.InRounds.{events_of_channels, events_until_refused, made_then}
use Rattle.ddr_stream.specs.declared.ask.Ask.{Ask}
use Rattle.ddr_stream.specs.Asks.{asked_by}
use Rattle.ddr_stream.specs.Stream.{queue_at}
use Rattle.ddr_replay.specs.Runs.{Run, all_submitted, channels_counted, first_port, ports_served, ports_submitted, turn}

-- a replay begins at cycle 0, and numbers the requests of each port from 0; whether traces are kept changes no state
abbrev pub replay_opening : Config → Opening
replay_opening config = record { config = config; keeps = true; cycle = 0; number = 0 }

-- a port's requests in order, while their cycle has come and they are not refused (`submitted`)
abbrev pub events_submitted : ℕ → ℕ → List Ask → State → List Answered
events_submitted p round [] s = []
events_submitted p round (ask ∷ more) s =
    if nat_lt round ask.at then []
    else made_then (events_submitted p round more) (Submit p (asked_by ask)) (step s (Submit p (asked_by ask)))

-- of so many ports from this one on, in order (`ports_submitted`)
abbrev pub events_of_ports_submitted : ℕ → ℕ → Run → List Answered
events_of_ports_submitted first zero run = []
events_of_ports_submitted first (suc n) run =
    let before = ports_submitted first n run in
    events_of_ports_submitted first n run ++ events_submitted (first + n) before.round (queue_at before.queues (first + n)) before.state

-- of all of them: from the one that submits first on, and then those before it (`all_submitted`)
abbrev pub events_of_all_submitted : Config → Run → List Answered
events_of_all_submitted config run =
    let first = first_port run.asking config.limits.ports in
    let later = config.limits.ports - first in
    events_of_ports_submitted first later run ++ events_of_ports_submitted 0 first (ports_submitted first later run)

-- each reply in front of a port is released, so many at most (`released`)
abbrev pub events_released : ℕ → ℕ → State → List Answered
events_released zero p s = []
events_released (suc n) p s =
    option_map_or (λ v. made_then (λ next. []) (Release p) (step s (Release p)) ++ events_released n p (rounds.after s (Release p))) (front_service s p) []

-- those of a port's part of a round (`port_served`)
abbrev pub events_of_port_served : ℕ → State → List Answered
events_of_port_served p s =
    let collected = until_refused (Collect p) s in
    events_until_refused (Collect p) s ++ events_released (items_of collected (Release p)) p collected

-- of the first so many ports, in order (`ports_served`)
abbrev pub events_of_ports_served : ℕ → Run → List Answered
events_of_ports_served zero run = []
events_of_ports_served (suc p) run = events_of_ports_served p run ++ events_of_port_served p (ports_served p run).state

-- of a round: each channel's part, then each port's (`round_made`)
abbrev pub events_of_round_made : Config → Run → List Answered
events_of_round_made config run =
    events_of_channels config.geometry.channels run.state
    ++ option_map_or (λ s. events_of_ports_served config.limits.ports (channels_counted config run s)) (channels_served config.geometry.channels run.state) []

-- of a turn: what each port submits, then the round
abbrev pub events_of_turn : Config → Run → List Answered
events_of_turn config run = events_of_all_submitted config run ++ events_of_round_made config (all_submitted config run)

-- of so many turns, one behind another
abbrev pub events_of_turns : Config → ℕ → Run → List Answered
events_of_turns config zero run = []
events_of_turns config (suc n) run = events_of_turn config run ++ option_map_or (events_of_turns config n) (turn config run) []

-- These events made this state of a replay, each answered as it may be, and each request that they let the channel admit is served in time.
pub record IsServedIn (config : Config) (events : List Answered) (s : State) (c : ℕ) (side : ChannelSide) : Type 0 where
  pub is_record : IsRecord (begun (replay_opening config)) events
  pub state : (run (replay_opening config) events).state ≡ s
  pub in_time : IsChannelInTime (replay_opening config) (run (replay_opening config) events) c (calls_of c (begun (replay_opening config)) events) side
