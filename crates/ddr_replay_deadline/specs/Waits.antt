-- How long the requests of a replay wait in the queues that lead to their channels.
use Rattle.std.specs.Prelude.{◌≡◌, ◌≤◌, ℕ, ◌+◌, ◌*◌, ◌==◌, Bool, false, if◌then◌else◌, List, [], ◌∷◌, ◌++◌, length, Some, slice_get, Result, Ok, Err}
use Rattle.std.specs.Option.{option_map_or}
use Rattle.ddr_timing.specs.declared.config.Config.{Config}
use Rattle.ddr_latency.specs.Bound.{latency}
use Rattle.ddr_ports.specs.Asked.{Asked}
use Rattle.ddr_channel.specs.History as channel
use Rattle.ddr_deadline.specs.InTime.{admissions}
use Rattle.ddr_world.specs.declared.event.Outcome.{Outcome}
use Rattle.ddr_world.specs.declared.event.Refusal.{Refusal}
use Rattle.ddr_world.specs.Events.{Event, Submit}
use Rattle.ddr_world.specs.History.{Answered, History, after, begun, request_of, run}
use Rattle.ddr_world.specs.Record.{IsRecord}
use Rattle.ddr_world.specs.State.{ChannelSide, State}
use Rattle.ddr_world.specs.Step.{Step, step}
use Rattle.ddr_core_deadline.specs.InCore.{calls_of}
use Rattle.ddr_replay_deadline.specs.InReplay.{replay_opening}

-- the request that the port makes of what is asked goes to the channel of that number
abbrev pub goes_to : State → ℕ → ℕ → Asked → Bool
goes_to s c p asked = option_map_or (λ r. c == r.place.channel) (request_of s p asked) false

-- the clock of a channel: the next of its cycles to be made
abbrev pub clock_at : State → ℕ → List ℕ
clock_at s c = option_map_or (λ side. side.channel.now ∷ []) (slice_get s.channels c) []

-- the clock of a channel at which its queue accepts a request by an event, if it does
abbrev pub accepted_by : State → ℕ → Event → List ℕ
accepted_by s c (Submit p asked) = if goes_to s c p asked then clock_at s c else []
accepted_by s c _ = []

-- where the event is made
abbrev pub accepted_by_step : State → ℕ → Event → Step → List ℕ
accepted_by_step s c event (Ok m) = accepted_by s c event
accepted_by_step s c event (Err cause) = []

abbrev pub accepted_by_answer : State → ℕ → Event → Result Outcome Refusal → List ℕ
accepted_by_answer s c event (Ok o) = accepted_by_step s c event (step s event)
accepted_by_answer s c event (Err cause) = []

-- the clocks of a channel at which the events let its queue accept requests, in the order of the acceptance list
abbrev pub acceptances : ℕ → History → List Answered → List ℕ
acceptances c h [] = []
acceptances c h (a ∷ later) = accepted_by_answer h.state c a.event a.answer ++ acceptances c (after h a) later

-- the clocks that a request waits at most in the queue: for each request that the queue holds, those that one is pending at most
abbrev pub longest_wait : Config → ℕ
longest_wait config = config.limits.intake * latency config

-- Each request that the queue accepted at these clocks leaves it in time, where the channel admitted the first of them in these cycles, and
-- its clock is this one now.
pub record IsAdmittedInTime (config : Config) (accepted admitted : List ℕ) (now : ℕ) : Type 0 where
  pub few : length admitted ≤ length accepted
  pub each : (place clock cycle : ℕ) → slice_get accepted place ≡ Some clock → slice_get admitted place ≡ Some cycle → (clock ≤ cycle) × (cycle ≤ clock + longest_wait config)
  -- those that are not admitted yet have not waited for longer
  pub waiting : (place clock : ℕ) → length admitted ≤ place → slice_get accepted place ≡ Some clock → (clock ≤ now) × (now ≤ clock + longest_wait config)

-- the cycles in which the calls that the events make of the channel admit its requests
abbrev pub admitted_in : Config → List Answered → ℕ → List ℕ
admitted_in config events c = admissions (channel.begun config 0) (calls_of c (begun (replay_opening config)) events)

-- These events made this state of a replay, each answered as it may be, and each request that they let the queue of the channel accept is
-- admitted in time.
pub record IsAdmittedIn (config : Config) (events : List Answered) (s : State) (c : ℕ) (side : ChannelSide) : Type 0 where
  pub is_record : IsRecord (begun (replay_opening config)) events
  pub state : (run (replay_opening config) events).state ≡ s
  -- one clock for each request of the acceptance list, and one for each that was admitted
  pub accepted : length (acceptances c (begun (replay_opening config)) events) ≡ length ((run (replay_opening config) events).accepted c)
  pub admitted : length (admitted_in config events c) ≡ length ((run (replay_opening config) events).admitted c)
  pub in_time : IsAdmittedInTime config (acceptances c (begun (replay_opening config)) events) (admitted_in config events c) side.channel.now
