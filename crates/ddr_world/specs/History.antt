-- What a record of events makes of the core, with what no code keeps: which requests each channel's queue
-- accepted, where each port's requests are, and which replies were taken.
use Rattle.std.specs.Prelude.{ℕ, Bool, ◌==◌, if◌then◌else◌, List, [], ◌∷◌, ◌++◌, length, fold, slice_get, Option, Result, Ok, Err}
use Rattle.std.specs.Option.{option_and_then, option_map_or}
use Rattle.ddr_timing.specs.declared.config.Config.{Config}
use Rattle.ddr_address_map.specs.Requests.{Request}
use Rattle.ddr_reorder.specs.Replies.{Answer, nth_answer, served_answer}
use Rattle.ddr_ports.specs.Asked.{Asked}
use Rattle.ddr_ports.specs.State.{request_at}
use Rattle.ddr_world.specs.declared.event.Outcome.{Outcome}
use Rattle.ddr_world.specs.declared.event.Refusal.{Refusal}
use Rattle.ddr_world.specs.declared.item.Item.{Item}
use Rattle.ddr_world.specs.declared.item.Item.TheVariants as item
use Rattle.ddr_world.specs.Events.{Event, Submit, Take, Release}
use Rattle.ddr_world.specs.State.{State, opened}
use Rattle.ddr_world.specs.Step.{Step, step}

-- what the core was opened with: whether each channel keeps its trace, its first cycle, and the first number of each port
pub record Opening : Type 0 where
  pub config : Config
  pub keeps : Bool
  pub cycle : ℕ
  pub number : ℕ

-- an event of a record, with what came of it
pub record Answered : Type 0 where
  pub event : Event
  pub answer : Result Outcome Refusal

-- where an accepted request stands: its channel, and its place in the acceptance list of that channel
pub record Whereabouts : Type 0 where
  pub channel : ℕ
  pub place : ℕ

pub record History : Type 0 where
  pub state : State
  -- of each channel the acceptance list: the requests that were pushed on its queue, in order
  pub accepted : ℕ → List Request
  -- of each channel the requests that it admitted, in order
  pub admitted : ℕ → List Request
  -- of each port its accepted requests, in the order of their numbers
  pub sent : ℕ → List Whereabouts
  -- of each port the replies that were in front when they were given up, in order
  pub taken : ℕ → List Answer

abbrev pub begun : Opening → History
begun o = record {
  state = opened o.config o.cycle o.number;
  accepted = λ _. [];
  admitted = λ _. [];
  sent = λ _. [];
  taken = λ _. [];
}

-- the lists, with one element more at this number
abbrev pub with_next : {X : Type 0} → (ℕ → List X) → ℕ → X → ℕ → List X
with_next lists at x i = if i == at then lists i ++ x ∷ [] else lists i

-- the port's request was accepted
abbrev pub accept : ℕ → History → Request → History
accept p h r = record h {
  accepted = with_next h.accepted r.place.channel r;
  sent = with_next h.sent p (record { channel = r.place.channel; place = length (h.accepted r.place.channel) });
}

-- the channel took an item: a request is admitted
abbrev pub admit : ℕ → History → Item → History
admit c h (item.Request r) = record h { admitted = with_next h.admitted c r }
admit c h (item.End p) = h

-- the port gave a reply up
abbrev pub give : ℕ → History → Answer → History
give p h reply = record h { taken = with_next h.taken p reply }

-- the request that the port makes of what is asked
abbrev pub request_of : State → ℕ → Asked → Option Request
request_of s p asked = option_and_then (λ port. request_at port.core asked) (slice_get s.ports p)

-- the oldest item of the channel's queue
abbrev pub next_item : State → ℕ → Option Item
next_item s c = option_and_then (λ side. slice_get side.requests 0) (slice_get s.channels c)

-- the reply that the port lends
abbrev pub front_of : State → ℕ → Option Answer
front_of s p = option_and_then (λ port. nth_answer port.core.reorder 0) (slice_get s.ports p)

-- the reply to the port's request of a number, once its line is there
abbrev pub served_of : State → ℕ → ℕ → Option Answer
served_of s p number = option_and_then (λ port. served_answer port.core.reorder number) (slice_get s.ports p)

-- what is noted of a made event, before the state changes
abbrev pub note : Event → History → History
note (Submit p asked) h = option_map_or (accept p h) (request_of h.state p asked) h
note (Take c) h = option_map_or (admit c h) (next_item h.state c) h
note (Release p) h = option_map_or (give p h) (front_of h.state p) h
note _ h = h

abbrev pub after_step : Event → History → Step → History
after_step event h (Ok m) = record (note event h) { state = m.state }
after_step event h (Err cause) = h

abbrev pub after_answer : History → Event → Result Outcome Refusal → History
after_answer h event (Ok o) = after_step event h (step h.state event)
after_answer h event (Err cause) = h

-- a refused event leaves all as it was
abbrev pub after : History → Answered → History
after h a = after_answer h a.event a.answer

-- what the record makes of the core since open
abbrev pub run : Opening → List Answered → History
run o events = fold after (begun o) events
