-- The calls that events make of a channel of the core, and how long its requests take.
use Rattle.std.specs.Prelude.{◌≡◌, ℕ, ◌==◌, if◌then◌else◌, List, [], ◌∷◌, ◌++◌, slice_get, IfSome, Result, Ok, Err, OnOk}
use Rattle.std.specs.Option.{option_map_or}
use Rattle.ddr_channel.specs.History as channel
use Rattle.ddr_channel.specs.History.{Call}
use Rattle.ddr_deadline.specs.InTime.{IsServedInTime, TakesAll, admissions}
use Rattle.ddr_world.specs.declared.event.Outcome.{Outcome}
use Rattle.ddr_world.specs.declared.event.Refusal.{Refusal}
use Rattle.ddr_world.specs.declared.item.Item.{Item}
use Rattle.ddr_world.specs.declared.item.Item.TheVariants as item
use Rattle.ddr_world.specs.Events.{Event, Take, Cycle, Deliver}
use Rattle.ddr_world.specs.History.{Opening, Answered, History, after, next_item}
use Rattle.ddr_world.specs.State.{ChannelSide, State}
use Rattle.ddr_world.specs.Step.{Step, step}

-- a cycle finds that each completion of its channel was taken
abbrev pub FindsAllTakenIn : State → Event → Type 0
FindsAllTakenIn s (Cycle c) = IfSome (slice_get s.channels c) (λ side. side.channel.done ≡ [])
FindsAllTakenIn s _ = Unit {0}

-- and so does each cycle that is made among the events
abbrev pub TakesAllIn : History → List Answered → Type 0
TakesAllIn h [] = Unit {0}
TakesAllIn h (a ∷ later) = OnOk a.answer (FindsAllTakenIn h.state a.event) × TakesAllIn (after h a) later

-- the call by which a channel takes an item, if it is a request
abbrev pub taken_by : Item → List Call
taken_by (item.Request r) = channel.Admit r ∷ []
taken_by (item.End p) = []

-- the call that an event of its own makes of the channel of that number
abbrev pub call_of : State → ℕ → Event → List Call
call_of s c (Take t) = if t == c then option_map_or taken_by (next_item s t) [] else []
call_of s c (Cycle t) = if t == c then channel.Cycle ∷ [] else []
call_of s c (Deliver t) = if t == c then channel.Pop ∷ [] else []
call_of s c _ = []

-- where the event is made
abbrev pub call_of_step : State → ℕ → Event → Step → List Call
call_of_step s c event (Ok m) = call_of s c event
call_of_step s c event (Err cause) = []

abbrev pub call_of_answer : State → ℕ → Event → Result Outcome Refusal → List Call
call_of_answer s c event (Ok o) = call_of_step s c event (step s event)
call_of_answer s c event (Err cause) = []

-- the calls that the events make of the channel of that number, in order
abbrev pub calls_of : ℕ → History → List Answered → List Call
calls_of c h [] = []
calls_of c h (a ∷ later) = call_of_answer h.state c a.event a.answer ++ calls_of c (after h a) later

-- Each request that the channel admitted is served in time, by the calls that made the channel.
pub record IsChannelInTime (o : Opening) (h : History) (c : ℕ) (calls : List Call) (side : ChannelSide) : Type 0 where
  -- the channel is what these calls make of it, and they admit its requests
  pub state : side.channel ≡ (channel.run o.config o.cycle calls).state
  pub admitted : (channel.run o.config o.cycle calls).accepted ≡ h.admitted c
  -- each cycle among them finds that all that was done is taken
  pub takes : TakesAll (channel.begun o.config o.cycle) calls
  pub in_time : IsServedInTime (admissions (channel.begun o.config o.cycle) calls) (channel.run o.config o.cycle calls)
