-- The records that a core stands for.
use Rattle.std.specs.Prelude.{◌≡◌, ℕ, ◌+◌, List, [], ◌∷◌, ◌++◌, length, map, count_by, slice_get, Some, Result, Ok, Err, is_ok, is_err}
use Rattle.ddr_reorder.specs.Replies.{Answer}
use Rattle.ddr_world.specs.declared.event.Outcome.{Outcome}
use Rattle.ddr_world.specs.declared.event.Refusal.{Refusal}
use Rattle.ddr_world.specs.declared.event.Refusal.TheVariants.{OutOfMemory}
use Rattle.ddr_world.specs.Answer.{IsRefused, MayWantMemory}
use Rattle.ddr_world.specs.Events.{Event}
use Rattle.ddr_world.specs.History.{Opening, Answered, History, begun, after, run}
use Rattle.ddr_world.specs.Kept.{Kept, state_of}
use Rattle.ddr_world.specs.Promise.{replies_of_port}
use Rattle.ddr_world.specs.State.{State}
use Rattle.ddr_world.specs.Step.{made, step}

-- what may come of an event in a state
abbrev pub MayAnswer : State → Event → Result Outcome Refusal → Type 0
MayAnswer s event (Ok o) = (next : State) × (step s event ≡ made next o)
MayAnswer s event (Err cause) = IsRefused cause event (step s event) × (cause ≡ OutOfMemory → MayWantMemory s event)

-- each event came to what it may in the state that those before it left
abbrev pub IsRecord : History → List Answered → Type 0
IsRecord h [] = Unit {0}
IsRecord h (a ∷ later) = MayAnswer h.state a.event a.answer × IsRecord (after h a) later

-- The core stands for the record: it begins with the core's opening, and the core's state is what its events make.
pub record StandsFor (k : Kept) (opening : Opening) (events : List Answered) : Type 0 where
  pub config : k.config ≡ opening.config
  pub keeps : k.keeps ≡ opening.keeps
  pub is_record : IsRecord (begun opening) events
  pub state : state_of k ≡ (run opening events).state

-- What is lent is, for every record that the core stands for, the next of the right replies of the port.
abbrev pub IsNext : Kept → ℕ → Answer → Type 0
IsNext k p a = (opening : Opening) (events : List Answered) → StandsFor k opening events
    → slice_get (replies_of_port (run opening events) p) (length ((run opening events).taken p)) ≡ Some (Some a)

-- What is lent is, for every record that the core stands for, the right reply to the port's request of this number.
abbrev pub IsRightAt : Kept → ℕ → ℕ → Answer → Type 0
IsRightAt k p number a = (opening : Opening) (events : List Answered) → StandsFor k opening events
    → (i : ℕ) × (number ≡ opening.number + i) × (slice_get (replies_of_port (run opening events) p) i ≡ Some (Some a))

-- The answers to a list of events, one each and in order, which lead on from every record that the core stood for.
pub record RunsTo (before after : Kept) (events : List Event) (made refused : ℕ) : Type 0 where
  pub answered : List Answered
  pub events_are : map (λ a. a.event) answered ≡ events
  pub made_are : made ≡ count_by (λ a. is_ok a.answer) answered
  pub refused_are : refused ≡ count_by (λ a. is_err a.answer) answered
  pub stands : (opening : Opening) (earlier : List Answered) → StandsFor before opening earlier → StandsFor after opening (earlier ++ answered)
