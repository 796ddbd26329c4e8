-- How long a request takes at most, from its admission to its completion, where all that is done is taken behind each cycle.
use Rattle.std.specs.Prelude.{◌≡◌, ℕ, ◌+◌, ◌<◌, if◌then◌else◌, List, [], ◌∷◌, ◌++◌, length, Some, slice_get, IfSome}
use Rattle.std.specs.Option.{IsSomeAnd}
use Rattle.ddr_latency.specs.Bound.{burst, latency}
use Rattle.ddr_hazards.specs.declared.waiting.Waiting.{Waiting}
use Rattle.ddr_channel.specs.History.{Call, Admit, Cycle, Pop, History, Owner, after_call}
use Rattle.ddr_channel.specs.State.{is_queue_full}
use Rattle.ddr_channel.specs.Told.{issued_in}

-- a cycle finds that each completion was taken
abbrev pub FindsAllTaken : History → Call → Type 0
FindsAllTaken h (Admit r) = Unit {0}
FindsAllTaken h Cycle = h.state.done ≡ []
FindsAllTaken h Pop = Unit {0}

-- and so does each cycle among the calls
abbrev pub TakesAll : History → List Call → Type 0
TakesAll h [] = Unit {0}
TakesAll h (call ∷ calls) = FindsAllTaken h call × TakesAll (after_call h call) calls

-- the cycle in which a call admits a request, if it does
abbrev pub admitted_by : History → Call → List ℕ
admitted_by h (Admit r) = if is_queue_full h.state r.echo.kind then [] else h.state.now ∷ []
admitted_by h Cycle = []
admitted_by h Pop = []

-- the cycles in which the calls admit requests, in the order of the acceptance list
abbrev pub admissions : History → List Call → List ℕ
admissions h [] = []
admissions h (call ∷ calls) = admitted_by h call ++ admissions (after_call h call) calls

-- Each request is served in time, where the requests of the acceptance list were admitted in these cycles.
pub record IsServedInTime (admitted : List ℕ) (h : History) : Type 0 where
  pub each : length admitted ≡ length h.accepted
  -- if a pending request were read or written now, it would be complete in time
  pub waiting : (place : ℕ) (w : Waiting) → slice_get h.state.pending place ≡ Some w → h.state.now + burst h.state.config < w.admitted + latency h.state.config
  -- (its own cycle of admission is that of its place in the acceptance list)
  pub since : (place number : ℕ) (w : Waiting) → slice_get h.waiting place ≡ Some number → slice_get h.state.pending place ≡ Some w → slice_get admitted number ≡ Some w.admitted
  -- each one that was read or written is complete in time
  pub served : (place : ℕ) (o : Owner) → slice_get h.owners place ≡ Some o → IsSomeAnd (slice_get admitted o.place) (λ cycle. o.cycle + burst h.state.config < cycle + latency h.state.config)
  -- and so is the one of which the next cycle tells, if it reads or writes one
  pub told : IfSome (issued_in h.state) (λ i. IfSome i.served (λ v. v.due < v.admitted + latency h.state.config))
