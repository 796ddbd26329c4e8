-- What every state of a channel keeps.
use Rattle.std.specs.Prelude.{◌≡◌, ℕ, Bool, true, ◌+◌, ◌≤◌, All, List, [], ◌∷◌, length, Some, slice_get}
use Rattle.std.specs.List.{AllByRecursion}
use Rattle.ddr_timing.specs.declared.config.Config.{Config}
use Rattle.ddr_trace.specs.declared.command.Entry.{Entry}
use Rattle.ddr_trace.specs.Legality.{IsLegal}
use Rattle.ddr_address_map.specs.declared.place.Place.{Place}
use Rattle.ddr_address_map.specs.Map.{in_range}
use Rattle.ddr_address_map.specs.Requests.{Completion}
use Rattle.ddr_trace.specs.Commands.{entry}
use Rattle.ddr_arbiter.specs.Commands.{column_at}
use Rattle.ddr_channel.specs.Cycle.{service_time}
use Rattle.ddr_channel.specs.State.{State}

-- the place lies in the geometry
abbrev pub IsServed : Config → Place → Type 0
IsServed config p = in_range config.geometry p ≡ true

-- the column command of the completion stands in the trace, and the completion is due when its data have passed
pub record IsTraced (config : Config) (trace : List Entry) (d : Completion) : Type 0 where
  pub place : Place
  pub auto : Bool
  pub at : ℕ
  pub there : slice_get trace at ≡ Some (entry d.issued (column_at auto d.echo.kind place))
  pub due : d.due ≡ d.issued + service_time config d.echo.kind

-- due one after another, the first not before this cycle
abbrev pub AreDue : ℕ → List Completion → Type 0
AreDue first [] = Unit {0}
AreDue first (d ∷ ds) = (first ≤ d.due) × AreDue (d.due + 1) ds

pub record IsSound (s : State) : Type 0 where
  pub legal : IsLegal s.config s.start s.now s.trace
  pub due : AreDue s.now s.flight
  pub traced : AllByRecursion (IsTraced s.config s.trace) s.flight
  pub room : length s.flight + length s.done ≤ s.config.limits.done
  pub served : All (λ w. IsServed s.config w.request.place) s.pending
  -- every cycle counts from the first, and no request was admitted later than now
  pub begun : s.start ≤ s.now
  pub admitted : All (λ w. w.admitted ≤ s.now) s.pending
