-- The overtakers of a request: later ones that the scheduler serves before it.
use Rattle.std.specs.Prelude.{◌≡◌, ℕ, ◌+◌, ◌/◌, ◌<◌, ◌≤◌, ◌==◌, nat_lt, if◌then◌else◌, List, [], ◌∷◌, length, filter, Some, slice_get}
use Rattle.std.specs.List.{AllByRecursion}
use Rattle.ddr_timing.specs.declared.config.Config.{Config}
use Rattle.ddr_hazards.specs.declared.waiting.Waiting.{Waiting}
use Rattle.ddr_channel.specs.History.{History, Owner}

-- the column commands before that of the request at the place of the acceptance list; all, where it has none yet
abbrev pub owners_before : ℕ → List Owner → List Owner
owners_before place [] = []
owners_before place (o ∷ later) = if o.place == place then [] else o ∷ owners_before place later

-- The column commands of later admitted requests between the admission of the request and its own column command, or
-- so far, where it is pending. (Those of later admitted requests all stand behind its admission.)
abbrev pub overtakers : History → ℕ → List Owner
overtakers h place = filter (λ o. nat_lt place o.place) (owners_before place h.owners)

-- The most overtakers that a request can have: in as many clocks as the cap one column command in each four.
abbrev pub most_overtakers : Config → ℕ
most_overtakers config = (config.limits.cap + 3) / 4

pub record HasFewOvertakers (h : History) : Type 0 where
  -- an accepted request, pending or served, has at most so many
  pub few : (place : ℕ) → place < length h.accepted → length (overtakers h place) ≤ most_overtakers h.state.config
  -- those of a pending request stand at ages below the cap
  pub young : (k place : ℕ) (w : Waiting) → slice_get h.waiting k ≡ Some place → slice_get h.state.pending k ≡ Some w →
      AllByRecursion (λ o. (w.admitted ≤ o.cycle) × (o.cycle < w.admitted + h.state.config.limits.cap)) (overtakers h place)
