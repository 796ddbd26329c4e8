-- Until when nothing changes of what the scheduler looks at, and until when nothing can be chosen for a request, as long
-- as no command is issued.
use Rattle.std.specs.Prelude.{◌≡◌, ℕ, ◌+◌, ◌<◌, true, false, Bool, List, All, Option, Some, slice_get}
use Rattle.ddr_legality.specs.Bus.{Bus, is_legal_now, passed}
use Rattle.ddr_address_map.specs.declared.place.Place.{Place}
use Rattle.ddr_hazards.specs.declared.waiting.Waiting.{Waiting}
use Rattle.ddr_hazards.specs.Banks.{bank_number}
use Rattle.ddr_hazards.specs.PendingList.{IsInRank}
use Rattle.ddr_refresh.specs.Refreshes.{Refreshes, after_ticks, debt_of}
use Rattle.ddr_arbiter.specs.declared.candidates.CandidateSet.{CandidateSet}
use Rattle.ddr_arbiter.specs.declared.choice.Choice.TheVariants as choice
use Rattle.ddr_arbiter.specs.Choice.{is_oldest_capped, refresh_choice_at}
use Rattle.ddr_arbiter.specs.Commands.{column_at}
use Rattle.ddr_arbiter.specs.Known.{AreInOneBank, HasNoStep}
use Rattle.ddr_arbiter.specs.CandidateSet.{is_candidate, places_of}

-- in each cycle from now on that is before this one each rank owes as many REFs as now
abbrev pub AreSteadyUntil : ℕ → ℕ → List Refreshes → Type 0
AreSteadyUntil end now refreshes = (count : ℕ) → now + count < end → All (λ r. debt_of (after_ticks count r) ≡ debt_of r) refreshes

-- in each of them the oldest request has reached the cap exactly if it has now
abbrev pub IsAgeSteadyUntil : ℕ → ℕ → ℕ → List Waiting → Type 0
IsAgeSteadyUntil end now cap waiting = (count : ℕ) → now + count < end → is_oldest_capped (now + count) cap waiting ≡ is_oldest_capped now cap waiting

-- in each of them neither a REF nor a PREA is chosen for the rank, if it has to be refreshed
abbrev pub IsRefreshStuckUntil : ℕ → Bus → ℕ → Type 0
IsRefreshStuckUntil end b rank = (count : ℕ) → b.now + count < end → refresh_choice_at (passed count b) rank ≡ choice.Nothing

-- neither a read or a write, where there is room for one, nor an ACT or a PRE can be chosen for a candidate of the place
abbrev pub IsStuck : Bus → CandidateSet → List Waiting → Bool → Place → Type 0
IsStuck b c waiting room p = (room ≡ true → is_legal_now b (column_at false c.kind p) ≡ false) × HasNoStep b waiting (places_of c waiting) p

-- in each cycle from now on that is before this one it is so
abbrev pub IsStuckUntil : ℕ → Bus → CandidateSet → List Waiting → Bool → Place → Type 0
IsStuckUntil end b c waiting room p = (count : ℕ) → b.now + count < end → IsStuck (passed count b) c waiting room p

-- the request at this place of the list is a candidate
pub record IsCandidate (c : CandidateSet) (waiting : List Waiting) (place : ℕ) (w : Waiting) : Type 0 where
  pub within : place < c.count
  pub passes : is_candidate c waiting place ≡ true
  pub here : slice_get waiting place ≡ Some w

-- some candidate is for this place
abbrev pub HasCandidateAt : CandidateSet → List Waiting → Place → Type 0
HasCandidateAt c waiting p = (place : ℕ) × (w : Waiting) × IsCandidate c waiting place w × (w.request.place ≡ p)

-- so for each candidate of the place's bank
abbrev pub IsBankStuckUntil : ℕ → Bus → CandidateSet → List Waiting → Bool → Place → Type 0
IsBankStuckUntil end b c waiting room p =
    (place : ℕ) (w : Waiting) → IsCandidate c waiting place w → AreInOneBank p w.request.place → IsStuckUntil end b c waiting room w.request.place

-- what the mark of a place's bank says
abbrev pub MarkTellsUntil : ℕ → Bus → CandidateSet → List Waiting → Bool → Place → Option Bool → Type 0
MarkTellsUntil end b c waiting room p (Some true) = IsBankStuckUntil end b c waiting room p
MarkTellsUntil end b c waiting room p _ = Unit {0}

abbrev pub AreStuckUntil : ℕ → Bus → CandidateSet → List Waiting → Bool → List Bool → Type 0
AreStuckUntil end b c waiting room marks = (p : Place) → IsInRank p → MarkTellsUntil end b c waiting room p (slice_get marks (bank_number p))
