-- What is known of banks while the candidates are gone through.
use Rattle.std.specs.Prelude.{◌≡◌, ℕ, true, false, Bool, List, Option, Some, slice_get}
use Rattle.ddr_legality.specs.Bus.{Bus, is_legal_now}
use Rattle.ddr_address_map.specs.declared.place.Place.{Place}
use Rattle.ddr_address_map.specs.declared.request.Kind.{Kind}
use Rattle.ddr_hazards.specs.declared.waiting.Waiting.{Waiting}
use Rattle.ddr_hazards.specs.Banks.{bank_number}
use Rattle.ddr_hazards.specs.PendingList.{IsInRank}
use Rattle.ddr_arbiter.specs.declared.columns.KnownBank.{KnownBank}
use Rattle.ddr_arbiter.specs.declared.columns.KnownBank.TheVariants as bank
use Rattle.ddr_arbiter.specs.declared.rows.Step.{Step}
use Rattle.ddr_arbiter.specs.declared.rows.Step.TheVariants as step
use Rattle.ddr_arbiter.specs.Choice.{can_activate, can_precharge, open_row_at}
use Rattle.ddr_arbiter.specs.Commands.{column_at}

-- the two places are in one bank
abbrev pub AreInOneBank : Place → Place → Type 0
AreInOneBank p q = (p.rank ≡ q.rank) × (p.group ≡ q.group) × (p.bank ≡ q.bank)

-- what the entry of a place's bank says of reads or of writes there
abbrev pub Tells : Bus → Kind → Place → Option KnownBank → Type 0
Tells b kind p (Some (bank.Open row)) = open_row_at b p ≡ Some row
Tells b kind p (Some bank.Refused) = is_legal_now b (column_at false kind p) ≡ false
Tells b kind p _ = Unit {0}

abbrev pub AreKnown : Bus → Kind → List KnownBank → Type 0
AreKnown b kind banks = (p : Place) → IsInRank p → Tells b kind p (slice_get banks (bank_number p))

-- neither an ACT nor a PRE can be chosen for a request to the place
abbrev pub HasNoStep : Bus → List Waiting → List ℕ → Place → Type 0
HasNoStep b waiting places p = (can_activate b p ≡ false) × (can_precharge b waiting places p ≡ false)

-- what the mark of a place's bank says
abbrev pub MarkTells : Bus → List Waiting → List ℕ → Place → Option Bool → Type 0
MarkTells b waiting places p (Some true) = HasNoStep b waiting places p
MarkTells b waiting places p _ = Unit {0}

abbrev pub AreDone : Bus → List Waiting → List ℕ → List Bool → Type 0
AreDone b waiting places marks = (p : Place) → IsInRank p → MarkTells b waiting places p (slice_get marks (bank_number p))

-- what a step says of a request to the place, and of its bank
abbrev pub StepTells : Bus → List Waiting → List ℕ → Place → Step → Type 0
StepTells b waiting places p step.Activate = can_activate b p ≡ true
StepTells b waiting places p step.Precharge = (can_activate b p ≡ false) × (can_precharge b waiting places p ≡ true)
StepTells b waiting places p step.Wait = HasNoStep b waiting places p
StepTells b waiting places p step.Done = (q : Place) → AreInOneBank p q → HasNoStep b waiting places q
