-- What of a rank that has to be refreshed is chosen, and what a REF that is not legal says of its banks.
use Rattle.std.proofs.Common.{◌≡◌, ◌≢◌, ℕ, ◌+◌, Bool, true, false, ◌&&◌, ◌||◌, ltb, leb, Some, refl, sym, ap, ◌∙◌, inl, inr}
use Rattle.std.proofs.lemmas.Bool.{cases_Bool, true≢false}
use Rattle.ddr_trace.specs.declared.rule.Rule.{Rule}
use Rattle.ddr_trace.specs.declared.rule.Rule.TheVariants as rule
use Rattle.ddr_trace.specs.Commands.{entry}
use Rattle.ddr_trace.specs.Legality.{lowest_rule}
use Rattle.ddr_trace.specs.Rules.{breaks_order}
use Rattle.ddr_trace.proofs.LowestLemmas.{lowest_passes}
use Rattle.ddr_legality.specs.Bus.{Bus, broken_now, is_legal_now}
use Rattle.ddr_arbiter.specs.declared.choice.Choice.TheVariants as choice
use Rattle.ddr_arbiter.specs.Commands.{precharge_all, refresh}
use Rattle.ddr_arbiter.specs.Choice.{some_bank_active, refresh_choice_at}
use Rattle.ddr_refresh.specs.Refreshes.{Refreshes, debt_of, is_forced}
use Rattle.ddr_arbiter.proofs.CommandLemmas.{legal_keeps}

-- in a cycle that is out of order nothing is legal
pub out_of_order : (b : Bus) (rank : ℕ) → breaks_order b.start (b.now + 1) b.trace (entry b.now (precharge_all rank)) ≡ true → is_legal_now b (precharge_all rank) ≡ false
unfolding lowest_rule
out_of_order b rank broken = rw broken refl

-- nor is anything of a rank that is not there
pub out_of_place : (b : Bus) (rank : ℕ) → breaks_order b.start (b.now + 1) b.trace (entry b.now (precharge_all rank)) ≡ false → ltb rank b.config.geometry.ranks ≡ false → is_legal_now b (precharge_all rank) ≡ false
unfolding lowest_rule
out_of_place b rank kept beyond = rw (kept, beyond) refl

-- where the order is kept and some bank is active, STATE is the lowest rule that a REF breaks
pub active_breaks_state : (b : Bus) (rank : ℕ) → breaks_order b.start (b.now + 1) b.trace (entry b.now (refresh rank)) ≡ false → ltb rank b.config.geometry.ranks ≡ true → some_bank_active b rank ≡ true →
    broken_now b (refresh rank) ≡ Some rule.State
unfolding lowest_rule
active_breaks_state b rank kept inside active = rw (kept, inside, active) refl

-- a legal REF finds all banks idle
pub legal_idle : (b : Bus) (rank : ℕ) → is_legal_now b (refresh rank) ≡ true → some_bank_active b rank ≡ false
legal_idle b rank legal = legal_keeps b (refresh rank) legal rule.State refl

-- and so it is what is chosen
pub refresh_legal : (b : Bus) (rank : ℕ) → is_legal_now b (refresh rank) ≡ true → choice.Refresh rank ≡ refresh_choice_at b rank
refresh_legal b rank legal = rw (legal_idle b rank legal, legal) refl

-- one that breaks STATE finds a bank active,
pub state_active : (b : Bus) (rank : ℕ) → broken_now b (refresh rank) ≡ Some rule.State → some_bank_active b rank ≡ true
state_active b rank broken = lowest_passes _ rule.State broken

-- and one that breaks another rule first finds none, where PREA is legal
pub other_idle : (b : Bus) (rank : ℕ) (r : Rule) → r ≢ rule.State → broken_now b (refresh rank) ≡ Some r → is_legal_now b (precharge_all rank) ≡ true → some_bank_active b rank ≡ false
other_idle b rank r other broken legal = elim (cases_Bool (some_bank_active b rank)) [
  | inr idle ↦ idle
  | inl active ↦ elim (cases_Bool (breaks_order b.start (b.now + 1) b.trace (entry b.now (refresh rank)))) [
    | inl late ↦ absurd (true≢false (sym legal ∙ out_of_order b rank late))
    | inr kept ↦ elim (cases_Bool (ltb rank b.config.geometry.ranks)) [
      | inr beyond ↦ absurd (true≢false (sym legal ∙ out_of_place b rank kept beyond))
      | inl inside ↦ let same : Some r ≡ Some rule.State = sym broken ∙ active_breaks_state b rank kept inside active in absurd (other (cc))
    ]
  ]
]

-- a debt

-- what is forced with something pending is forced
pub forced_either : (idle : Bool) (r : Refreshes) → (is_forced true r && is_forced idle r) ≡ is_forced idle r
forced_either idle r = by_tests (ltb r.postpone (debt_of r)) (leb 1 (debt_of r)) idle
  where
    by_tests : (over one idle : Bool) → ((over || (true && one)) && (over || (idle && one))) ≡ (over || (idle && one))
    by_tests true one idle = refl
    by_tests false true true = refl
    by_tests false true false = refl
    by_tests false false true = refl
    by_tests false false false = refl

pub not_forced : (idle : Bool) (r : Refreshes) → is_forced true r ≡ false → false ≡ is_forced idle r
not_forced idle r none = sym (ap (λ t. t && is_forced idle r) none) ∙ forced_either idle r
