-- Lemmas on the completion that may be due now.
use Rattle.std.proofs.Common.{◌≡◌, ℕ, not, eqb, List, [], ◌∷◌, Some, None, drop, refl, sym, ap, ◌∙◌}
use Rattle.std.specs.List.{filter, slice_get}
use Rattle.ddr_address_map.specs.Requests.{Completion}
use Rattle.ddr_channel.specs.Sound.{AreDue}
use Rattle.ddr_channel.proofs.SoundLemmas.{none_due, due_now, due_later}

-- an empty flight
pub no_first : (now : ℕ) (flight : List Completion) → slice_get flight 0 ≡ None → (filter (λ d. eqb d.due now) flight ≡ []) × (filter (λ d. not (eqb d.due now)) flight ≡ flight)
no_first now [] is = (refl, refl)
no_first now (d ∷ ds) is = cc

-- a first completion that is due later
pub first_later : (now : ℕ) (flight : List Completion) (first : Completion) → AreDue now flight → slice_get flight 0 ≡ Some first → (first.due ≡ now → ⊥) →
    (filter (λ d. eqb d.due now) flight ≡ []) × (filter (λ d. not (eqb d.due now)) flight ≡ flight)
first_later now [] first due is other = cc
first_later now (d ∷ ds) first due is other =
    let same : d ≡ first = cc in
    none_due now (d ∷ ds) (due_later now d ds due (λ e. other (sym (ap (λ (c : Completion). c.due) same) ∙ e)))

-- a first completion that is due now
pub first_now : (now : ℕ) (flight : List Completion) (first : Completion) → AreDue now flight → slice_get flight 0 ≡ Some first → first.due ≡ now →
    (filter (λ d. eqb d.due now) flight ≡ first ∷ []) × (filter (λ d. not (eqb d.due now)) flight ≡ drop 1 flight)
first_now now [] first due is here = cc
first_now now (d ∷ ds) first due is here =
    let same : d ≡ first = cc in
    let split = due_now now d ds due (ap (λ (c : Completion). c.due) same ∙ here) in
    (split.0 ∙ ap (λ (c : Completion). c ∷ []) same, split.1)
