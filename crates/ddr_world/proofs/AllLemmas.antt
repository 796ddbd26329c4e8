-- What `all` answers of a test that decides a fact.
use Rattle.std.proofs.Common.{ℕ, ◌<◌, ◌↔◌, Bool, true, false, List, length, All, IsTrue, refl}
use Rattle.std.specs.Bool.{MatchBool}
use Rattle.std.specs.List.{AllWithin, HoldsAt}
use Rattle.std.proofs.lemmas.Bool.{false≢true}
use Rattle.std.proofs.lemmas.Iterator.Search.{true_from_All}
use Rattle.std.proofs.lemmas.List.Elements.{All-from_all_within}

-- it is true exactly where the fact holds of each element
pub all_decides : {X : Type 0} (P : X → Type 0) (r : Bool) (xs : List X) → MatchBool r (AllWithin P xs 0 (length xs)) ((k : ℕ) × (k < length xs) × HoldsAt (λ x. P x → ⊥) xs k) → IsTrue r ↔ All P xs
all_decides P true xs h = (λ _. All-from_all_within P xs h, λ _. refl)
all_decides P false xs h = (λ e. absurd (false≢true e), λ all. true_from_All P (λ x. P x → ⊥) false xs (λ x yes no. no yes) h all)
