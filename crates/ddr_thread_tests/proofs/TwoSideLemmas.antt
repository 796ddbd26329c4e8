-- The sides of a queue with two put sides, for the tests.
use Rattle.std.proofs.Common.{◌≡◌, ℕ, zero, suc, List, [], ◌∷◌, slice_get, Some, sym, refl, ap, ◌∙◌, subst}
use Rattle.ddr_workers.specs.Sides.{PutSide, TakeSide, AreSides, AreOpened, put_id}

module _ {S T : Type 0} (first second : PutSide S T) (take : TakeSide S T) (sides : AreSides (first ∷ second ∷ []) take) (first' second' : PutSide S T) (take' : TakeSide S T)
    (a : first'.who ≡ first.who) (b : second'.who ≡ second.who) (t : take'.who ≡ take.who) where
  same_sides : (p : ℕ) (s : PutSide S T) → slice_get (first' ∷ second' ∷ []) p ≡ Some s → s.who ≡ put_id take'.who p
  same_sides zero s e = let is : first' ≡ s = cc in ap (λ (u : PutSide S T). u.who) (sym is) ∙ a ∙ sides.same 0 first refl ∙ ap (λ w. put_id w 0) (sym t)
  same_sides (suc zero) s e = let is : second' ≡ s = cc in ap (λ (u : PutSide S T). u.who) (sym is) ∙ b ∙ sides.same 1 second refl ∙ ap (λ w. put_id w 1) (sym t)
  same_sides (suc (suc p)) s e = cc

  -- sides that are still the same are still all sides of their queue
  pub still_sides : (puts : List (PutSide S T)) → puts ≡ first' ∷ second' ∷ [] → AreSides puts take'
  still_sides puts are = subst (λ l. AreSides l take') (sym are) (record { count = sides.count ∙ ap (λ w. w.count) (sym t); same = same_sides })

-- The sides of a new queue
module _ {S T : Type 0} (purpose : S) (capacity count : ℕ) (first second : PutSide S T) (take : TakeSide S T) (opened : AreOpened purpose capacity count (first ∷ second ∷ []) take) where
  pub new_sources : (first.who.source ≡ 0) × (second.who.source ≡ 1)
  new_sources = (ap (λ w. w.source) (opened.sides.same 0 first refl), ap (λ w. w.source) (opened.sides.same 1 second refl))

  pub new_purposes : (first.who.queue.purpose ≡ purpose) × (second.who.queue.purpose ≡ purpose)
  new_purposes = (ap (λ w. w.queue.purpose) (opened.sides.same 0 first refl) ∙ opened.purpose, ap (λ w. w.queue.purpose) (opened.sides.same 1 second refl) ∙ opened.purpose)

  pub nothing_put : (first.put ≡ []) × (second.put ≡ [])
  nothing_put = ((opened.put 0 first refl).0, (opened.put 1 second refl).0)
