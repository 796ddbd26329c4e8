-- An item between what comes before it and what comes behind.
use Rattle.std.proofs.Common.{◌≡◌, ℕ, eqb, eq-eqb, List, [], ◌∷◌, ◌++◌, filter, All, refl, ◌∙◌}
use Rattle.std.proofs.lemmas.List.Elements.{filter-append, All-head, All-tail}

module _ {T : Type 0} where
  -- what holds of all holds of it
  pub All-of : (P : T → Type 0) (xs : List T) (x : T) (ys : List T) → All P (xs ++ x ∷ ys) → P x
  All-of P [] x ys h = All-head P x ys h
  All-of P (y ∷ xs) x ys h = All-of P xs x ys (All-tail P y (xs ++ x ∷ ys) h)

  -- it stands in the list of its own source
  pub of_source-next : (source : T → ℕ) (xs : List T) (x : T) (ys : List T)
      → filter (λ y. eqb (source y) (source x)) (xs ++ x ∷ ys) ≡ filter (λ y. eqb (source y) (source x)) xs ++ x ∷ filter (λ y. eqb (source y) (source x)) ys
  of_source-next source xs x ys = filter-append (λ y. eqb (source y) (source x)) xs (x ∷ ys) ∙ rw (eq-eqb (source x) (source x) refl)
