-- Lists of sides, by their places.
use Rattle.std.proofs.Common.{◌≡◌, ℕ, zero, suc, ◌⊎◌, List, [], ◌∷◌, ◌++◌, length, slice_get, Some, subst, sym, ap, refl, inl, inr, ⊎_elim}

-- a new last element is at the end alone
pub slice_get-last : {X : Type 0} (xs : List X) (x : X) (k : ℕ) (y : X) → slice_get (xs ++ x ∷ []) k ≡ Some y → (slice_get xs k ≡ Some y) ⊎ ((k ≡ length xs) × (x ≡ y))
slice_get-last [] x zero y e = inr (refl, cc)
slice_get-last [] x (suc k) y e = cc
slice_get-last (z ∷ xs) x zero y e = inl e
slice_get-last (z ∷ xs) x (suc k) y e = ⊎_elim inl (λ (t : (k ≡ length xs) × (x ≡ y)). inr (ap suc t.0, t.1)) (slice_get-last xs x k y e)

-- what holds of each element at its place, and of a new last one, holds of each
pub each_pushed : {X : Type 0} (P : ℕ → X → Type 0) (xs : List X) (x : X) → ((k : ℕ) (y : X) → slice_get xs k ≡ Some y → P k y) → P (length xs) x
    → (k : ℕ) (y : X) → slice_get (xs ++ x ∷ []) k ≡ Some y → P k y
each_pushed {X} P xs x before last k y e =
    ⊎_elim (before k y) (λ (t : (k ≡ length xs) × (x ≡ y)). subst (λ (z : ℕ × X). P z.0 z.1) (λ i. (sym t.0 i, t.1 i)) last) (slice_get-last xs x k y e)

slice_get-seam : {X : Type 0} (xs : List X) (x : X) (ys : List X) → slice_get (xs ++ x ∷ ys) (length xs) ≡ Some x
slice_get-seam [] x ys = refl
slice_get-seam (z ∷ xs) x ys = slice_get-seam xs x ys

-- the element between what came before and what comes behind
pub slice_get-here : {X : Type 0} (xs : List X) (x : X) (ys zs : List X) → xs ++ x ∷ ys ≡ zs → slice_get zs (length xs) ≡ Some x
slice_get-here {X} xs x ys zs e = subst (λ (l : List X). slice_get l (length xs) ≡ Some x) e (slice_get-seam xs x ys)
