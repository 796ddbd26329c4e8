-- Elements of lists by their places.
use Rattle.std.proofs.Common.{◌≡◌, ℕ, zero, suc, ◌<◌, Bool, true, false, List, [], ◌∷◌, ◌++◌, Some, length, take, refl, sym, ap, ◌∙◌, ◌⊎◌, inl, inr, arith}
use Rattle.std.specs.List.{filter, slice_get}
use Rattle.std.proofs.lemmas.Bool.{true≢false}

-- what stands before a place
pub taken_at : {X : Type 0} (xs : List X) (n i : ℕ) (x : X) → i < n → slice_get xs i ≡ Some x → slice_get (take n xs) i ≡ Some x
taken_at xs zero i x below is = absurd (omega arith)
taken_at [] (suc n) i x below is = is
taken_at (y ∷ ys) (suc n) zero x below is = is
taken_at (y ∷ ys) (suc n) (suc i) x below is = taken_at ys n i x (omega arith) is

-- an element of a list that grew by one
pub pushed : {X : Type 0} (xs : List X) (y : X) (k : ℕ) (x : X) → slice_get (xs ++ y ∷ []) k ≡ Some x → ((k < length xs) × (slice_get xs k ≡ Some x)) ⊎ ((k ≡ length xs) × (y ≡ x))
pushed [] y zero x is = inr (refl, cc)
pushed [] y (suc k) x is = cc
pushed (z ∷ zs) y zero x is = inl (omega arith, is)
pushed (z ∷ zs) y (suc k) x is = elim (pushed zs y k x is) [
  | inl old ↦ inl (omega (arith, old.0), old.1)
  | inr new ↦ inr (omega (arith, new.0), new.1)
]

pub at_place : {X : Type 0} (xs : List X) (k : ℕ) → k < length xs → (x : X) × (slice_get xs k ≡ Some x)
at_place [] k within = absurd (omega arith)
at_place (x ∷ xs) zero within = (x, refl)
at_place (x ∷ xs) (suc k) within = at_place xs k (omega arith)

-- a list of which no element passes, and one of which only this one does

pub none_passes : {X : Type 0} (test : X → Bool) (xs : List X) → ((i : ℕ) (x : X) → slice_get xs i ≡ Some x → test x ≡ false) → filter test xs ≡ []
none_passes test [] none = refl
none_passes test (x ∷ xs) none = rw (none 0 x refl) (none_passes test xs (λ i y is. none (suc i) y is))

pub passes_none : {X : Type 0} (test : X → Bool) (xs : List X) (i : ℕ) (x : X) → filter test xs ≡ [] → slice_get xs i ≡ Some x → test x ≡ false
passes_none test [] i x none is = cc
passes_none {X} test (y ∷ ys) i x none is = by_test (test y) refl i is (passes_none test ys)
  where
    by_test : (w : Bool) → test y ≡ w → (n : ℕ) → slice_get (y ∷ ys) n ≡ Some x → ((k : ℕ) (z : X) → filter test ys ≡ [] → slice_get ys k ≡ Some z → test z ≡ false) → test x ≡ false
    by_test true t n at rest = let some : y ∷ filter test ys ≡ [] = rw t at none in cc
    by_test false t zero at rest = let same : y ≡ x = cc in sym (ap test same) ∙ t
    by_test false t (suc n) at rest = rest n x (rw t at none) at

pub passes_one : {X : Type 0} (test : X → Bool) (xs : List X) (i : ℕ) (x one : X) → filter test xs ≡ one ∷ [] → slice_get xs i ≡ Some x → test x ≡ true → x ≡ one
passes_one test [] i x one only is passes = cc
passes_one {X} test (y ∷ ys) i x one only is passes = by_test (test y) refl i is (passes_one test ys)
  where
    by_test : (w : Bool) → test y ≡ w → (n : ℕ) → slice_get (y ∷ ys) n ≡ Some x → ((k : ℕ) (z o : X) → filter test ys ≡ o ∷ [] → slice_get ys k ≡ Some z → test z ≡ true → z ≡ o) → x ≡ one
    by_test true t zero at rest =
        let all : y ∷ filter test ys ≡ one ∷ [] = rw t at only in
        let here : y ≡ x = cc in
        let there : y ≡ one = cc in
        cc
    by_test true t (suc n) at rest =
        let all : y ∷ filter test ys ≡ one ∷ [] = rw t at only in
        let none : filter test ys ≡ [] = cc in
        absurd (true≢false (sym passes ∙ passes_none test ys n x none at))
    by_test false t zero at rest = let same : y ≡ x = cc in absurd (true≢false (sym passes ∙ sym (ap test same) ∙ t))
    by_test false t (suc n) at rest = rest n x one (rw t at only) at passes
