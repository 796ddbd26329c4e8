-- How far the elements of a list pass a test, and an element by its place.
use Rattle.std.proofs.Common.{◌≡◌, ℕ, zero, suc, ◌+◌, ◌-◌, ◌<◌, ◌≤◌, Bool, true, false, cond, List, [], ◌∷◌, ◌++◌, length, take, drop, set, Some, refl, sym, ap, arith}
use Rattle.std.specs.List.{prefix_len, slice_get}
use Rattle.std.specs.Option.{option_map_or}

more : (b : Bool) (n k : ℕ) → suc k ≤ cond b (1 + n) 0 → (k ≤ n → k + 1 ≤ n) → suc k + 1 ≤ cond b (1 + n) 0
more true n k h next = let here : k ≤ n = omega arith in omega (arith, next here)
more false n k h next = absurd (omega arith)

-- the next element passes too
pub prefix_len-more : {X : Type 0} (p : X → Bool) (xs : List X) (k : ℕ) → k ≤ prefix_len p xs → option_map_or p (slice_get xs k) false ≡ true → k + 1 ≤ prefix_len p xs
prefix_len-more p [] k h t = absurd (cc)
prefix_len-more p (x ∷ xs) zero h t = rw t (omega arith)
prefix_len-more p (x ∷ xs) (suc k) h t = more (p x) (prefix_len p xs) k h (λ here. prefix_len-more p xs k here t)

stops : (b : Bool) (n k : ℕ) → suc k ≤ cond b (1 + n) 0 → (k ≤ n → k ≡ n) → suc k ≡ cond b (1 + n) 0
stops true n k h next = let here : k ≤ n = omega arith in omega (arith, next here)
stops false n k h next = absurd (omega arith)

-- the next element doesn't pass, or there is none
pub prefix_len-stops : {X : Type 0} (p : X → Bool) (xs : List X) (k : ℕ) → k ≤ prefix_len p xs → option_map_or p (slice_get xs k) false ≡ false → k ≡ prefix_len p xs
prefix_len-stops p [] k h t = omega arith
prefix_len-stops p (x ∷ xs) zero h t = rw t refl
prefix_len-stops p (x ∷ xs) (suc k) h t = stops (p x) (prefix_len p xs) k h (λ here. prefix_len-stops p xs k here t)

-- an element that is put where it stands
pub set-slice_get : {X : Type 0} (xs : List X) (k : ℕ) (x : X) → slice_get xs k ≡ Some x → set xs k x ≡ xs
set-slice_get [] k x e = refl
set-slice_get (y ∷ xs) zero x e = let same : y ≡ x = cc in ap (λ z. z ∷ xs) (sym same)
set-slice_get (y ∷ xs) (suc k) x e = ap (λ zs. y ∷ zs) (set-slice_get xs k x e)

-- an element behind the others that doesn't pass
pub prefix_len-push : {X : Type 0} (p : X → Bool) (xs : List X) (x : X) → p x ≡ false → prefix_len p (xs ++ x ∷ []) ≡ prefix_len p xs
prefix_len-push p [] x e = rw e refl
prefix_len-push p (y ∷ xs) x e = ap (λ n. cond (p y) (1 + n) 0) (prefix_len-push p xs x e)

-- an element that passes in the place of another
pub prefix_len-set : {X : Type 0} (p : X → Bool) (xs : List X) (i : ℕ) (x : X) → p x ≡ true → prefix_len p xs ≤ prefix_len p (set xs i x)
prefix_len-set p [] i x e = omega arith
prefix_len-set p (y ∷ xs) zero x e = rw e (first (p y) (prefix_len p xs))
  where
    first : (b : Bool) (n : ℕ) → cond b (1 + n) 0 ≤ 1 + n
    first true n = omega arith
    first false n = omega arith
prefix_len-set p (y ∷ xs) (suc i) x e = rest (p y) (prefix_len p xs) (prefix_len p (set xs i x)) (prefix_len-set p xs i x e)
  where
    rest : (b : Bool) (m n : ℕ) → m ≤ n → cond b (1 + m) 0 ≤ cond b (1 + n) 0
    rest true m n h = omega arith
    rest false m n h = omega arith

-- without the first element, which passes
pub prefix_len-drop : {X : Type 0} (p : X → Bool) (xs : List X) → 0 < prefix_len p xs → prefix_len p (drop 1 xs) ≡ prefix_len p xs - 1
prefix_len-drop p [] h = absurd (omega arith)
prefix_len-drop p (x ∷ xs) h = by_test (p x) (prefix_len p xs) h
  where
    by_test : (b : Bool) (n : ℕ) → 0 < cond b (1 + n) 0 → n ≡ cond b (1 + n) 0 - 1
    by_test true n h = omega arith
    by_test false n h = absurd (omega arith)

-- an element within the first ones that pass
pub slice_get-take : {X : Type 0} (n : ℕ) (xs : List X) (k : ℕ) → k < n → slice_get (take n xs) k ≡ slice_get xs k
slice_get-take zero xs k h = absurd (omega arith)
slice_get-take (suc n) [] k h = refl
slice_get-take (suc n) (x ∷ xs) zero h = refl
slice_get-take (suc n) (x ∷ xs) (suc k) h = slice_get-take n xs k (omega arith)

-- all but the last, and the last
pub split_last : {X : Type 0} (xs : List X) (k : ℕ) (x : X) → length xs ≡ k + 1 → slice_get xs k ≡ Some x → xs ≡ take k xs ++ x ∷ []
split_last [] k x len at = absurd (cc)
split_last (y ∷ []) zero x len at = let same : y ≡ x = cc in ap (λ z. z ∷ []) same
split_last (y ∷ z ∷ xs) zero x len at = absurd (omega arith)
split_last (y ∷ xs) (suc k) x len at = ap (λ zs. y ∷ zs) (split_last xs k x (omega arith) at)
