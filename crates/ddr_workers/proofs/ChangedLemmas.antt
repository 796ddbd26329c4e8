-- A list of which one element was changed.
use Rattle.std.proofs.Common.{◌≡◌, ℕ, zero, suc, ◌<◌, Bool, true, false, cond, eqb, eq-eqb, List, [], ◌∷◌, ◌++◌, length, set, Option, Some, None, slice_get, refl, sym, ap, ◌∙◌, subst, arith}
use Rattle.std.specs.Option.{option_map, option_map_or}
use Rattle.std.proofs.lemmas.Bool.{eqb-true, false≢true}
use Rattle.std.proofs.lemmas.Bool.Decides.{nat_tests}
use Rattle.std.proofs.lemmas.List.{length-set}
use Rattle.ddr_workers.specs.Sides.{changed_at}

behind_first : (k : ℕ) → eqb (suc k) 0 ≡ false
behind_first k = grind (arith, nat_tests)

before_next : (k : ℕ) → eqb 0 (suc k) ≡ false
before_next k = grind (arith, nat_tests)

next_alike : (k n : ℕ) → eqb (suc k) (suc n) ≡ eqb k n
next_alike k n = grind (arith, nat_tests)

-- an element that is there
pub some_there : {X : Type 0} (xs : List X) (k : ℕ) → k < length xs → (x : X) × (slice_get xs k ≡ Some x)
some_there [] k within = absurd (omega (arith, within))
some_there (x ∷ xs) zero within = (x, refl)
some_there (x ∷ xs) (suc k) within = some_there xs k (omega (arith, within))

-- it stays there as more is added to the end
pub there_still : {X : Type 0} (xs ys : List X) (k : ℕ) (x : X) → slice_get xs k ≡ Some x → slice_get (xs ++ ys) k ≡ Some x
there_still [] ys k x is = cc
there_still (z ∷ zs) ys zero x is = is
there_still (z ∷ zs) ys (suc k) x is = there_still zs ys k x is

module _ {X : Type 0} (change : X → X) where
  -- the element there is changed, the others are not
  abbrev pub changed_if : ℕ → ℕ → X → X
  changed_if place k x = cond (eqb k place) (change x) x

  option_kept : (o : Option X) → o ≡ option_map (λ x. x) o
  option_kept (Some x) = refl
  option_kept None = refl

  set_behind : (place : ℕ) (x : X) (xs : List X) (o : Option X) → option_map_or (λ y. set (x ∷ xs) (suc place) (change y)) o (x ∷ xs) ≡ x ∷ option_map_or (λ y. set xs place (change y)) o xs
  set_behind place x xs (Some y) = refl
  set_behind place x xs None = refl

  pub changed_behind : (place : ℕ) (x : X) (xs : List X) → changed_at (suc place) change (x ∷ xs) ≡ x ∷ changed_at place change xs
  changed_behind place x xs = set_behind place x xs (slice_get xs place)

  pub changed_get : (place : ℕ) (xs : List X) (k : ℕ) → slice_get (changed_at place change xs) k ≡ option_map (changed_if place k) (slice_get xs k)
  changed_get place [] k = refl
  changed_get zero (x ∷ xs) zero = refl
  changed_get zero (x ∷ xs) (suc k) = option_kept (slice_get xs k) ∙ sym (ap (λ b. option_map (λ y. cond b (change y) y) (slice_get xs k)) (behind_first k))
  changed_get (suc place) (x ∷ xs) zero = ap (λ ys. slice_get ys 0) (changed_behind place x xs) ∙ sym (ap (λ b. Some (cond b (change x) x)) (before_next place))
  changed_get (suc place) (x ∷ xs) (suc k) = ap (λ ys. slice_get ys (suc k)) (changed_behind place x xs) ∙ changed_get place xs k
      ∙ sym (ap (λ b. option_map (λ y. cond b (change y) y) (slice_get xs k)) (next_alike k place))

  set_length : (place : ℕ) (xs : List X) (o : Option X) → length (option_map_or (λ y. set xs place (change y)) o xs) ≡ length xs
  set_length place xs (Some y) = length-set xs place (change y)
  set_length place xs None = refl

  pub length-changed : (place : ℕ) (xs : List X) → length (changed_at place change xs) ≡ length xs
  length-changed place xs = set_length place xs (slice_get xs place)

  by_place : (P Q : ℕ → X → Type 0) (place : ℕ) → ((x : X) → P place x → Q place (change x)) → ((k : ℕ) (x : X) → (k ≡ place → ⊥) → P k x → Q k x)
      → (k : ℕ) (x : X) (b : Bool) → eqb k place ≡ b → P k x → Q k (cond b (change x) x)
  by_place P Q place here others k x true e p = let same = eqb-true k place e in subst (λ n. Q n (change x)) (sym same) (here x (subst (λ n. P n x) same p))
  by_place P Q place here others k x false e p = others k x (λ same. false≢true (sym e ∙ eq-eqb k place same)) p

  by_old : (P Q : ℕ → X → Type 0) (place : ℕ) → ((x : X) → P place x → Q place (change x)) → ((k : ℕ) (x : X) → (k ≡ place → ⊥) → P k x → Q k x)
      → (k : ℕ) (y : X) (o : Option X) → ((x : X) → o ≡ Some x → P k x) → option_map (changed_if place k) o ≡ Some y → Q k y
  by_old P Q place here others k y None each is = cc
  by_old P Q place here others k y (Some x) each is = let same : changed_if place k x ≡ y = cc in subst (Q k) same (by_place P Q place here others k x (eqb k place) refl (each x refl))

  -- what holds of each element at its place, holds of each after the change
  pub each_changed : (P Q : ℕ → X → Type 0) (place : ℕ) (xs : List X) → ((k : ℕ) (x : X) → slice_get xs k ≡ Some x → P k x)
      → ((x : X) → P place x → Q place (change x)) → ((k : ℕ) (x : X) → (k ≡ place → ⊥) → P k x → Q k x)
      → (k : ℕ) (y : X) → slice_get (changed_at place change xs) k ≡ Some y → Q k y
  each_changed P Q place xs each here others k y is = by_old P Q place here others k y (slice_get xs k) (each k) (sym (changed_get place xs k) ∙ is)
