-- Ends that are put in order: where no number stands twice and each below a count is there, the numbers are the places.
use Rattle.std.proofs.Common.{◌≡◌, ℕ, zero, suc, ◌+◌, ◌<◌, ◌≤◌, Bool, true, false, cond, eqb, ltb, eq-eqb, ◌||◌, ◌&&◌, List, [], ◌∷◌, length, Some, slice_get, sum_by, slice_index_or, refl, sym, ap, ◌∙◌, subst, arith}
use Rattle.std.specs.List.{list_all, list_any, range_with_len}
use Rattle.std.specs.List.Sorted.{IsNonDecreasingBy, IsPermutation}
use Rattle.std.proofs.lemmas.Bool.{eqb-true, ltb-true, ltb-false}
use Rattle.std.proofs.lemmas.List.Sorted.{All-permutation, IsNonDecreasingBy-drop, sum_by-IsPermutation}
use Rattle.std.proofs.lemmas.List.Sums.{sum_by-cons}
use Rattle.std.proofs.lemmas.Option.{get_or_from_slice_get, slice_get_within}
use Rattle.ddr_channel.proofs.HeldLemmas.{part_of_sum}
use Rattle.ddr_channel.proofs.ListLemmas.{All-at}
use Rattle.ddr_workers.specs.Closing.{has_each, has_number, has_twice}
use Rattle.ddr_workers.proofs.HeadlineLemmas.{counted_there}
use Rattle.ddr_workers.proofs.OpenLemmas.{all_from}

pub or_left : (a b : Bool) → (a || b) ≡ false → a ≡ false
or_left false b e = refl
or_left true b e = e

pub or_right : (a b : Bool) → (a || b) ≡ false → b ≡ false
or_right false b e = e
or_right true b e = cc

and_left : (a b : Bool) → (a && b) ≡ true → a ≡ true
and_left true b e = refl
and_left false b e = e

and_right : (a b : Bool) → (a && b) ≡ true → b ≡ true
and_right true b e = e
and_right false b e = cc

pub none_passes : {X : Type 0} (p : X → Bool) (xs : List X) (k : ℕ) (x : X) → list_any p xs ≡ false → slice_get xs k ≡ Some x → p x ≡ false
none_passes p [] k x none there = cc
none_passes p (y ∷ ys) zero x none there = let same : y ≡ x = cc in ap p (sym same) ∙ or_left (p y) (list_any p ys) none
none_passes p (y ∷ ys) (suc k) x none there = none_passes p ys k x (or_right (p y) (list_any p ys) none) there

in_range_by : (p : ℕ → Bool) (base n : ℕ) (rest b : Bool) → (p base && rest) ≡ true → base ≤ n → ltb base n ≡ b → (base + 1 ≤ n → p n ≡ true) → p n ≡ true
in_range_by p base n rest true all above e later = later (omega (arith, ltb-true base n e))
in_range_by p base n rest false all above e later =
    let same : base ≡ n = omega (arith, above, ltb-false base n e) in
    subst (λ m. p m ≡ true) same (and_left (p base) rest all)

all_in_range : (p : ℕ → Bool) (base count n : ℕ) → list_all p (range_with_len base count) ≡ true → base ≤ n → n < base + count → p n ≡ true
all_in_range p base zero n all above below = absurd (omega (arith, above, below))
all_in_range p base (suc count) n all above below =
    let rest = list_all p (range_with_len (base + 1) count) in
    in_range_by p base n rest (ltb base n) all above refl (λ next. all_in_range p (base + 1) count n (and_right (p base) rest all) next (omega (arith, below)))

module _ {X : Type 0} (key : X → ℕ) where
  abbrev one : ℕ → X → ℕ
  one n x = cond (eqb (key x) n) 1 0

  one_here : (n : ℕ) (x : X) → key x ≡ n → one n x ≡ 1
  one_here n x same = ap (λ b. cond b 1 0) (eq-eqb (key x) n same)

  one_other : (b : Bool) → 1 ≤ cond b 1 0 → b ≡ true
  one_other true some = refl
  one_other false some = absurd (omega (arith, some))

  one_of : (n : ℕ) (x : X) → 1 ≤ one n x → key x ≡ n
  one_of n x some = eqb-true (key x) n (one_other (eqb (key x) n) some)

  not_there : (n : ℕ) (xs : List X) → has_number key n xs ≡ false → sum_by (one n) xs ≡ 0
  not_there n [] none = refl
  not_there n (x ∷ xs) none =
      let here : one n x ≡ 0 = ap (λ b. cond b 1 0) (or_left (eqb (key x) n) (has_number key n xs) none) in
      omega (arith, sum_by-cons (one n) x xs, here, not_there n xs (or_right (eqb (key x) n) (has_number key n xs) none))

  there_by : (n : ℕ) (x : X) (xs : List X) (b : Bool) → eqb (key x) n ≡ b → (b || has_number key n xs) ≡ true → (has_number key n xs ≡ true → 1 ≤ sum_by (one n) xs) → 1 ≤ sum_by (one n) (x ∷ xs)
  there_by n x xs true e some rest = let here : one n x ≡ 1 = ap (λ b. cond b 1 0) e in omega (arith, sum_by-cons (one n) x xs, here)
  there_by n x xs false e some rest = omega (arith, sum_by-cons (one n) x xs, rest some)

  is_there : (n : ℕ) (xs : List X) → has_number key n xs ≡ true → 1 ≤ sum_by (one n) xs
  is_there n [] some = cc
  is_there n (x ∷ xs) some = there_by n x xs (eqb (key x) n) refl some (is_there n xs)

  few_by : (n : ℕ) (x : X) (xs : List X) (b : Bool) → eqb (key x) n ≡ b → has_number key (key x) xs ≡ false → sum_by (one n) xs ≤ 1 → sum_by (one n) (x ∷ xs) ≤ 1
  few_by n x xs true e none rest =
      let here : one n x ≡ 1 = ap (λ b. cond b 1 0) e in
      omega (arith, sum_by-cons (one n) x xs, here, not_there n xs (subst (λ m. has_number key m xs ≡ false) (eqb-true (key x) n e) none))
  few_by n x xs false e none rest = let here : one n x ≡ 0 = ap (λ b. cond b 1 0) e in omega (arith, sum_by-cons (one n) x xs, here, rest)

  few_of : (n : ℕ) (xs : List X) → has_twice key xs ≡ false → sum_by (one n) xs ≤ 1
  few_of n [] none = omega arith
  few_of n (x ∷ xs) none =
      few_by n x xs (eqb (key x) n) refl (or_left (has_number key (key x) xs) (has_twice key xs) none) (few_of n xs (or_right (has_number key (key x) xs) (has_twice key xs) none))

  -- numbers that are places
  pub record AreInPlace (base count : ℕ) (xs : List X) : Type 0 where
    pub many : length xs ≡ count
    pub place : (k : ℕ) (x : X) → slice_get xs k ≡ Some x → key x ≡ base + k

  pub record AreThese (base count : ℕ) (xs : List X) : Type 0 where
    pub rising : IsNonDecreasingBy key xs
    pub few : (n : ℕ) → sum_by (one n) xs ≤ 1
    pub all : (n : ℕ) → base ≤ n → n < base + count → 1 ≤ sum_by (one n) xs
    pub within : (k : ℕ) (x : X) → slice_get xs k ≡ Some x → (base ≤ key x) × (key x < base + count)

  -- the first is at most each
  lowest : (x : X) (xs : List X) → IsNonDecreasingBy key (x ∷ xs) → (k : ℕ) (y : X) → slice_get (x ∷ xs) k ≡ Some y → key x ≤ key y
  lowest x xs rising k y there =
      let below = slice_get_within (x ∷ xs) k y there in
      let is : slice_index_or (x ∷ xs) k x ≡ y = get_or_from_slice_get (x ∷ xs) k y x there in
      subst (λ z. key x ≤ key z) is (rising 0 k x (omega arith) below)

  first_is : (base count : ℕ) (x : X) (xs : List X) → AreThese base (suc count) (x ∷ xs) → key x ≡ base
  first_is base count x xs these =
      let found = counted_there (one base) (x ∷ xs) (these.all base (omega arith) (omega arith)) in
      omega (arith, lowest x xs these.rising found.0 found.1 found.2, one_of base found.1 found.3, (these.within 0 x refl).0)

  other_by : (n : ℕ) (z : X) (b : Bool) → eqb (key z) n ≡ b → key z < n → cond {A = ℕ} b 1 0 ≡ 0
  other_by n z true e below = absurd (omega (arith, eqb-true (key z) n e, below))
  other_by n z false e below = refl

  other_number : (n : ℕ) (z : X) → key z < n → one n z ≡ 0
  other_number n z below = other_by n z (eqb (key z) n) refl below

  -- none behind the first has its number
  behind : (base : ℕ) (x y : X) (xs : List X) (k : ℕ) → one base x ≡ 1 → sum_by (one base) (x ∷ xs) ≤ 1 → base ≤ key y → slice_get xs k ≡ Some y → base + 1 ≤ key y
  behind base x y xs k here few above there = behind_by (ltb base (key y)) refl
    where
      behind_by : (b : Bool) → ltb base (key y) ≡ b → base + 1 ≤ key y
      behind_by true e = omega (arith, ltb-true base (key y) e)
      behind_by false e =
          let same : key y ≡ base = omega (arith, above, ltb-false base (key y) e) in
          absurd (omega (arith, few, here, sum_by-cons (one base) x xs, part_of_sum (one base) xs k y there, one_here base y same))

  rest_are : (base count : ℕ) (x : X) (xs : List X) → AreThese base (suc count) (x ∷ xs) → AreThese (base + 1) count xs
  rest_are base count x xs these =
      let first = first_is base count x xs these in
      let here = one_here base x first in
      record {
        rising = IsNonDecreasingBy-drop key 1 (x ∷ xs) these.rising;
        few = λ n. omega (arith, these.few n, sum_by-cons (one n) x xs);
        all = λ n above below.
            omega (arith, these.all n (omega (arith, above)) (omega (arith, below)), sum_by-cons (one n) x xs, other_number n x (omega (arith, first, above)));
        within = λ k y there.
            let whole = these.within (suc k) y there in
            (behind base x y xs k here (these.few base) whole.0 there, omega (arith, whole.1));
      }

  in_front : (base count : ℕ) (x : X) (xs : List X) → key x ≡ base → AreInPlace (base + 1) count xs → (k : ℕ) (y : X) → slice_get (x ∷ xs) k ≡ Some y → key y ≡ base + k
  in_front base count x xs first rest zero y there = let same : x ≡ y = cc in ap key (sym same) ∙ first ∙ omega arith
  in_front base count x xs first rest (suc k) y there = omega (arith, rest.place k y there)

  in_place : (base count : ℕ) (xs : List X) → AreThese base count xs → AreInPlace base count xs
  in_place base zero [] these = record { many = refl; place = λ k x there. cc }
  in_place base (suc count) [] these = absurd (omega (arith, these.all base (omega arith) (omega arith)))
  in_place base zero (x ∷ xs) these = (let w = these.within 0 x refl in absurd (omega (arith, w.0, w.1)))
  in_place base (suc count) (x ∷ xs) these =
      let rest = in_place (base + 1) count xs (rest_are base count x xs these) in
      record { many = ap suc rest.many; place = in_front base count x xs (first_is base count x xs these) rest }

  -- an element of a list stands in each permutation of it
  pub comes_from : (xs ys : List X) → IsPermutation xs ys → (k : ℕ) (y : X) → slice_get ys k ≡ Some y → (i : ℕ) × (slice_get xs i ≡ Some y)
  comes_from xs ys same k y there =
      All-at (λ z. (i : ℕ) × (slice_get xs i ≡ Some z)) ys k y (All-permutation (λ z. (i : ℕ) × (slice_get xs i ≡ Some z)) xs ys same (all_from (λ z. (i : ℕ) × (slice_get xs i ≡ Some z)) xs (λ i x h. (i, h)))) there

  -- put in order, each stands at the place of its number
  pub in_order : (count : ℕ) (xs ys : List X) → IsPermutation xs ys → IsNonDecreasingBy key ys → has_twice key xs ≡ false → has_each key count xs ≡ true → ((k : ℕ) (x : X) → slice_get xs k ≡ Some x → key x < count)
      → AreInPlace 0 count ys
  in_order count xs ys same rising none each within = in_place 0 count ys (record {
    rising = rising;
    few = λ n. omega (arith, sum_by-IsPermutation (one n) xs ys same, few_of n xs none);
    all = λ n above below.
        omega (arith, sum_by-IsPermutation (one n) xs ys same, is_there n xs (all_in_range (λ m. has_number key m xs) 0 count n each above below));
    within = λ k y there. let from = comes_from xs ys same k y there in (omega arith, omega (arith, within from.0 y from.1));
  })
