-- The lowest rule that passes a test.
use Rattle.std.proofs.Common.{◌≡◌, ℕ, zero, suc, ◌+◌, ◌<◌, ◌≤◌, length, take, take_all, get_or, Bool, true, false, List, [], ◌∷◌, Some, None, refl, sym, add-one, arith}
use Rattle.std.specs.List.{find, AllByRecursion}
use Rattle.ddr_trace.specs.declared.rule.Rule.{Rule}
use Rattle.ddr_trace.specs.declared.rule.Rule.TheVariants as rule
use Rattle.ddr_trace.specs.declared.rule.TheConstants.Rule.{ALL}
use Rattle.ddr_trace.specs.Legality.{lowest_rule}

-- tests that agree find the same
find_alike : {X : Type 0} (p q : X → Bool) (xs : List X) → ((x : X) → p x ≡ q x) → find p xs ≡ find q xs
find_alike p q [] same = refl
find_alike p q (x ∷ xs) same = rw (same x, find_alike p q xs same)

-- where none is found, each fails
none_found : {X : Type 0} (p : X → Bool) (xs : List X) → find p xs ≡ None → AllByRecursion (λ x. p x ≡ false) xs
none_found p [] h = tt
none_found p (x ∷ xs) h = by_test (p x) refl (none_found p xs)
  where
    by_test : (w : Bool) → p x ≡ w → (find p xs ≡ None → AllByRecursion (λ x. p x ≡ false) xs) → (p x ≡ false) × AllByRecursion (λ x. p x ≡ false) xs
    by_test true e rest = let found : Some x ≡ None = rw e at h in (cc, rest (cc))
    by_test false e rest = (e, rest (rw e at h))

-- where each fails, none is found
find_none : {X : Type 0} (p : X → Bool) (xs : List X) → ((x : X) → p x ≡ false) → find p xs ≡ None
find_none p [] fails = refl
find_none p (x ∷ xs) fails = rw (fails x) (find_none p xs fails)

-- what is found passes
found_passes : {X : Type 0} (p : X → Bool) (xs : List X) (y : X) → find p xs ≡ Some y → p y ≡ true
found_passes p [] y h = cc
found_passes p (x ∷ xs) y h = by_test (p x) refl (found_passes p xs y)
  where
    by_test : (w : Bool) → p x ≡ w → (find p xs ≡ Some y → p y ≡ true) → p y ≡ true
    by_test true e rest =
        let here : Some x ≡ Some y = rw e at h in
        let same : x ≡ y = cc in
        rw (← same) e
    by_test false e rest = rest (rw e at h)

-- a step of a search from the front: none so far, and what is here passes or fails
find_here : {X : Type 0} (p : X → Bool) (xs : List X) (i : ℕ) (d : X) → i < length xs → find p (take i xs) ≡ None → p (get_or xs i d) ≡ true → find p xs ≡ Some (get_or xs i d)
find_here p [] i d within none here = absurd (omega arith)
find_here p (x ∷ xs) zero d within none here = rw here
find_here p (x ∷ xs) (suc i) d within none here = by_test (p x) refl (find_here p xs i d (omega arith))
  where
    by_test : (w : Bool) → p x ≡ w → (find p (take i xs) ≡ None → p (get_or xs i d) ≡ true → find p xs ≡ Some (get_or xs i d)) → find p (x ∷ xs) ≡ Some (get_or xs i d)
    by_test true e rest = let found : Some x ≡ None = rw e at none in cc
    by_test false e rest = rw e (rest (rw e at none) here)

find_more : {X : Type 0} (p : X → Bool) (xs : List X) (i : ℕ) (d : X) → i < length xs → find p (take i xs) ≡ None → p (get_or xs i d) ≡ false → find p (take (suc i) xs) ≡ None
find_more p [] i d within none here = absurd (omega arith)
find_more p (x ∷ xs) zero d within none here = rw here
find_more p (x ∷ xs) (suc i) d within none here = by_test (p x) refl (find_more p xs i d (omega arith))
  where
    by_test : (w : Bool) → p x ≡ w → (find p (take i xs) ≡ None → p (get_or xs i d) ≡ false → find p (take (suc i) xs) ≡ None) → find p (take (suc (suc i)) (x ∷ xs)) ≡ None
    by_test true e rest = let found : Some x ≡ None = rw e at none in cc
    by_test false e rest = rw e (rest (rw e at none) here)

-- each rule is among all rules
of_each : (test : Rule → Bool) → AllByRecursion (λ r. test r ≡ false) ALL → (r : Rule) → test r ≡ false
of_each test all _ = grind (arith, all)

pub lowest_rule-alike : (p q : Rule → Bool) → ((r : Rule) → p r ≡ q r) → lowest_rule p ≡ lowest_rule q
unfolding lowest_rule
lowest_rule-alike p q same = find_alike p q ALL same

pub lowest_rule-none : (test : Rule → Bool) → ((r : Rule) → test r ≡ false) → lowest_rule test ≡ None
unfolding lowest_rule
lowest_rule-none test fails = find_none test ALL fails

pub none_broken : (test : Rule → Bool) → lowest_rule test ≡ None → (r : Rule) → test r ≡ false
unfolding lowest_rule
none_broken test none = of_each test (none_found test ALL none)

pub lowest_passes : (test : Rule → Bool) (r : Rule) → lowest_rule test ≡ Some r → test r ≡ true
unfolding lowest_rule
lowest_passes test r h = found_passes test ALL r h

-- the loop over all rules, as far as it has come
abbrev pub NoneBefore : (Rule → Bool) → ℕ → Type 0
NoneBefore test i = find test (take i ALL) ≡ None

pub lowest_here : (test : Rule → Bool) (i : ℕ) → i < length ALL → NoneBefore test i → test (get_or ALL i rule.Order) ≡ true → Some (get_or ALL i rule.Order) ≡ lowest_rule test
unfolding lowest_rule
lowest_here test i within none here = sym (find_here test ALL i rule.Order within none here)

pub none_more : (test : Rule → Bool) (i : ℕ) → i < length ALL → NoneBefore test i → test (get_or ALL i rule.Order) ≡ false → NoneBefore test (i + 1)
none_more test i within none here = rw add-one (find_more test ALL i rule.Order within none here)

pub none_at_end : (test : Rule → Bool) (i : ℕ) → length ALL ≤ i → NoneBefore test i → None ≡ lowest_rule test
unfolding lowest_rule
none_at_end test i past none = sym (rw (take_all i ALL past) at none)
