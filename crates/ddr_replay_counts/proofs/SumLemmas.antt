-- Sums that stop at the last number of a u64, and sums over channels.
use Rattle.std.proofs.Common.{◌≡◌, ◌≢◌, ◌<◌, ◌≤◌, ◌+◌, ◌*◌, ◌∙◌, ℕ, zero, suc, min, Bool, true, false, cond, List, [], ◌∷◌, length, map, refl, sym, ap, add-one, suc-mul, arith, inl, inr}
use Rattle.std.specs.List.{fold, range_with_len, slice_index_or, slice_set, sum_by}
use Rattle.std.proofs.lemmas.Bool.Decides.{eqb_tells}
use Rattle.std.proofs.lemmas.List.FromFn.{sum_by-map-range_with_len_more}
use Rattle.std.proofs.lemmas.List.Sums.{get_or-le-sum_by, sum_by-cons, sum_by-set}
use Rattle.ddr_statistics.specs.Noted.{raised, raised_if}

-- what is told of a number that may be too large
abbrev pub stopped : ℕ → ℕ
stopped n = min n 18446744073709551615

-- a number, or 0
abbrev pub counted_if : Bool → ℕ
counted_if b = cond b 1 0

-- one number of a sum grows

one_grows : (sum old new after total by : ℕ) → after + old ≡ sum + new → old ≤ sum → new ≡ stopped (old + by) → stopped sum ≡ stopped total
    → stopped after ≡ stopped (total + by)
one_grows sum old new after total by set part grows same = omega (arith, set, part, grows, same)

-- an element of a list changes, and with it the sum over the list
pub sum_grows : {X : Type 0} (f : X → ℕ) (xs : List X) (p : ℕ) (d new : X) (by total : ℕ) → p < length xs
    → f new ≡ raised by (f (slice_index_or xs p d)) → stopped (sum_by f xs) ≡ stopped total
    → stopped (sum_by f (slice_set xs p new)) ≡ stopped (total + by)
sum_grows f xs p d new by total inside grows same =
    one_grows (sum_by f xs) (f (slice_index_or xs p d)) (f new) (sum_by f (slice_set xs p new)) total by (sum_by-set f xs p new d inside)
    (get_or-le-sum_by f xs p d inside) grows same

pub sum_stays : {X : Type 0} (f : X → ℕ) (xs : List X) (p : ℕ) (d new : X) → p < length xs → f new ≡ f (slice_index_or xs p d)
    → sum_by f (slice_set xs p new) ≡ sum_by f xs
sum_stays f xs p d new inside same = omega (arith, sum_by-set f xs p new d inside, same)

-- by one, or not
pub sum_grows_if : {X : Type 0} (f : X → ℕ) (xs : List X) (p : ℕ) (d new : X) (b : Bool) (total : ℕ) → p < length xs
    → f new ≡ raised_if b (f (slice_index_or xs p d)) → stopped (sum_by f xs) ≡ stopped total
    → stopped (sum_by f (slice_set xs p new)) ≡ stopped (total + counted_if b)
sum_grows_if f xs p d new true total inside grows same = sum_grows f xs p d new 1 total inside grows same
sum_grows_if f xs p d new false total inside grows same = omega (arith, sum_stays f xs p d new inside grows, same)

-- several together, of which each number is a sum

step_stopped : (a x more : ℕ) → stopped (stopped (a + x) + more) ≡ stopped (a + (x + more))
step_stopped a x more = omega arith

none_more : (a : ℕ) → stopped a ≡ stopped (a + 0)
none_more a = omega arith

-- from a sum on that is told, too
pub all_summed : {X : Type 0} (f : X → ℕ) (xs : List X) (a : ℕ) → a ≡ stopped a
    → fold (λ sum x. raised (f x) sum) a xs ≡ stopped (a + sum_by f xs)
all_summed f [] a small = small ∙ none_more a
all_summed f (x ∷ xs) a small =
    all_summed f xs (raised (f x) a) (omega arith)
    ∙ step_stopped a (f x) (sum_by f xs)
    ∙ ap (λ n. stopped (a + n)) (sym (sum_by-cons f x xs))

joined : {X : Type 0} (f : X → ℕ) (join : X → X → X) → ((a b : X) → f (join a b) ≡ raised (f b) (f a)) → (xs : List X) (a : X)
    → f (fold join a xs) ≡ fold (λ sum x. raised (f x) sum) (f a) xs
joined f join each [] a = refl
joined f join each (x ∷ xs) a = joined f join each xs (join a x) ∙ ap (λ n. fold (λ sum y. raised (f y) sum) n xs) (each a x)

pub all_together : {X : Type 0} (f : X → ℕ) (join : X → X → X) → ((a b : X) → f (join a b) ≡ raised (f b) (f a)) → (xs : List X) (a : X)
    → f a ≡ stopped (f a) → f (fold join a xs) ≡ stopped (f a + sum_by f xs)
all_together f join each xs a small = joined f join each xs a ∙ all_summed f xs (f a) small

-- sums over the first so many numbers

abbrev pub over : (ℕ → ℕ) → ℕ → ℕ
over f zero = 0
over f (suc n) = over f n + f n

pub over_range : {X : Type 0} (g : X → ℕ) (f : ℕ → X) (n : ℕ) → sum_by g (map f (range_with_len 0 n)) ≡ over (λ c. g (f c)) n
over_range g f zero = refl
over_range g f (suc n) =
    ap (λ k. sum_by g (map f (range_with_len 0 k))) (sym (add-one n))
    ∙ sum_by-map-range_with_len_more g f 0 n n (omega arith)
    ∙ ap (λ k. k + g (f n)) (over_range g f n)

pub over_same : (f g : ℕ → ℕ) (n : ℕ) → ((c : ℕ) → c < n → g c ≡ f c) → over g n ≡ over f n
over_same f g zero same = refl
over_same f g (suc n) same = omega (arith, over_same f g n (λ c below. same c (omega (arith, below))), same n (omega arith))

-- one of them is more
pub over_more : (f g : ℕ → ℕ) (n c by : ℕ) → c < n → g c ≡ f c + by → ((d : ℕ) → d ≢ c → g d ≡ f d) → over g n ≡ over f n + by
over_more f g zero c by below more others = absurd (omega (arith, below))
over_more f g (suc n) c by below more others = elim (eqb_tells n c) as (λ _. over g (suc n) ≡ over f (suc n) + by) [
  | inl is ↦ (
      let here : g n ≡ f n + by = ap g is.1 ∙ more ∙ sym (ap (λ k. f k + by) is.1) in
      let before : over g n ≡ over f n = over_same f g n (λ d under. others d (λ same. absurd (omega (arith, under, same, is.1)))) in
      omega (arith, here, before))
  | inr is ↦ (
      let here : g n ≡ f n = others n is.1 in
      let before : over g n ≡ over f n + by = over_more f g n c by (omega (arith, below, is.1)) more others in
      omega (arith, here, before))
]

pub over_both : (f g h : ℕ → ℕ) (n : ℕ) → ((c : ℕ) → f c + g c ≡ h c) → over f n + over g n ≡ over h n
over_both f g h zero each = refl
over_both f g h (suc n) each = omega (arith, over_both f g h n each, each n)

pub over_each : (f g : ℕ → ℕ) (n : ℕ) → ((c : ℕ) → g c ≡ f c) → over g n ≡ over f n
over_each f g n same = over_same f g n (λ c below. same c)

-- each is at most so much
pub over_few : (f : ℕ → ℕ) (n most : ℕ) → ((c : ℕ) → f c ≤ most) → over f n ≤ n * most
over_few f zero most few = omega arith
over_few f (suc n) most few = omega (arith, over_few f n most few, few n, suc-mul n most)
