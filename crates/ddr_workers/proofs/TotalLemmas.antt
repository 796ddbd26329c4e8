-- Lists that are known source by source: the length of the whole is that of the sources' lists together.
use Rattle.std.proofs.Common.{◌≡◌, ◌≢◌, ℕ, suc, ◌+◌, ◌<◌, ◌≤◌, true, false, eqb, ne_eqb, not, List, [], ◌∷◌, length, get_or, filter, sum_by, All, sym, refl, ap, ◌∙◌, subst, ⊎_elim, arith}
use Rattle.std.proofs.lemmas.Bool.Decides.{eqb_tells}
use Rattle.std.proofs.lemmas.List.Elements.{All-nil, All-cons, All-head, All-tail}
use Rattle.std.proofs.lemmas.List.Filters.{length-filter_both}
use Rattle.std.proofs.lemmas.List.Sums.{sum_by-cons}

module _ {T : Type 0} (source : T → ℕ) where
  abbrev of : ℕ → List T → List T
  of k xs = filter (λ x. eqb (source x) k) xs

  abbrev others : ℕ → List T → List T
  others k xs = filter (λ x. not (eqb (source x) k)) xs

  -- leaving out one source changes no other
  of-others : (k p : ℕ) (xs : List T) → p ≢ k → of p (others k xs) ≡ of p xs
  of-others k p [] n = refl
  of-others k p (x ∷ xs) n = ⊎_elim
      (λ (e : (eqb (source x) k ≡ true) × (source x ≡ k)). let other : eqb (source x) p ≡ false = ne_eqb (source x) p (λ q. n (sym q ∙ e.1)) in rw (e.0, other, of-others k p xs n))
      (λ (e : (eqb (source x) k ≡ false) × (source x ≢ k)). rw (e.0, of-others k p xs n)) (eqb_tells (source x) k)

  abbrev From : ℕ → ℕ → T → Type 0
  From low high x = (low ≤ source x) × (source x < high)

  From-others : (low high : ℕ) (xs : List T) → All (From low high) xs → All (From (low + 1) high) (others low xs)
  From-others low high [] h = All-nil (From (low + 1) high)
  From-others low high (x ∷ xs) h = let head = All-head (From low high) x xs h in let rest = From-others low high xs (All-tail (From low high) x xs h) in ⊎_elim
      (λ (e : (eqb (source x) low ≡ true) × (source x ≡ low)). rw e.0 rest)
      (λ (e : (eqb (source x) low ≡ false) × (source x ≢ low)). rw e.0 (All-cons (From (low + 1) high) x (others low xs) (omega (arith, head.0, e.1), head.1) rest)) (eqb_tells (source x) low)

  total_from : (low : ℕ) (lists : List (List T)) (xs : List T) → All (From low (low + length lists)) xs → ((p : ℕ) → p < length lists → of (low + p) xs ≡ get_or lists p []) → length xs ≡ sum_by length lists
  total_from low [] [] within each = refl
  total_from low [] (x ∷ xs) within each = let h = All-head (From low (low + 0)) x xs within in absurd (omega (arith, h.0, h.1))
  total_from low (l ∷ ls) xs within each =
      let split : length (of low xs) + length (others low xs) ≡ length xs = length-filter_both (λ x. eqb (source x) low) (λ x. not (eqb (source x) low)) (λ x. refl) xs in
      let here : of low xs ≡ l = ap (λ k. of k xs) (omega arith) ∙ each 0 (omega arith) in
      let rest = total_from (low + 1) ls (others low xs)
      (subst (λ n. All (From (low + 1) n) (others low xs)) (omega arith) (From-others low (low + length (l ∷ ls)) xs within))
      (λ p h. of-others low (low + 1 + p) xs (λ e. absurd (omega arith)) ∙ ap (λ k. of k xs) (omega arith) ∙ each (suc p) (omega arith)) in
      omega (arith, split, ap length here, rest, sum_by-cons length l ls)

  -- Where each source's list is known, and there are no others, so is the length
  pub total : (lists : List (List T)) (xs : List T) → All (λ x. source x < length lists) xs → ((p : ℕ) → p < length lists → of p xs ≡ get_or lists p []) → length xs ≡ sum_by length lists
  total lists xs below each = total_from 0 lists xs
      (λ k d h. (omega arith, omega (arith, below k d h)))
      (λ p h. ap (λ k. of k xs) (omega arith) ∙ each p h)
