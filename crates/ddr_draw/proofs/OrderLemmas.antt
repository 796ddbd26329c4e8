-- A stable sort by the cycle puts changes in order.
use Rattle.std.proofs.Common.{◌≡◌, ℕ, zero, suc, ◌<◌, ◌≤◌, Bool, true, false, cond, List, [], ◌∷◌, length, get_or, filter, nat_cmp, is_lt, refl, sym, ap, ◌∙◌, arith, inl, inr, suc-le-suc, zero-le}
use Rattle.std.proofs.lemmas.Bool.{cond-true, cond-false, cases_Bool}
use Rattle.std.proofs.lemmas.Bool.Decides.{nat_tests}
use Rattle.std.specs.Prelude.{nat_le}
use Rattle.std.specs.List.Sorted.{ties, IsNonDecreasingBy, IsStableByKey}
use Rattle.ddr_draw.specs.declared.change.Change.{Change}
use Rattle.ddr_draw.specs.Order.{placed, in_order}

abbrev same_cycle : Change → Change → Bool
same_cycle = ties (λ x y. is_lt (nat_cmp x.cycle y.cycle))

ties_at : (m n : ℕ) → (ties (λ x y. is_lt (nat_cmp x y)) m n ≡ true → m ≡ n) × (m ≡ n → ties (λ x y. is_lt (nat_cmp x y)) m n ≡ true)
ties_at m n = (λ h. grind (arith, nat_tests), λ h. grind (arith, nat_tests))

same_cycle-true : (x y : Change) → same_cycle x y ≡ true → x.cycle ≡ y.cycle
same_cycle-true x y = (ties_at x.cycle y.cycle).0

same_cycle_from : (x y : Change) → x.cycle ≡ y.cycle → same_cycle x y ≡ true
same_cycle_from x y = (ties_at x.cycle y.cycle).1

filter-kept : (p : Change → Bool) (y : Change) (ys : List Change) → p y ≡ true → filter p (y ∷ ys) ≡ y ∷ filter p ys
filter-kept p y ys h = cond-true _ _ _ h

filter-dropped : (p : Change → Bool) (y : Change) (ys : List Change) → p y ≡ false → filter p (y ∷ ys) ≡ filter p ys
filter-dropped p y ys h = cond-false _ _ _ h

le_true : (m n : ℕ) → nat_le m n ≡ true → m ≤ n
le_true m n h = grind (arith, nat_tests)

le_false : (m n : ℕ) → nat_le m n ≡ false → n < m
le_false m n h = grind (arith, nat_tests)

filter-placed : (x c : Change) (ds : List Change) → filter (same_cycle x) (placed c ds) ≡ filter (same_cycle x) (c ∷ ds)
filter-placed x c [] = refl
filter-placed x c (d ∷ ds) =
    let p = same_cycle x in
    elim (cases_Bool (nat_le c.cycle d.cycle)) [
      | inl stays ↦ ap (filter p) (cond-true _ _ _ stays)
      | inr past ↦
          ap (filter p) (cond-false _ _ _ past)
          ∙ elim (cases_Bool (p d)) [
            | inr without ↦
                filter-dropped p d (placed c ds) without ∙ filter-placed x c ds
                ∙ ap (λ l. cond (p c) (c ∷ l) l) (sym (filter-dropped p d ds without))
            | inl with ↦
                elim (cases_Bool (p c)) [
                  | inl both ↦ absurd (omega (arith, same_cycle-true x c both, same_cycle-true x d with, le_false c.cycle d.cycle past))
                  | inr only ↦
                      filter-kept p d (placed c ds) with ∙ ap (λ l. d ∷ l) (filter-placed x c ds ∙ filter-dropped p c ds only)
                      ∙ sym (filter-dropped p c (d ∷ ds) only ∙ filter-kept p d ds with)
                ]
          ]
    ]

filter-in_order : (x : Change) (cs : List Change) → filter (same_cycle x) (in_order cs) ≡ filter (same_cycle x) cs
filter-in_order x [] = refl
filter-in_order x (c ∷ cs) = filter-placed x c (in_order cs) ∙ ap (λ l. cond (same_cycle x c) (c ∷ l) l) (filter-in_order x cs)

abbrev AreAtLeast : ℕ → List Change → Type 0
AreAtLeast n [] = Unit {0}
AreAtLeast n (y ∷ ys) = (n ≤ y.cycle) × AreAtLeast n ys

abbrev Rises : List Change → Type 0
Rises [] = Unit {0}
Rises (y ∷ ys) = AreAtLeast y.cycle ys × Rises ys

AreAtLeast-le : (n m : ℕ) (ys : List Change) → n ≤ m → AreAtLeast m ys → AreAtLeast n ys
AreAtLeast-le n m [] le h = tt
AreAtLeast-le n m (y ∷ ys) le h = let first = h.0 in (omega arith, AreAtLeast-le n m ys le h.1)

AreAtLeast-at : (n : ℕ) (ys : List Change) → ((j : ℕ) (d : Change) → j < length ys → n ≤ (get_or ys j d).cycle) → AreAtLeast n ys
AreAtLeast-at n [] h = tt
AreAtLeast-at n (y ∷ ys) h = (h zero y (suc-le-suc zero-le), AreAtLeast-at n ys (λ j d lt. h (suc j) d (suc-le-suc lt)))

Rises-from_sort : (ys : List Change) → IsNonDecreasingBy (λ y. y.cycle) ys → Rises ys
Rises-from_sort [] h = tt
Rises-from_sort (y ∷ ys) h = (
  AreAtLeast-at y.cycle ys (λ j d lt. h zero (suc j) d zero-le (suc-le-suc lt)),
  Rises-from_sort ys (λ i j d le lt. h (suc i) (suc j) d (suc-le-suc le) (suc-le-suc lt)),
)

AreAtLeast-placed : (n : ℕ) (c : Change) (ds : List Change) → n ≤ c.cycle → AreAtLeast n ds → AreAtLeast n (placed c ds)
AreAtLeast-placed n c [] le h = (le, tt)
AreAtLeast-placed n c (d ∷ ds) le h =
    elim (cases_Bool (nat_le c.cycle d.cycle)) [
      | inl stays ↦ rw stays (le, h)
      | inr past ↦ rw past (h.0, AreAtLeast-placed n c ds le h.1)
    ]

Rises-placed : (c : Change) (ds : List Change) → Rises ds → Rises (placed c ds)
Rises-placed c [] h = (tt, tt)
Rises-placed c (d ∷ ds) h =
    elim (cases_Bool (nat_le c.cycle d.cycle)) [
      | inl stays ↦ let le = le_true c.cycle d.cycle stays in rw stays ((le, AreAtLeast-le c.cycle d.cycle ds le h.0), h)
      | inr past ↦ let lt = le_false c.cycle d.cycle past in rw past (AreAtLeast-placed d.cycle c ds (omega arith) h.0, Rises-placed c ds h.1)
    ]

Rises-in_order : (cs : List Change) → Rises (in_order cs)
Rises-in_order [] = tt
Rises-in_order (c ∷ cs) = Rises-placed c (in_order cs) (Rises-in_order cs)

-- the cycle of x occurs among them
AreAtLeast-found : (n : ℕ) (x : Change) (ys : List Change) (w : Change) (ws : List Change) → AreAtLeast n ys → filter (same_cycle x) ys ≡ w ∷ ws → n ≤ x.cycle
AreAtLeast-found n x [] w ws h e = cc
AreAtLeast-found n x (y ∷ ys) w ws h e =
    elim (cases_Bool (same_cycle x y)) [
      | inl with ↦ omega (arith, h.0, same_cycle-true x y with)
      | inr without ↦ AreAtLeast-found n x ys w ws h.1 (sym (filter-dropped (same_cycle x) y ys without) ∙ e)
    ]

same_from_cycles : (ys zs : List Change) → Rises ys → Rises zs → ((x : Change) → filter (same_cycle x) ys ≡ filter (same_cycle x) zs) → ys ≡ zs
same_from_cycles [] [] left right same = refl
same_from_cycles [] (z ∷ zs) left right same =
    let clash = same z ∙ filter-kept (same_cycle z) z zs (same_cycle_from z z refl) in cc
same_from_cycles (y ∷ ys) [] left right same =
    let clash = sym (same y) ∙ filter-kept (same_cycle y) y ys (same_cycle_from y y refl) in cc
same_from_cycles (y ∷ ys) (z ∷ zs) left right same =
    let at_y = filter-kept (same_cycle y) y ys (same_cycle_from y y refl) in
    let at_z = filter-kept (same_cycle z) z zs (same_cycle_from z z refl) in
    let up = AreAtLeast-found z.cycle y (z ∷ zs) y _ (omega arith, right.0) (sym (same y) ∙ at_y) in
    let down = AreAtLeast-found y.cycle z (y ∷ ys) z _ (omega arith, left.0) (same z ∙ at_z) in
    let heads = sym at_y ∙ same y ∙ filter-kept (same_cycle y) z zs (same_cycle_from y z (omega arith)) in
    let head : y ≡ z = cc in
    let tails : (x : Change) → filter (same_cycle x) ys ≡ filter (same_cycle x) zs =
    λ x. elim (cases_Bool (same_cycle x y)) [
      | inl with ↦
          let both = sym (filter-kept (same_cycle x) y ys with) ∙ same x ∙ filter-kept (same_cycle x) z zs (ap (same_cycle x) (sym head) ∙ with) in cc
      | inr without ↦
          sym (filter-dropped (same_cycle x) y ys without) ∙ same x ∙ filter-dropped (same_cycle x) z zs (ap (same_cycle x) (sym head) ∙ without)
    ] in
    ap (λ w. w ∷ ys) head ∙ ap (λ l. z ∷ l) (same_from_cycles ys zs left.1 right.1 tails)

pub in_order-from_sort : (xs ys : List Change) → IsNonDecreasingBy (λ y. y.cycle) ys → IsStableByKey (λ y. y.cycle) nat_cmp xs ys → ys ≡ in_order xs
in_order-from_sort xs ys sorted stable =
    same_from_cycles ys (in_order xs) (Rises-from_sort ys sorted) (Rises-in_order xs)
    (λ x. stable x ∙ sym (filter-in_order x xs))
