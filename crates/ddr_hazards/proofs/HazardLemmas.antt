-- How many older requests have a line, after an admission and after a removal.
use Rattle.std.proofs.Common.{◌≡◌, ◌≢◌, ℕ, zero, suc, ◌+◌, ◌-◌, ◌<◌, ◌≤◌, Bool, true, false, ◌||◌, cond, eqb, ltb, List, [], ◌∷◌, ◌++◌, length, take, drop, get_or, set, Option, Some, None, refl, sym, ap, ◌∙◌, inl, inr, arith, get_or-set_other, get_or-set_same}
use Rattle.std.specs.List.{slice_get, list_any, count_by, remove}
use Rattle.std.specs.Option.{option_map_or}
use Rattle.std.proofs.lemmas.Bool.{cases_Bool, cond-true, cond-false, lt-ltb, eqb-true, eq-eqb, false≢true}
use Rattle.std.proofs.lemmas.List.{take_at, take-append-le, length-set}
use Rattle.std.proofs.lemmas.List.Sums.{sum_by-cons}
use Rattle.std.proofs.Math.Seq.{take-nil, drop-nil}
use Rattle.ddr_hazards.specs.declared.waiting.Waiting.{Waiting}
use Rattle.ddr_hazards.specs.Hazards.{is_same_line, is_blocked, hazard_count}
use Rattle.ddr_hazards.specs.Slots.{count_less}
use Rattle.ddr_hazards.proofs.SlotLemmas.{slice_get-remove_below, slice_get-remove_from}

-- some element passes exactly where one at least is counted
any_counted : {X : Type 0} (p : X → Bool) (xs : List X) → list_any p xs ≡ ltb 0 (count_by p xs)
any_counted p [] = refl
any_counted p (x ∷ xs) = elim (cases_Bool (p x)) [
  | inl t ↦ ap (λ b. b || list_any p xs) t
      ∙ sym (lt-ltb 0 (count_by p (x ∷ xs)) (omega (arith, sum_by-cons (λ y. cond (p y) 1 0) x xs, ap (λ b. cond {A = ℕ} b 1 0) t)))
  | inr f ↦ let same : count_by p (x ∷ xs) ≡ count_by p xs = omega (arith, sum_by-cons (λ y. cond (p y) 1 0) x xs, ap (λ b. cond {A = ℕ} b 1 0) f) in
      ap (λ b. b || list_any p xs) f ∙ any_counted p xs ∙ ap (ltb 0) (sym same)
]

blocked_of : (waiting : List Waiting) (place : ℕ) (o : Option Waiting) →
    option_map_or (λ w. list_any (λ older. is_same_line older.request.place w.request.place) (take place waiting)) o false
    ≡ ltb 0 (option_map_or (λ w. count_by (λ older. is_same_line older.request.place w.request.place) (take place waiting)) o 0)
blocked_of waiting place None = refl
blocked_of waiting place (Some w) = any_counted (λ older. is_same_line older.request.place w.request.place) (take place waiting)

-- a request is blocked exactly where it has a hazard
pub blocked_counted : (waiting : List Waiting) (place : ℕ) → is_blocked waiting place ≡ ltb 0 (hazard_count waiting place)
blocked_counted waiting place = blocked_of waiting place (slice_get waiting place)

-- with other requests at the place and before it, the count is theirs
count_is : (ws vs : List Waiting) (i j : ℕ) → take i ws ≡ take j vs → slice_get ws i ≡ slice_get vs j → hazard_count ws i ≡ hazard_count vs j
count_is ws vs i j before at =
    λ k. option_map_or (λ (w : Waiting). count_by (λ older. is_same_line older.request.place w.request.place) (before k)) (at k) 0

pub slice_get-front : {X : Type 0} (xs ys : List X) (i : ℕ) → i < length xs → slice_get (xs ++ ys) i ≡ slice_get xs i
slice_get-front [] ys i within = absurd (omega arith)
slice_get-front (x ∷ xs) ys zero within = refl
slice_get-front (x ∷ xs) ys (suc i) within = slice_get-front xs ys i (omega arith)

pub slice_get-last : {X : Type 0} (xs : List X) (y : X) → slice_get (xs ++ y ∷ []) (length xs) ≡ Some y
slice_get-last [] y = refl
slice_get-last (x ∷ xs) y = slice_get-last xs y

pub hazard_count-front : (ws vs : List Waiting) (i : ℕ) → i < length ws → hazard_count (ws ++ vs) i ≡ hazard_count ws i
hazard_count-front ws vs i within =
    let below : i ≤ length ws = omega arith in
    count_is (ws ++ vs) ws i i (take-append-le i ws vs below) (slice_get-front ws vs i within)

pub hazard_count-last : (ws : List Waiting) (w : Waiting) →
    hazard_count (ws ++ w ∷ []) (length ws) ≡ count_by (λ older. is_same_line older.request.place w.request.place) ws
hazard_count-last ws w =
    λ k. option_map_or (λ (v : Waiting). count_by (λ older. is_same_line older.request.place v.request.place) (take_at ws (w ∷ []) (length ws) refl k)) (slice_get-last ws w k) 0

take-remove_below : (ws : List Waiting) (p i : ℕ) → i ≤ p → take i (remove ws p) ≡ take i ws
take-remove_below [] p i below = simp (take-nil, drop-nil)
take-remove_below (w ∷ ws) p zero below = refl
take-remove_below (w ∷ ws) zero (suc i) below = absurd (omega arith)
take-remove_below (w ∷ ws) (suc p) (suc i) below = ap (λ vs. w ∷ vs) (take-remove_below ws p i (omega arith))

pub hazard_count-remove_below : (ws : List Waiting) (p i : ℕ) → i < p → hazard_count (remove ws p) i ≡ hazard_count ws i
hazard_count-remove_below ws p i below =
    count_is (remove ws p) ws i i (take-remove_below ws p i (omega arith)) (slice_get-remove_below ws p i below)

count-remove_from : (test : Waiting → Bool) (ws : List Waiting) (p i : ℕ) (r : Waiting) → p ≤ i → slice_get ws p ≡ Some r →
    count_by test (take i (remove ws p)) + cond (test r) 1 0 ≡ count_by test (take (suc i) ws)
count-remove_from test [] p i r from there = absurd (cc)
count-remove_from test (w ∷ ws) zero i r from there =
    let same : w ≡ r = cc in
    omega (arith, sum_by-cons (λ v. cond (test v) 1 0) w (take i ws), ap (λ v. cond {A = ℕ} (test v) 1 0) same)
count-remove_from test (w ∷ ws) (suc p) zero r from there = absurd (omega arith)
count-remove_from test (w ∷ ws) (suc p) (suc i) r from there =
    let later = count-remove_from test ws p i r (omega arith) there in
    omega (arith, sum_by-cons (λ v. cond (test v) 1 0) w (take i (remove ws p)), sum_by-cons (λ v. cond (test v) 1 0) w (take (suc i) ws), later)

-- a request behind the one that is removed has one hazard less where that one has its line
pub hazard_count-remove_from : (ws : List Waiting) (p i : ℕ) (r w : Waiting) → p ≤ i → slice_get ws p ≡ Some r → slice_get ws (suc i) ≡ Some w →
    hazard_count (remove ws p) i + cond (is_same_line r.request.place w.request.place) 1 0 ≡ hazard_count ws (suc i)
hazard_count-remove_from ws p i r w from there here =
    let at : slice_get (remove ws p) i ≡ Some w = slice_get-remove_from ws p i from ∙ here in
    ap (λ o. option_map_or (λ (v : Waiting). count_by (λ older. is_same_line older.request.place v.request.place) (take i (remove ws p))) o 0 + cond (is_same_line r.request.place w.request.place) 1 0) at
    ∙ count-remove_from (λ older. is_same_line older.request.place w.request.place) ws p i r from there
    ∙ ap (λ o. option_map_or (λ (v : Waiting). count_by (λ older. is_same_line older.request.place v.request.place) (take (suc i) ws)) o 0) (sym here)

-- what is left of a count once the slots of a list count one less
pub get_or-count_less : (test : ℕ → Bool) (ts hazards : List ℕ) (t : ℕ) → t < length hazards →
    get_or (count_less test ts hazards) t 0 ≡ get_or hazards t 0 - cond (test t) (count_by (λ u. eqb u t) ts) 0
get_or-count_less test [] hazards t within = elim (cases_Bool (test t)) [
  | inl e ↦ let none : cond (test t) 0 0 ≡ 0 = ap (λ b. cond {A = ℕ} b 0 0) e in omega (arith, none)
  | inr e ↦ let none : cond (test t) 0 0 ≡ 0 = ap (λ b. cond {A = ℕ} b 0 0) e in omega (arith, none)
]
get_or-count_less test (x ∷ ts) hazards t within =
    let h = set hazards x (get_or hazards x 0 - 1) in
    let cons = sum_by-cons (λ u. cond (eqb u t) 1 0) x ts in
    elim (cases_Bool (test x)) [
      | inl is ↦
          let inside : t < length h = omega (arith, length-set hazards x (get_or hazards x 0 - 1)) in
          let later = get_or-count_less test ts h t inside in
          let opened = ap (λ hs. get_or (count_less test ts hs) t 0) (cond-true (test x) h hazards is) in
          elim (cases_Bool (eqb x t)) [
            | inl e ↦
                let same : x ≡ t = eqb-true x t e in
                let passes : test t ≡ true = sym (ap test same) ∙ is in
                let within_x : x < length hazards = omega (arith, same) in
                let written : get_or h t 0 ≡ get_or hazards t 0 - 1 =
                (λ k. get_or h (sym same k) 0) ∙ get_or-set_same hazards x (get_or hazards x 0 - 1) 0 within_x ∙ ap (λ u. get_or hazards u 0 - 1) same in
                omega (arith, opened, later, written, cons, ap (λ b. cond {A = ℕ} b 1 0) e, cond-true (test t) (count_by (λ u. eqb u t) ts) 0 passes, cond-true (test t) (count_by (λ u. eqb u t) (x ∷ ts)) 0 passes)
            | inr e ↦
                let other : t ≢ x = λ same. false≢true (sym e ∙ eq-eqb x t (sym same)) in
                let kept = get_or-set_other hazards x t (get_or hazards x 0 - 1) 0 other in
                let counts : count_by (λ u. eqb u t) (x ∷ ts) ≡ count_by (λ u. eqb u t) ts = omega (arith, cons, ap (λ b. cond {A = ℕ} b 1 0) e) in
                opened ∙ later ∙ (λ k. kept k - cond (test t) (sym counts k) 0)
          ]
      | inr out ↦
          let later = get_or-count_less test ts hazards t within in
          let opened = ap (λ hs. get_or (count_less test ts hs) t 0) (cond-false (test x) h hazards out) in
          elim (cases_Bool (eqb x t)) [
            | inl e ↦
                let fails : test t ≡ false = sym (ap test (eqb-true x t e)) ∙ out in
                opened ∙ later ∙ (λ k. get_or hazards t 0 - (cond-false (test t) (count_by (λ u. eqb u t) ts) 0 fails ∙ sym (cond-false (test t) (count_by (λ u. eqb u t) (x ∷ ts)) 0 fails)) k)
            | inr e ↦
                let counts : count_by (λ u. eqb u t) (x ∷ ts) ≡ count_by (λ u. eqb u t) ts = omega (arith, cons, ap (λ b. cond {A = ℕ} b 1 0) e) in
                opened ∙ later ∙ (λ k. get_or hazards t 0 - cond (test t) (sym counts k) 0)
          ]
    ]

-- there are none of a request that is not there
pub hazard_count-none : (ws : List Waiting) (i : ℕ) → slice_get ws i ≡ None → hazard_count ws i ≡ 0
hazard_count-none ws i none = ap (λ o. option_map_or (λ (w : Waiting). count_by (λ older. is_same_line older.request.place w.request.place) (take i ws)) o 0) none
