-- Lemmas on slots that hold requests. P are slots in order, and f says what each holds.
use Rattle.std.proofs.Common.{◌≡◌, ◌≢◌, ℕ, zero, suc, ◌+◌, ◌-◌, ◌<◌, ◌≤◌, Bool, true, false, not, cond, eqb, ltb, List, [], ◌∷◌, ◌++◌, length, map, take, drop, get_or, set, Option, Some, None, refl, sym, ap, ◌∙◌, inl, inr, arith}
use Rattle.std.specs.List.{filter, filter_map, cons_option, slice_get, remove, count_by, position_or_len}
use Rattle.std.specs.Option.{option_flatten, option_map, option_map_or}
use Rattle.std.proofs.lemmas.Bool.{cases_Bool, cond-true, cond-false, eqb-true, eq-eqb, false≢true}
use Rattle.std.proofs.lemmas.List.{map-append, take_at, drop_at, length-append, length-map, length-take-le}
use Rattle.std.proofs.lemmas.List.Elements.{filter-append}
use Rattle.std.proofs.lemmas.List.Sums.{sum_by-cons}
use Rattle.std.proofs.Math.Seq.{take-nil, drop-nil}
use Rattle.ddr_hazards.specs.declared.waiting.Waiting.{Waiting}

abbrev pub Holds : Type 0
Holds = ℕ → Option Waiting

-- the slots are those that hold the requests
pub filter_map-holds : (f : Holds) (P : List ℕ) (ws : List Waiting) → map f P ≡ map Some ws → filter_map f P ≡ ws
filter_map-holds f [] [] holds = refl
filter_map-holds f [] (w ∷ ws) holds = cc
filter_map-holds f (s ∷ P) [] holds = cc
filter_map-holds f (s ∷ P) (w ∷ ws) holds =
    let first : f s ≡ Some w = cc in
    let rest : map f P ≡ map Some ws = cc in
    (λ i. cons_option (first i) (filter_map f P)) ∙ ap (λ vs. w ∷ vs) (filter_map-holds f P ws rest)

pub map-some-inj : (vs ws : List Waiting) → map Some vs ≡ map Some ws → vs ≡ ws
map-some-inj [] [] e = refl
map-some-inj [] (w ∷ ws) e = cc
map-some-inj (v ∷ vs) [] e = cc
map-some-inj (v ∷ vs) (w ∷ ws) e =
    let first : v ≡ w = cc in
    let rest : map Some vs ≡ map Some ws = cc in
    λ i. first i ∷ map-some-inj vs ws rest i

-- each of the slots holds the request at its place
pub held_at : (f : Holds) (P : List ℕ) (ws : List Waiting) (i s : ℕ) → map f P ≡ map Some ws → slice_get P i ≡ Some s →
    (w : Waiting) × (f s ≡ Some w) × (slice_get ws i ≡ Some w)
held_at f [] ws i s holds there = absurd (cc)
held_at f (x ∷ P) [] i s holds there = absurd (cc)
held_at f (x ∷ P) (w ∷ ws) zero s holds there =
    let first : f x ≡ Some w = cc in
    let same : x ≡ s = cc in
    (w, sym (ap f same) ∙ first, refl)
held_at f (x ∷ P) (w ∷ ws) (suc i) s holds there =
    let rest : map f P ≡ map Some ws = cc in
    held_at f P ws i s rest there

pub none_held : (f : Holds) (P : List ℕ) (ws : List Waiting) (i : ℕ) → map f P ≡ map Some ws → slice_get P i ≡ None → slice_get ws i ≡ None
none_held f [] [] i holds none = refl
none_held f [] (w ∷ ws) i holds none = absurd (cc)
none_held f (x ∷ P) [] i holds none = absurd (cc)
none_held f (x ∷ P) (w ∷ ws) zero holds none = absurd (cc)
none_held f (x ∷ P) (w ∷ ws) (suc i) holds none =
    let rest : map f P ≡ map Some ws = cc in
    none_held f P ws i rest none

-- what holds alike maps and filters alike
pub map-same : (f g : Holds) (P : List ℕ) → ((i s : ℕ) → slice_get P i ≡ Some s → g s ≡ f s) → map g P ≡ map f P
map-same f g [] same = refl
map-same f g (x ∷ P) same = λ i. same zero x refl i ∷ map-same f g P (λ k s there. same (suc k) s there) i

pub filter-same : (p q : ℕ → Bool) (P : List ℕ) → ((i s : ℕ) → slice_get P i ≡ Some s → q s ≡ p s) → filter q P ≡ filter p P
filter-same p q [] same = refl
filter-same p q (x ∷ P) same = λ i. cond (same zero x refl i) (x ∷ filter-same p q P (λ k s there. same (suc k) s there) i) (filter-same p q P (λ k s there. same (suc k) s there) i)

eqb_above : (t : ℕ) → eqb (suc t) zero ≡ false
eqb_above t = grind arith

eqb_below : (s : ℕ) → eqb zero (suc s) ≡ false
eqb_below s = grind arith

eqb_sucs : (t s : ℕ) → eqb (suc t) (suc s) ≡ eqb t s
eqb_sucs t s = grind arith

-- after a write to one slot
pub at-set : (cells : List (Option Waiting)) (s t : ℕ) (o : Option Waiting) → s < length cells →
    option_flatten (slice_get (set cells s o) t) ≡ cond (eqb t s) o (option_flatten (slice_get cells t))
at-set [] s t o within = absurd (omega arith)
at-set (c ∷ cells) zero zero o within = refl
at-set (c ∷ cells) zero (suc t) o within = sym (cond-false (eqb (suc t) zero) o _ (eqb_above t))
at-set (c ∷ cells) (suc s) zero o within = sym (cond-false (eqb zero (suc s)) o _ (eqb_below s))
at-set (c ∷ cells) (suc s) (suc t) o within = at-set cells s t o (omega arith) ∙ ap (λ b. cond b o (option_flatten (slice_get cells t))) (sym (eqb_sucs t s))

-- the elements of a list without one
pub slice_get-remove_below : {X : Type 0} (xs : List X) (p i : ℕ) → i < p → slice_get (remove xs p) i ≡ slice_get xs i
slice_get-remove_below [] p i below = simp (take-nil, drop-nil)
slice_get-remove_below (x ∷ xs) zero i below = absurd (omega arith)
slice_get-remove_below (x ∷ xs) (suc p) zero below = refl
slice_get-remove_below (x ∷ xs) (suc p) (suc i) below = slice_get-remove_below xs p i (omega arith)

pub slice_get-remove_from : {X : Type 0} (xs : List X) (p i : ℕ) → p ≤ i → slice_get (remove xs p) i ≡ slice_get xs (suc i)
slice_get-remove_from [] p i from = simp (take-nil, drop-nil)
slice_get-remove_from (x ∷ xs) zero i from = refl
slice_get-remove_from (x ∷ xs) (suc p) zero from = absurd (omega arith)
slice_get-remove_from (x ∷ xs) (suc p) (suc i) from = slice_get-remove_from xs p i (omega arith)

pub map-remove : {X Y : Type 0} (f : X → Y) (xs : List X) (p : ℕ) → map f (remove xs p) ≡ remove (map f xs) p
map-remove f [] p = simp (take-nil, drop-nil)
map-remove f (x ∷ xs) zero = refl
map-remove f (x ∷ xs) (suc p) = ap (λ ys. f x ∷ ys) (map-remove f xs p)

pub split_at : (P : List ℕ) (p s : ℕ) → slice_get P p ≡ Some s → P ≡ take p P ++ s ∷ drop (suc p) P
split_at [] p s there = absurd (cc)
split_at (x ∷ P) zero s there = let same : x ≡ s = cc in ap (λ y. y ∷ P) same
split_at (x ∷ P) (suc p) s there = ap (λ ys. x ∷ ys) (split_at P p s there)

-- no slot stands twice
abbrev pub Apart : List ℕ → Type 0
Apart P = (i j s : ℕ) → slice_get P i ≡ Some s → slice_get P j ≡ Some s → i ≡ j

-- the first place of a slot that those before are not
position_behind : (g : ℕ → Bool) (P rest : List ℕ) (s : ℕ) → ((i t : ℕ) → slice_get P i ≡ Some t → t ≢ s) →
    position_or_len (λ t. eqb t s) (filter g P ++ s ∷ rest) ≡ length (filter g P)
position_behind g [] rest s apart = cond-false (not (eqb s s)) _ _ (ap not (eq-eqb s s refl))
position_behind g (x ∷ P) rest s apart =
    let later = position_behind g P rest s (λ i t there. apart (suc i) t there) in
    elim (cases_Bool (g x)) [
      | inl is ↦
          let other : eqb x s ≡ false = elim (cases_Bool (eqb x s)) as (λ _. eqb x s ≡ false) [ inl e ↦ absurd (apart zero x refl (eqb-true x s e)) | inr e ↦ e ] in
          ap (λ xs. position_or_len (λ t. eqb t s) (xs ++ s ∷ rest)) (cond-true (g x) _ _ is)
          ∙ cond-true (not (eqb x s)) _ _ (ap not other)
          ∙ omega (arith, later, ap (length {A = ℕ}) (cond-true (g x) (x ∷ filter g P) (filter g P) is))
      | inr out ↦
          ap (λ xs. position_or_len (λ t. eqb t s) (xs ++ s ∷ rest)) (cond-false (g x) _ _ out) ∙ later ∙ ap length (sym (cond-false (g x) (x ∷ filter g P) (filter g P) out))
    ]

pub slice_get-take : (P : List ℕ) (p i t : ℕ) → slice_get (take p P) i ≡ Some t → (i < p) × (slice_get P i ≡ Some t)
slice_get-take P zero i t there = absurd (cc)
slice_get-take [] (suc p) i t there = absurd (cc)
slice_get-take (x ∷ P) (suc p) zero t there = (omega arith, there)
slice_get-take (x ∷ P) (suc p) (suc i) t there = let rest = slice_get-take P p i t there in (omega arith, rest.1)

take_apart : (P : List ℕ) (p s : ℕ) → Apart P → slice_get P p ≡ Some s → (i t : ℕ) → slice_get (take p P) i ≡ Some t → t ≢ s
take_apart P p s apart there i t here same =
    let inside = slice_get-take P p i t here in
    let equal : i ≡ p = apart i p s (inside.1 ∙ ap Some same) there in
    absurd (omega arith)

-- a slot that is taken out of the order is taken out of the slots that pass
pub record Without (g : ℕ → Bool) (P : List ℕ) (p s : ℕ) : Type 0 where
  pub within : position_or_len (λ t. eqb t s) (filter g P) < length (filter g P)
  pub rest : remove (filter g P) (position_or_len (λ t. eqb t s) (filter g P)) ≡ filter g (remove P p)
  pub behind : drop (position_or_len (λ t. eqb t s) (filter g P)) (filter g (remove P p)) ≡ filter g (drop (suc p) P)

remove_behind : (A B : List ℕ) (s : ℕ) → remove (A ++ s ∷ B) (length A) ≡ A ++ B
remove_behind [] B s = refl
remove_behind (x ∷ A) B s = ap (λ xs. x ∷ xs) (remove_behind A B s)

pub without : (g : ℕ → Bool) (P : List ℕ) (p s : ℕ) → Apart P → slice_get P p ≡ Some s → g s ≡ true → Without g P p s
without g P p s apart there passes =
    let A = filter g (take p P) in
    let B = filter g (drop (suc p) P) in
    let whole : filter g P ≡ A ++ s ∷ B =
    ap (filter g) (split_at P p s there) ∙ filter-append g (take p P) (s ∷ drop (suc p) P) ∙ ap (λ xs. A ++ xs) (cond-true (g s) _ _ passes) in
    let place : position_or_len (λ t. eqb t s) (filter g P) ≡ length A =
    ap (position_or_len (λ t. eqb t s)) whole ∙ position_behind g (take p P) B s (take_apart P p s apart there) in
    let left : filter g (remove P p) ≡ A ++ B = filter-append g (take p P) (drop (suc p) P) in record {
      within = omega (arith, place, ap (length {A = ℕ}) whole, length-append A (s ∷ B));
      rest = (λ i. remove (whole i) (place i)) ∙ remove_behind A B s ∙ sym left;
      behind = (λ i. drop (place i) (left i)) ∙ drop_at A B (length A) refl;
    }

pub filter-remove_out : (g : ℕ → Bool) (P : List ℕ) (p s : ℕ) → slice_get P p ≡ Some s → g s ≡ false → filter g (remove P p) ≡ filter g P
filter-remove_out g [] p s there out = absurd (cc)
filter-remove_out g (x ∷ P) zero s there out = let same : x ≡ s = cc in sym (cond-false (g x) _ _ (ap g same ∙ out))
filter-remove_out g (x ∷ P) (suc p) s there out = λ i. cond (g x) (x ∷ filter-remove_out g P p s there out i) (filter-remove_out g P p s there out i)

zero≢suc : (n : ℕ) → zero ≡ suc n → ⊥
zero≢suc n e = omega arith

same_below : (m n : ℕ) → suc m ≡ suc n → m ≡ n
same_below m n e = omega arith

same_above : (k m n : ℕ) → k + m ≡ k + n → m ≡ n
same_above k m n e = omega arith

not_behind : (n k i : ℕ) → i < n → n + k ≡ i → ⊥
not_behind n k i before e = omega arith

-- how often a slot stands in a list
pub count_none : (P : List ℕ) (s : ℕ) → ((i : ℕ) → slice_get P i ≡ Some s → ⊥) → count_by (λ t. eqb t s) P ≡ 0
count_none [] s none = refl
count_none (x ∷ P) s none =
    let later = count_none P s (λ i there. none (suc i) there) in
    let other : eqb x s ≡ false = elim (cases_Bool (eqb x s)) as (λ _. eqb x s ≡ false) [ inl e ↦ absurd (none zero (ap Some (eqb-true x s e))) | inr e ↦ e ] in
    omega (arith, sum_by-cons (λ t. cond (eqb t s) 1 0) x P, later, ap (λ b. cond {A = ℕ} b 1 0) other)

pub count_once : (P : List ℕ) (i s : ℕ) → Apart P → slice_get P i ≡ Some s → count_by (λ t. eqb t s) P ≡ 1
count_once [] i s apart there = absurd (cc)
count_once (x ∷ P) zero s apart there =
    let same : x ≡ s = cc in
    let none = count_none P s (λ k here. zero≢suc k (apart zero (suc k) s there here)) in
    omega (arith, sum_by-cons (λ t. cond (eqb t s) 1 0) x P, none, ap (λ b. cond {A = ℕ} b 1 0) (eq-eqb x s same))
count_once (x ∷ P) (suc i) s apart there =
    let later = count_once P i s (λ k j t a b. same_below k j (apart (suc k) (suc j) t a b)) there in
    let other : eqb x s ≡ false = elim (cases_Bool (eqb x s)) as (λ _. eqb x s ≡ false) [
      | inl e ↦ absurd (zero≢suc i (apart zero (suc i) s (ap Some (eqb-true x s e)) there))
      | inr e ↦ e
    ] in
    omega (arith, sum_by-cons (λ t. cond (eqb t s) 1 0) x P, later, ap (λ b. cond {A = ℕ} b 1 0) other)

slice_get-drop : (P : List ℕ) (n i : ℕ) → slice_get (drop n P) i ≡ slice_get P (n + i)
slice_get-drop P zero i = let e : i ≡ zero + i = omega arith in ap (slice_get P) e
slice_get-drop [] (suc n) i = refl
slice_get-drop (x ∷ P) (suc n) i = let e : suc (n + i) ≡ suc n + i = omega arith in slice_get-drop P n i ∙ ap (slice_get (x ∷ P)) e

-- behind a place, a slot stands once if it stands there, and not if it stands before
pub count_behind : (P : List ℕ) (n i s : ℕ) → Apart P → slice_get P i ≡ Some s → n ≤ i → count_by (λ t. eqb t s) (drop n P) ≡ 1
count_behind P n i s apart there from =
    let more : (k : ℕ) → slice_get (drop n P) k ≡ slice_get P (n + k) = slice_get-drop P n in
    let at : n + (i - n) ≡ i = omega arith in
    count_once (drop n P) (i - n) s
    (λ a b t x y. same_above n a b (apart (n + a) (n + b) t (sym (more a) ∙ x) (sym (more b) ∙ y)))
    (more (i - n) ∙ ap (slice_get P) at ∙ there)

pub count_before : (P : List ℕ) (n i s : ℕ) → Apart P → slice_get P i ≡ Some s → i < n → count_by (λ t. eqb t s) (drop n P) ≡ 0
count_before P n i s apart there before =
    count_none (drop n P) s (λ k here. not_behind n k i before (apart (n + k) i s (sym (slice_get-drop P n k) ∙ here) there))

-- a filter counts those that pass
pub count-filter : (g : ℕ → Bool) (P : List ℕ) (s : ℕ) → g s ≡ true → count_by (λ t. eqb t s) (filter g P) ≡ count_by (λ t. eqb t s) P
count-filter g [] s passes = refl
count-filter g (x ∷ P) s passes =
    let later = count-filter g P s passes in
    elim (cases_Bool (g x)) [
      | inl is ↦ ap (count_by (λ t. eqb t s)) (cond-true (g x) _ _ is)
          ∙ omega (arith, sum_by-cons (λ t. cond (eqb t s) 1 0) x (filter g P), sum_by-cons (λ t. cond (eqb t s) 1 0) x P, later)
      | inr out ↦
          let other : eqb x s ≡ false = elim (cases_Bool (eqb x s)) as (λ _. eqb x s ≡ false) [
            | inl e ↦ absurd (false≢true (sym out ∙ ap g (eqb-true x s e) ∙ passes))
            | inr e ↦ e
          ] in
          ap (count_by (λ t. eqb t s)) (cond-false (g x) _ _ out)
          ∙ omega (arith, sum_by-cons (λ t. cond (eqb t s) 1 0) x P, later, ap (λ b. cond {A = ℕ} b 1 0) other)
    ]

-- counting what passes both tests looks at what passes the weaker one alone
pub count-within : (p g : ℕ → Bool) (P : List ℕ) → ((t : ℕ) → p t ≡ true → g t ≡ true) → count_by p (filter g P) ≡ count_by p P
count-within p g [] weaker = refl
count-within p g (x ∷ P) weaker =
    let later = count-within p g P weaker in
    elim (cases_Bool (g x)) [
      | inl is ↦ ap (count_by p) (cond-true (g x) _ _ is)
          ∙ omega (arith, sum_by-cons (λ t. cond (p t) 1 0) x (filter g P), sum_by-cons (λ t. cond (p t) 1 0) x P, later)
      | inr out ↦
          let other : p x ≡ false = elim (cases_Bool (p x)) as (λ _. p x ≡ false) [
            | inl e ↦ absurd (false≢true (sym out ∙ weaker x e))
            | inr e ↦ e
          ] in
          ap (count_by p) (cond-false (g x) _ _ out)
          ∙ omega (arith, sum_by-cons (λ t. cond (p t) 1 0) x P, later, ap (λ b. cond {A = ℕ} b 1 0) other)
    ]

-- what is counted of the slots is counted of what they hold
pub count-held : (test : Waiting → Bool) (f : Holds) (P : List ℕ) (ws : List Waiting) → map f P ≡ map Some ws →
    count_by (λ t. option_map_or test (f t) false) P ≡ count_by test ws
count-held test f [] [] holds = refl
count-held test f [] (w ∷ ws) holds = absurd (cc)
count-held test f (x ∷ P) [] holds = absurd (cc)
count-held test f (x ∷ P) (w ∷ ws) holds =
    let first : f x ≡ Some w = cc in
    let rest : map f P ≡ map Some ws = cc in
    omega (
      arith,
      sum_by-cons (λ t. cond (option_map_or test (f t) false) 1 0) x P,
      sum_by-cons (λ v. cond (test v) 1 0) w ws,
      count-held test f P ws rest,
      ap (λ o. cond {A = ℕ} (option_map_or test o false) 1 0) first,
    )

-- where there is nothing, nothing is removed
pub remove_none : {X : Type 0} (xs : List X) (place : ℕ) → slice_get xs place ≡ None → remove xs place ≡ xs
remove_none [] place none = simp (take-nil, drop-nil)
remove_none (x ∷ xs) zero none = absurd (cc)
remove_none (x ∷ xs) (suc place) none = ap (λ rest. x ∷ rest) (remove_none xs place none)

pub length-held : (f : Holds) (P : List ℕ) (ws : List Waiting) → map f P ≡ map Some ws → length P ≡ length ws
length-held f P ws holds = sym (length-map P f) ∙ ap length holds ∙ length-map ws Some

pub length-holds : (order : List ℕ) (n : ℕ) (f : Holds) (ws : List Waiting) → n ≤ length order → map f (take n order) ≡ map Some ws → n ≡ length ws
length-holds order n f ws within holds = sym (length-take-le n order within) ∙ length-held f (take n order) ws holds
