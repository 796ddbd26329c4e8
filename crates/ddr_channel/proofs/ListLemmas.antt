-- Lists from which an element was taken out.
use Rattle.std.proofs.Common.{◌≡◌, ℕ, zero, suc, ◌<◌, ◌≤◌, Bool, true, false, ◌||◌, cond, List, [], ◌∷◌, ◌++◌, Some, None, map, take, drop, get_or, All, refl, sym, ap, subst, ◌∙◌, arith}
use Rattle.std.specs.List.{AllByRecursion, filter, slice_get, remove, list_any}
use Rattle.std.proofs.lemmas.List.{take-map, drop-map, map-append}
use Rattle.std.proofs.lemmas.List.Elements.{All-append, All-take, All-drop}

-- the elements before a removed one, and those behind it

pub slice_get-remove_before : {X : Type 0} (xs : List X) (place k : ℕ) → k < place → slice_get (remove xs place) k ≡ slice_get xs k
slice_get-remove_before xs zero k before = absurd (omega arith)
slice_get-remove_before [] (suc place) k before = refl
slice_get-remove_before (x ∷ xs) (suc place) zero before = refl
slice_get-remove_before (x ∷ xs) (suc place) (suc k) before = slice_get-remove_before xs place k (omega arith)

pub slice_get-remove_behind : {X : Type 0} (xs : List X) (place k : ℕ) → place ≤ k → slice_get (remove xs place) k ≡ slice_get xs (suc k)
slice_get-remove_behind [] zero k behind = refl
slice_get-remove_behind (x ∷ xs) zero k behind = refl
slice_get-remove_behind xs (suc place) zero behind = absurd (omega arith)
slice_get-remove_behind [] (suc place) (suc k) behind = refl
slice_get-remove_behind (x ∷ xs) (suc place) (suc k) behind = slice_get-remove_behind xs place k (omega arith)

pub get_or-remove_before : (xs : List ℕ) (place k : ℕ) → k < place → get_or (remove xs place) k 0 ≡ get_or xs k 0
get_or-remove_before xs zero k before = absurd (omega arith)
get_or-remove_before [] (suc place) k before = refl
get_or-remove_before (x ∷ xs) (suc place) zero before = refl
get_or-remove_before (x ∷ xs) (suc place) (suc k) before = get_or-remove_before xs place k (omega arith)

pub get_or-remove_behind : (xs : List ℕ) (place k : ℕ) → place ≤ k → get_or (remove xs place) k 0 ≡ get_or xs (suc k) 0
get_or-remove_behind [] zero k behind = refl
get_or-remove_behind (x ∷ xs) zero k behind = refl
get_or-remove_behind xs (suc place) zero behind = absurd (omega arith)
get_or-remove_behind [] (suc place) (suc k) behind = refl
get_or-remove_behind (x ∷ xs) (suc place) (suc k) behind = get_or-remove_behind xs place k (omega arith)

pub take-remove_before : {X : Type 0} (xs : List X) (place k : ℕ) → k ≤ place → take k (remove xs place) ≡ take k xs
take-remove_before xs place zero before = refl
take-remove_before xs zero (suc k) before = absurd (omega arith)
take-remove_before [] (suc place) (suc k) before = refl
take-remove_before (x ∷ xs) (suc place) (suc k) before = ap (λ (ys : List _). x ∷ ys) (take-remove_before xs place k (omega arith))

-- the first elements of a list and of the list without the one at the place, where that one is among them
pub record TakesBoth {X : Type 0} (xs : List X) (place : ℕ) (x : X) (k : ℕ) : Type 0 where
  pub behind : List X
  pub without : take k (remove xs place) ≡ take place xs ++ behind
  pub with_it : take (suc k) xs ≡ take place xs ++ x ∷ behind

pub takes_both : {X : Type 0} (xs : List X) (place : ℕ) (x : X) (k : ℕ) → slice_get xs place ≡ Some x → place ≤ k → TakesBoth xs place x k
takes_both [] place x k here behind = cc
takes_both (y ∷ ys) zero x k here behind =
    let same : y ≡ x = cc in
    record { behind = take k ys; without = refl; with_it = ap (λ z. z ∷ take k ys) same }
takes_both (y ∷ ys) (suc place) x zero here behind = absurd (omega arith)
takes_both (y ∷ ys) (suc place) x (suc k) here behind =
    let both = takes_both ys place x k here (omega arith) in
    record { behind = both.behind; without = ap (λ (zs : List _). y ∷ zs) both.without; with_it = ap (λ (zs : List _). y ∷ zs) both.with_it }

-- the list around the element at a place
pub split_at : {X : Type 0} (xs : List X) (place : ℕ) (x : X) → slice_get xs place ≡ Some x → xs ≡ take place xs ++ x ∷ drop (suc place) xs
split_at [] place x here = cc
split_at (y ∷ ys) zero x here = let same : y ≡ x = cc in ap (λ z. z ∷ ys) same
split_at (y ∷ ys) (suc place) x here = ap (λ (zs : List _). y ∷ zs) (split_at ys place x here)

pub map-remove : {X Y : Type 0} (f : X → Y) (xs : List X) (place : ℕ) → map f (remove xs place) ≡ remove (map f xs) place
map-remove f xs place = simp (take-map, drop-map, map-append)

pub All-remove : {X : Type 0} (P : X → Type 0) (xs : List X) (place : ℕ) → All P xs → All P (remove xs place)
All-remove P xs place all = All-append P (take place xs) (drop (suc place) xs) (All-take P place xs all) (All-drop P (suc place) xs all)

pub All-at : {X : Type 0} (P : X → Type 0) (xs : List X) (place : ℕ) (x : X) → All P xs → slice_get xs place ≡ Some x → P x
All-at P [] place x all here = cc
All-at P (y ∷ ys) zero x all here = let same : y ≡ x = cc in subst P same (all 0 y (omega arith))
All-at P (y ∷ ys) (suc place) x all here = All-at P ys place x (λ k d below. all (suc k) d (omega arith)) here

-- elements one by one

pub All-implies : {X : Type 0} (P Q : X → Type 0) (xs : List X) → ((x : X) → P x → Q x) → AllByRecursion P xs → AllByRecursion Q xs
All-implies P Q [] implies all = tt
All-implies P Q (x ∷ xs) implies all = (implies x all.0, All-implies P Q xs implies all.1)

pub All-last : {X : Type 0} (P : X → Type 0) (xs : List X) (y : X) → AllByRecursion P xs → P y → AllByRecursion P (xs ++ y ∷ [])
All-last P [] y all last = (last, tt)
All-last P (x ∷ xs) y all last = (all.0, All-last P xs y all.1 last)

filtered : {X : Type 0} (P : X → Type 0) (b : Bool) (x : X) (xs : List X) → P x → AllByRecursion P xs → AllByRecursion P (cond b (x ∷ xs) xs)
filtered P true x xs here rest = (here, rest)
filtered P false x xs here rest = rest

pub All-filter : {X : Type 0} (P : X → Type 0) (test : X → Bool) (xs : List X) → AllByRecursion P xs → AllByRecursion P (filter test xs)
All-filter P test [] all = tt
All-filter P test (x ∷ xs) all = filtered P (test x) x (filter test xs) all.0 (All-filter P test xs all.1)

pub All-taken : {X : Type 0} (P : X → Type 0) (xs : List X) (place : ℕ) → AllByRecursion P xs → AllByRecursion P (remove xs place)
All-taken P [] zero all = tt
All-taken P [] (suc place) all = tt
All-taken P (x ∷ xs) zero all = all.1
All-taken P (x ∷ xs) (suc place) all = (all.0, All-taken P xs place all.1)

pub at_recursion : {X : Type 0} (P : X → Type 0) (xs : List X) (place : ℕ) (x : X) → AllByRecursion P xs → slice_get xs place ≡ Some x → P x
at_recursion P [] place x all here = cc
at_recursion P (y ∷ ys) zero x all here = let same : y ≡ x = cc in subst P same all.0
at_recursion P (y ∷ ys) (suc place) x all here = at_recursion P ys place x all.1 here

-- a list whose elements are all told by their places

pub at_map : {X Y : Type 0} (f : X → Y) (xs : List X) (n : ℕ) (y : Y) → slice_get (map f xs) n ≡ Some y → (x : X) × (slice_get xs n ≡ Some x) × (f x ≡ y)
at_map f [] n y is = cc
at_map f (x ∷ xs) zero y is = let same : f x ≡ y = cc in (x, refl, same)
at_map f (x ∷ xs) (suc n) y is = at_map f xs n y is

pub mapped_at : {X Y : Type 0} (f : X → Y) (xs : List X) (n : ℕ) (x : X) → slice_get xs n ≡ Some x → slice_get (map f xs) n ≡ Some (f x)
mapped_at f [] n x is = cc
mapped_at f (y ∷ ys) zero x is = let same : y ≡ x = cc in ap (λ z. Some (f z)) same
mapped_at f (y ∷ ys) (suc n) x is = mapped_at f ys n x is

-- a test that finds nothing

pub neither : (x y : Bool) → (x || y) ≡ false → (x ≡ false) × (y ≡ false)
neither true y e = cc
neither false y e = (refl, e)

pub list_any-none_at : {X : Type 0} (p : X → Bool) (xs : List X) (k : ℕ) (x : X) → list_any p xs ≡ false → slice_get xs k ≡ Some x → p x ≡ false
list_any-none_at p [] k x none is = cc
list_any-none_at p (y ∷ ys) zero x none is =
    let same : y ≡ x = cc in
    ap p (sym same) ∙ (neither (p y) (list_any p ys) none).0
list_any-none_at p (y ∷ ys) (suc k) x none is = list_any-none_at p ys k x (neither (p y) (list_any p ys) none).1 is

pub list_any-narrower : {X : Type 0} (p q : X → Bool) (xs : List X) → ((x : X) → p x ≡ false → q x ≡ false) → list_any p xs ≡ false → list_any q xs ≡ false
list_any-narrower p q [] narrower none = refl
list_any-narrower p q (x ∷ xs) narrower none =
    let parts = neither (p x) (list_any p xs) none in
    rw (narrower x parts.0) (list_any-narrower p q xs narrower parts.1)

-- nothing is taken out at a place that isn't there
pub remove_none : {X : Type 0} (xs : List X) (place : ℕ) → slice_get xs place ≡ None → remove xs place ≡ xs
remove_none [] zero none = refl
remove_none [] (suc place) none = refl
remove_none (x ∷ xs) zero none = cc
remove_none (x ∷ xs) (suc place) none = ap (λ (ys : List _). x ∷ ys) (remove_none xs place none)
