-- The first element of a list that passes a test: where it stands, and a change of it alone.
use Rattle.std.proofs.Common.{◌≡◌, ℕ, ◌<◌, Bool, true, false, cond, List, [], ◌∷◌, ◌++◌, length, get_or, set, find, Option, Some, None, is_some, refl, ap, subst, ◌∙◌, arith}
use Prim.Native.Nat.{zero, suc}
use Rattle.std.specs.List.{slice_get}
use Rattle.std.specs.Option.{option_map, option_or}
use Rattle.ddr_row_array.specs.View.{place_of}
use Rattle.ddr_row_array.specs.Writes.{changed_first}

within_head : (b : Bool) (n i : ℕ) (place : Option ℕ) → ((j : ℕ) → place ≡ Some j → j < n) → cond b (Some 0) (option_map suc place) ≡ Some i → i < suc n
within_head true n i place rest h = let e : 0 ≡ i = cc in omega arith
within_head false n i None rest h = absurd (let e : None ≡ Some i = h in cc)
within_head false n i (Some j) rest h = let e : suc j ≡ i = cc in let l : j < n = rest j refl in omega arith

pushed_head : (b : Bool) (place end : Option ℕ) → cond b (Some 0) (option_map suc (option_or place end)) ≡ option_or (cond b (Some 0) (option_map suc place)) (option_map suc end)
pushed_head true place end = refl
pushed_head false None end = refl
pushed_head false (Some j) end = refl

later : (b : Bool) (n : ℕ) → option_map suc (cond b (Some n) None) ≡ cond b (Some (suc n)) None
later true n = refl
later false n = refl

alone : (b : Bool) → cond {A = Option ℕ} b (Some 0) (option_map suc None) ≡ option_or None (cond b (Some 0) None)
alone true = refl
alone false = refl

module _ {X : Type 0} where
  at_head : (b : Bool) (x : X) (xs : List X) (i : ℕ) (found : Option X) (place : Option ℕ) → ((j : ℕ) → place ≡ Some j → found ≡ slice_get xs j) → cond b (Some 0) (option_map suc place) ≡ Some i → cond b (Some x) found ≡ slice_get (x ∷ xs) i
  at_head true x xs i found place rest h = let e : 0 ≡ i = cc in subst (λ n. Some x ≡ slice_get (x ∷ xs) n) e refl
  at_head false x xs i found None rest h = cc
  at_head false x xs i found (Some j) rest h = let e : suc j ≡ i = cc in subst (λ n. found ≡ slice_get (x ∷ xs) n) e (rest j refl)

  -- what `find` gives stands there
  pub find_at_place : (p : X → Bool) (xs : List X) (i : ℕ) → place_of p xs ≡ Some i → find p xs ≡ slice_get xs i
  find_at_place p [] i h = cc
  find_at_place p (x ∷ xs) i h = at_head (p x) x xs i (find p xs) (place_of p xs) (find_at_place p xs) h

  missed_head : (b : Bool) (x : X) (found : Option X) (place : Option ℕ) → (place ≡ None → found ≡ None) → cond b (Some 0) (option_map suc place) ≡ None → cond b (Some x) found ≡ None
  missed_head true x found place rest h = cc
  missed_head false x found None rest h = rest refl
  missed_head false x found (Some j) rest h = cc

  pub find_at_no_place : (p : X → Bool) (xs : List X) → place_of p xs ≡ None → find p xs ≡ None
  find_at_no_place p [] h = refl
  find_at_no_place p (x ∷ xs) h = missed_head (p x) x (find p xs) (place_of p xs) (find_at_no_place p xs) h

  -- it stands within the list
  pub place_within : (p : X → Bool) (xs : List X) (i : ℕ) → place_of p xs ≡ Some i → i < length xs
  place_within p [] i h = absurd (let e : None ≡ Some i = h in cc)
  place_within p (x ∷ xs) i h = within_head (p x) (length xs) i (place_of p xs) (place_within p xs) h

  -- one more element at the end is found where no other is
  pub place_of_push : (p : X → Bool) (xs : List X) (y : X) → place_of p (xs ++ y ∷ []) ≡ option_or (place_of p xs) (cond (p y) (Some (length xs)) None)
  place_of_push p [] y = alone (p y)
  place_of_push p (x ∷ xs) y =
      ap (λ o. cond (p x) (Some 0) (option_map suc o)) (place_of_push p xs y)
      ∙ pushed_head (p x) (place_of p xs) (cond (p y) (Some (length xs)) None)
      ∙ ap (option_or (cond (p x) (Some 0) (option_map suc (place_of p xs)))) (later (p y) (length xs))

  changed_head : (b : Bool) (f : X → X) (x d : X) (xs changed : List X) (i : ℕ) (place : Option ℕ) → ((j : ℕ) → place ≡ Some j → changed ≡ set xs j (f (get_or xs j d))) → cond b (Some 0) (option_map suc place) ≡ Some i → cond b (f x ∷ xs) (x ∷ changed) ≡ set (x ∷ xs) i (f (get_or (x ∷ xs) i d))
  changed_head true f x d xs changed i place rest h =
      let e : 0 ≡ i = cc in subst (λ n. f x ∷ xs ≡ set (x ∷ xs) n (f (get_or (x ∷ xs) n d))) e refl
  changed_head false f x d xs changed i None rest h = cc
  changed_head false f x d xs changed i (Some j) rest h =
      let e : suc j ≡ i = cc in
      subst (λ n. x ∷ changed ≡ set (x ∷ xs) n (f (get_or (x ∷ xs) n d))) e (ap (λ l. x ∷ l) (rest j refl))

  -- a change of the first that passes is a write at its place
  pub changed_first-is_set : (p : X → Bool) (f : X → X) (xs : List X) (i : ℕ) (d : X) → place_of p xs ≡ Some i → changed_first p f xs ≡ set xs i (f (get_or xs i d))
  changed_first-is_set p f [] i d h = cc
  changed_first-is_set p f (x ∷ xs) i d h =
      changed_head (p x) f x d xs (changed_first p f xs) i (place_of p xs) (λ j e. changed_first-is_set p f xs j d e) h

  -- a change that keeps what a test says, where the test is the one that picks
  same_head : (b : Bool) (p : X → Bool) (f : X → X) (x : X) (xs changed : List X) → p x ≡ b → p (f x) ≡ p x → find p changed ≡ option_map f (find p xs) → find p (cond b (f x ∷ xs) (x ∷ changed)) ≡ option_map f (cond b (Some x) (find p xs))
  same_head true p f x xs changed is keeps rest = rw (keeps, is) refl
  same_head false p f x xs changed is keeps rest = rw is rest

  pub find-changed_first_same : (p : X → Bool) (f : X → X) → ((x : X) → p (f x) ≡ p x) → (xs : List X) → find p (changed_first p f xs) ≡ option_map f (find p xs)
  find-changed_first_same p f keeps [] = refl
  find-changed_first_same p f keeps (x ∷ xs) =
      same_head (p x) p f x xs (changed_first p f xs) refl (keeps x) (find-changed_first_same p f keeps xs)

  -- where it is another test
  other_head : (b : Bool) (q : X → Bool) (f : X → X) (x : X) (xs changed : List X) → (b ≡ true → q x ≡ false) → q (f x) ≡ q x → find q changed ≡ find q xs → find q (cond b (f x ∷ xs) (x ∷ changed)) ≡ cond (q x) (Some x) (find q xs)
  other_head true q f x xs changed apart keeps rest = let e : q x ≡ false = apart refl in rw (keeps, e) refl
  other_head false q f x xs changed apart keeps rest = ap (cond (q x) (Some x)) rest

  pub find-changed_first_other : (p q : X → Bool) (f : X → X) → ((x : X) → q (f x) ≡ q x) → ((x : X) → p x ≡ true → q x ≡ false) → (xs : List X) → find q (changed_first p f xs) ≡ find q xs
  find-changed_first_other p q f keeps apart [] = refl
  find-changed_first_other p q f keeps apart (x ∷ xs) =
      other_head (p x) q f x xs (changed_first p f xs) (apart x) (keeps x) (find-changed_first_other p q f keeps apart xs)

  either_there : (t : Bool) (x y : X) (o : Option X) → is_some (cond t (Some y) o) ≡ is_some (cond t (Some x) o)
  either_there true x y o = refl
  either_there false x y o = refl

  still_there : (t : Bool) (x : X) (o r : Option X) → is_some o ≡ is_some r → is_some (cond t (Some x) o) ≡ is_some (cond t (Some x) r)
  still_there true x o r e = refl
  still_there false x o r e = e

  there_head : (b : Bool) (q : X → Bool) (f : X → X) (x : X) (xs changed : List X) → q (f x) ≡ q x → is_some (find q changed) ≡ is_some (find q xs) → is_some (find q (cond b (f x ∷ xs) (x ∷ changed))) ≡ is_some (cond (q x) (Some x) (find q xs))
  there_head true q f x xs changed keeps rest = rw keeps (either_there (q x) x (f x) (find q xs))
  there_head false q f x xs changed keeps rest = still_there (q x) x (find q changed) (find q xs) rest

  -- what is found before a change is found after it
  pub is_some-find-changed_first : (p q : X → Bool) (f : X → X) → ((x : X) → q (f x) ≡ q x) → (xs : List X) → is_some (find q (changed_first p f xs)) ≡ is_some (find q xs)
  is_some-find-changed_first p q f keeps [] = refl
  is_some-find-changed_first p q f keeps (x ∷ xs) =
      there_head (p x) q f x xs (changed_first p f xs) (keeps x) (is_some-find-changed_first p q f keeps xs)

  -- a write of an element that tests alike
  pub place_of-set : (p : X → Bool) (xs : List X) (i : ℕ) (y d : X) → p y ≡ p (get_or xs i d) → place_of p (set xs i y) ≡ place_of p xs
  place_of-set p [] i y d h = refl
  place_of-set p (x ∷ xs) zero y d h = ap (λ t. cond {A = Option ℕ} t (Some 0) (option_map suc (place_of p xs))) h
  place_of-set p (x ∷ xs) (suc i) y d h =
      ap (λ o. cond {A = Option ℕ} (p x) (Some 0) (option_map suc o)) (place_of-set p xs i y d h)
