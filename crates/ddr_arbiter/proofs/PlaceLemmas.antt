-- Lemmas on places of a list that pass a test.
use Rattle.std.proofs.Common.{◌≡◌, ℕ, zero, suc, ◌+◌, ◌-◌, ◌<◌, Bool, true, false, ◌&&◌, ◌||◌, cond, List, [], ◌∷◌, ◌++◌, length, take, Some, None, refl, sym, ap, ◌∙◌, arith}
use Rattle.std.specs.List.{filter, find, list_any, range_with_len, slice_get}
use Rattle.std.proofs.lemmas.Bool.{and_parts, true≢false, false≢true}
use Rattle.std.proofs.lemmas.List.Folds.{list_any-append, list_any_at}
use Rattle.std.specs.Option.{option_map_or}
use Rattle.std.proofs.lemmas.List.Elements.{filter-append}
use Rattle.std.proofs.lemmas.List.FromFn.{length-range_with_len, get_or-range_with_len}
use Rattle.ddr_arbiter.specs.declared.choice.Choice.{Choice}
use Rattle.ddr_arbiter.specs.declared.choice.Choice.TheVariants as choice
use Rattle.ddr_arbiter.specs.Choice.{first_choice, is_something}

-- the first numbers that pass a test

pub range_more : (a n : ℕ) → range_with_len a (suc n) ≡ range_with_len a n ++ (a + n) ∷ []
range_more a zero = let same : a ≡ a + 0 = omega arith in ap (λ (k : ℕ). k ∷ []) same
range_more a (suc n) =
    let same : (a + 1) + n ≡ a + suc n = omega arith in
    ap (λ rest. a ∷ rest) (range_more (a + 1) n ∙ ap (λ (k : ℕ). range_with_len (a + 1) n ++ k ∷ []) same)

-- one more number, which passes or doesn't
filter_first_more : (test : ℕ → Bool) (n : ℕ) → filter test (range_with_len 0 (n + 1)) ≡ filter test (range_with_len 0 n) ++ cond (test n) (n ∷ []) []
filter_first_more test n =
    let same : 0 + n ≡ n = omega arith in
    let next : n + 1 ≡ suc n = omega arith in
    ap (λ (k : ℕ). filter test (range_with_len 0 k)) next
    ∙ ap (filter test) (range_more 0 n) ∙ filter-append test (range_with_len 0 n) ((0 + n) ∷ [])
    ∙ ap (λ (k : ℕ). filter test (range_with_len 0 n) ++ cond (test k) (k ∷ []) []) same

append-nil : (xs : List ℕ) → xs ++ [] ≡ xs
append-nil [] = refl
append-nil (x ∷ xs) = ap (λ rest. x ∷ rest) (append-nil xs)

pub filter_first_kept : (test : ℕ → Bool) (n : ℕ) → test n ≡ true → filter test (range_with_len 0 (n + 1)) ≡ filter test (range_with_len 0 n) ++ n ∷ []
filter_first_kept test n kept = filter_first_more test n ∙ ap (λ w. filter test (range_with_len 0 n) ++ cond w (n ∷ []) []) kept

pub filter_first_out : (test : ℕ → Bool) (n : ℕ) → test n ≡ false → filter test (range_with_len 0 (n + 1)) ≡ filter test (range_with_len 0 n)
filter_first_out test n out =
    filter_first_more test n ∙ ap (λ w. filter test (range_with_len 0 n) ++ cond w (n ∷ []) []) out ∙ append-nil (filter test (range_with_len 0 n))

-- the oldest choice

settled : (test : ℕ → Bool) (x : ℕ) (xs : List ℕ) → (w : Bool) → test x ≡ w → find test (x ∷ xs) ≡ None → (test x ≡ false) × (find test xs ≡ None)
settled test x xs true e none = let found : Some x ≡ None = rw e at none in cc
settled test x xs false e none = (e, rw e at none)

-- choices at some numbers, and then at others

pub choice_append : (f : ℕ → Choice) (xs ys : List ℕ) → first_choice f (xs ++ ys) ≡ cond (is_something (first_choice f xs)) (first_choice f xs) (first_choice f ys)
choice_append f [] ys = refl
choice_append f (x ∷ xs) ys = by_test (is_something (f x)) refl (choice_append f xs ys)
  where
    by_test : (w : Bool) → is_something (f x) ≡ w → first_choice f (xs ++ ys) ≡ cond (is_something (first_choice f xs)) (first_choice f xs) (first_choice f ys) →
        first_choice f (x ∷ (xs ++ ys)) ≡ cond (is_something (first_choice f (x ∷ xs))) (first_choice f (x ∷ xs)) (first_choice f ys)
    by_test true some rest = rw (some, some) refl
    by_test false none rest = rw none rest

-- no choice at those of the first n numbers that pass
abbrev pub NoChoice : (ℕ → Choice) → (ℕ → Bool) → ℕ → Type 0
NoChoice f test n = find (λ k. is_something (f k)) (filter test (range_with_len 0 n)) ≡ None

find_append : (test : ℕ → Bool) (xs ys : List ℕ) → find test xs ≡ None → find test (xs ++ ys) ≡ find test ys
find_append test [] ys none = refl
find_append test (x ∷ xs) ys none =
    let parts = settled test x xs (test x) refl none in
    rw parts.0 (find_append test xs ys parts.1)

pub no_choice_out : (f : ℕ → Choice) (test : ℕ → Bool) (n : ℕ) → NoChoice f test n → test n ≡ false → NoChoice f test (n + 1)
no_choice_out f test n none out = ap (find (λ k. is_something (f k))) (filter_first_out test n out) ∙ none

pub no_choice_more : (f : ℕ → Choice) (test : ℕ → Bool) (n : ℕ) → NoChoice f test n → test n ≡ true → is_something (f n) ≡ false → NoChoice f test (n + 1)
no_choice_more f test n none kept nothing =
    ap (find (λ k. is_something (f k))) (filter_first_kept test n kept) ∙ find_append (λ k. is_something (f k)) (filter test (range_with_len 0 n)) (n ∷ []) none ∙ rw nothing refl

find_prefix : (test : ℕ → Bool) (xs ys : List ℕ) (y : ℕ) → find test xs ≡ Some y → find test (xs ++ ys) ≡ Some y
find_prefix test [] ys y found = cc
find_prefix test (x ∷ xs) ys y found = by_test (test x) refl (find_prefix test xs ys y)
  where
    by_test : (w : Bool) → test x ≡ w → (find test xs ≡ Some y → find test (xs ++ ys) ≡ Some y) → cond (test x) (Some x) (find test (xs ++ ys)) ≡ Some y
    by_test true is rest = rw is (rw is at found)
    by_test false is rest = rw is (rest (rw is at found))

range_split : (a m n : ℕ) → range_with_len a (m + n) ≡ range_with_len a m ++ range_with_len (a + m) n
range_split a zero n =
    let same : a ≡ a + 0 = omega arith in
    let none : 0 + n ≡ n = omega arith in
    ap (range_with_len a) none ∙ ap (λ k. range_with_len k n) same
range_split a (suc m) n =
    let next : (a + 1) + m ≡ a + suc m = omega arith in
    let more : suc m + n ≡ suc (m + n) = omega arith in
    ap (range_with_len a) more ∙ ap (λ rest. a ∷ rest) (range_split (a + 1) m n ∙ ap (λ k. range_with_len (a + 1) m ++ range_with_len k n) next)

-- the first of n numbers that passes and has a choice gives it
pub choice_found : (f : ℕ → Choice) (test : ℕ → Bool) (i n : ℕ) → i < n → NoChoice f test i → test i ≡ true → is_something (f i) ≡ true → f i ≡ first_choice f (filter test (range_with_len 0 n))
choice_found f test i n within none kept some =
    let here : find (λ k. is_something (f k)) (filter test (range_with_len 0 (i + 1))) ≡ Some i =
    ap (find (λ k. is_something (f k))) (filter_first_kept test i kept) ∙ find_append (λ k. is_something (f k)) (filter test (range_with_len 0 i)) (i ∷ []) none ∙ rw some refl in
    let whole : n ≡ (i + 1) + (n - (i + 1)) = omega (arith, within) in
    let split : filter test (range_with_len 0 n) ≡ filter test (range_with_len 0 (i + 1)) ++ filter test (range_with_len (0 + (i + 1)) (n - (i + 1))) =
    ap (λ k. filter test (range_with_len 0 k)) whole ∙ ap (filter test) (range_split 0 (i + 1) (n - (i + 1))) ∙ filter-append test (range_with_len 0 (i + 1)) (range_with_len (0 + (i + 1)) (n - (i + 1))) in
    let found : find (λ k. is_something (f k)) (filter test (range_with_len 0 n)) ≡ Some i =
    ap (find (λ k. is_something (f k))) split ∙ find_prefix (λ k. is_something (f k)) (filter test (range_with_len 0 (i + 1))) _ i here in
    sym (ap (λ o. option_map_or f o choice.Nothing) found)

-- what is found among the first numbers that pass a test

-- none of the first n numbers passes both
abbrev pub NoneAmong : (ℕ → Bool) → (ℕ → Bool) → ℕ → Type 0
NoneAmong kept test n = find test (filter kept (range_with_len 0 n)) ≡ None

pub none_more : (kept test : ℕ → Bool) (n : ℕ) → NoneAmong kept test n → (kept n && test n) ≡ false → NoneAmong kept test (n + 1)
none_more kept test n none fails = by_kept (kept n) refl
  where
    by_kept : (w : Bool) → kept n ≡ w → NoneAmong kept test (n + 1)
    by_kept true e =
        let out : test n ≡ false = rw e at fails in
        ap (find test) (filter_first_kept kept n e) ∙ find_append test (filter kept (range_with_len 0 n)) (n ∷ []) none ∙ rw out refl
    by_kept false e = ap (find test) (filter_first_out kept n e) ∙ none

pub first_among : (kept test : ℕ → Bool) (i n : ℕ) → i < n → NoneAmong kept test i → (kept i && test i) ≡ true → find test (filter kept (range_with_len 0 n)) ≡ Some i
first_among kept test i n within none passes =
    let parts = and_parts (kept i) (test i) passes in
    let here : find test (filter kept (range_with_len 0 (i + 1))) ≡ Some i =
    ap (find test) (filter_first_kept kept i parts.0) ∙ find_append test (filter kept (range_with_len 0 i)) (i ∷ []) none ∙ rw parts.1 refl in
    let whole : n ≡ (i + 1) + (n - (i + 1)) = omega (arith, within) in
    let split : filter kept (range_with_len 0 n) ≡ filter kept (range_with_len 0 (i + 1)) ++ filter kept (range_with_len (0 + (i + 1)) (n - (i + 1))) =
    ap (λ k. filter kept (range_with_len 0 k)) whole ∙ ap (filter kept) (range_split 0 (i + 1) (n - (i + 1))) ∙ filter-append kept (range_with_len 0 (i + 1)) (range_with_len (0 + (i + 1)) (n - (i + 1))) in
    ap (find test) split ∙ find_prefix test (filter kept (range_with_len 0 (i + 1))) _ i here

-- a choice at a number that is kept, and nothing at another
pub chosen_among : (f : ℕ → Choice) (kept : ℕ → Bool) (i n : ℕ) (c : Choice) → i < n → NoneAmong kept (λ k. is_something (f k)) i → c ≡ cond (kept i) (f i) choice.Nothing → is_something c ≡ true →
    c ≡ first_choice f (filter kept (range_with_len 0 n))
chosen_among f kept i n c within none is some = by_kept (kept i) refl
  where
    by_kept : (w : Bool) → kept i ≡ w → c ≡ first_choice f (filter kept (range_with_len 0 n))
    by_kept false e = let nothing : c ≡ choice.Nothing = rw e at is in absurd (false≢true (sym (ap is_something nothing) ∙ some))
    by_kept true e =
        let same : c ≡ f i = rw e at is in
        let passes : (kept i && is_something (f i)) ≡ true = rw (e, ← same) some in
        same ∙ sym (ap (λ o. option_map_or f o choice.Nothing) (first_among kept (λ k. is_something (f k)) i n within none passes))

pub not_chosen : (f : ℕ → Choice) (kept : ℕ → Bool) (i : ℕ) (c : Choice) → c ≡ cond (kept i) (f i) choice.Nothing → is_something c ≡ false → (kept i && is_something (f i)) ≡ false
not_chosen f kept i c is nothing = by_kept (kept i) refl
  where
    by_kept : (w : Bool) → kept i ≡ w → (kept i && is_something (f i)) ≡ false
    by_kept false e = rw e refl
    by_kept true e = let same : c ≡ f i = rw e at is in rw (e, ← same) nothing

-- whether some of the first places passes

pub any_none_more : (test : ℕ → Bool) (n : ℕ) → list_any test (range_with_len 0 n) ≡ false → test n ≡ false → list_any test (range_with_len 0 (n + 1)) ≡ false
any_none_more test n none out =
    let next : n + 1 ≡ suc n = omega arith in
    let zero_more : 0 + n ≡ n = omega arith in
    ap (λ k. list_any test (range_with_len 0 k)) next ∙ ap (list_any test) (range_more 0 n) ∙ list_any-append test (range_with_len 0 n) ((0 + n) ∷ [])
    ∙ ap (λ k. list_any test (range_with_len 0 n) || (test k || false)) zero_more ∙ ap (λ x. x || (test n || false)) none ∙ ap (λ x. x || false) out

pub any_here : (test : ℕ → Bool) (n i : ℕ) → i < n → test i ≡ true → list_any test (range_with_len 0 n) ≡ true
any_here test n i within passes =
    let zero_more : 0 + i ≡ i = omega arith in
    list_any_at test (range_with_len 0 n) i 0 (omega (arith, within, length-range_with_len 0 n)) (ap test (get_or-range_with_len 0 n i 0 within ∙ zero_more) ∙ passes)

-- and of the first elements
pub any_none_taken : {X : Type 0} (test : X → Bool) (xs : List X) (i : ℕ) → i < length xs → list_any test (take i xs) ≡ false → option_map_or test (slice_get xs i) false ≡ false → list_any test (take (i + 1) xs) ≡ false
any_none_taken test [] i within none out = absurd (omega arith)
any_none_taken test (x ∷ xs) zero within none out = rw out refl
any_none_taken test (x ∷ xs) (suc i) within none out =
    let more : suc i + 1 ≡ suc (i + 1) = omega arith in
    let parts = neither (test x) (list_any test (take i xs)) none in
    ap (λ k. list_any test (take k (x ∷ xs))) more ∙ ap (λ w. w || list_any test (take (i + 1) xs)) parts.0 ∙ any_none_taken test xs i (omega arith) parts.1 out
  where
    neither : (a b : Bool) → (a || b) ≡ false → (a ≡ false) × (b ≡ false)
    neither true b none = absurd (true≢false none)
    neither false b none = (refl, none)

pub any_taken_here : {X : Type 0} (test : X → Bool) (xs : List X) (i : ℕ) → option_map_or test (slice_get xs i) false ≡ true → list_any test xs ≡ true
any_taken_here test [] i passes = absurd (false≢true passes)
any_taken_here test (x ∷ xs) zero passes = rw passes refl
any_taken_here test (x ∷ xs) (suc i) passes = rw (any_taken_here test xs i passes) (or_last (test x))
  where
    or_last : (a : Bool) → (a || true) ≡ true
    or_last true = refl
    or_last false = refl
