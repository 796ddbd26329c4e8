-- The fourth ACT before the next one.
use Rattle.std.proofs.Common.{◌≡◌, ℕ, zero, suc, ◌+◌, ◌-◌, ◌<◌, ◌≤◌, Bool, true, false, ◌&&◌, ◌||◌, ◌==◌, nat_lt, if◌then◌else◌, List, [], ◌∷◌, ◌++◌, length, cond, count_by, drop, Option, None, ◌⊎◌, inl, inr, refl, sym, ap, arith, length-drop, ◌∙◌}
use Rattle.std.specs.Prelude.{slice_get}
use Rattle.std.proofs.lemmas.Bool.{cases_lt}
use Rattle.std.proofs.lemmas.Bool.Decides.{nat_tests}
use Rattle.std.proofs.lemmas.List.{drop-append-le, length-append}
use Rattle.std.proofs.lemmas.List.Sums.{sum_by-append}
use Rattle.circular_buffer.specs.Buffer.{keep_last}
use Rattle.ddr_timing.specs.declared.timing.Timing.{Timing}
use Rattle.ddr_trace.specs.declared.command.Command.{Command}
use Rattle.ddr_trace.specs.declared.command.Command.TheVariants.{Act}
use Rattle.ddr_trace.specs.declared.command.Entry.{Entry}
use Rattle.ddr_trace.specs.Commands.{entry, is_activate}
use Rattle.ddr_trace.specs.Rules.{breaks_faw, some_earlier}
use Rattle.ddr_trace.proofs.WindowLemmas.{no_faw}
use Rattle.ddr_rank.specs.Latest.{is_within}
use Rattle.ddr_rank.specs.Readiness.{Readiness, fourth_activate}
use Rattle.ddr_rank.specs.Stands.{activates_of, is_of_rank}

abbrev is_rank_act : ℕ → Entry → Bool
is_rank_act k e = is_activate e.command && is_of_rank k e.command

count_is_length : (k : ℕ) (history : List Entry) → count_by (is_rank_act k) history ≡ length (activates_of k history)
count_is_length k [] = refl
count_is_length k (a ∷ history) =
    sum_by-append (λ e. cond (is_rank_act k e) 1 0) (a ∷ []) history ∙ by_kind (is_rank_act k a) refl (count_is_length k history)
  where
    by_kind : (w : Bool) → is_rank_act k a ≡ w → count_by (is_rank_act k) history ≡ length (activates_of k history) → (0 + cond (is_rank_act k a) 1 0) + count_by (is_rank_act k) history ≡ length (activates_of k (a ∷ history))
    by_kind true e rest = rw (e, rest) (omega arith)
    by_kind false e rest = rw (e, rest) (omega arith)

-- the element that so many elements follow
abbrev from_back : ℕ → List ℕ → Option ℕ
from_back n xs = if nat_lt n (length xs) then slice_get xs (length xs - 1 - n) else None

-- the first element, where the list becomes longer by it
step_here : (n d y x : ℕ) (xs : List ℕ) → (((length xs == n) && nat_lt y (x + d)) || is_within d y (from_back n xs)) ≡ is_within d y (from_back n (x ∷ xs))
step_here n d y x xs = by_place (cases_lt (length xs) n) (cases_lt n (length xs))
  where
    behind : (k : ℕ) → slice_get (x ∷ xs) (suc k) ≡ slice_get xs k
    behind k = refl

    by_place : (length xs < n) ⊎ (n ≤ length xs) → (n < length xs) ⊎ (length xs ≤ n) → (((length xs == n) && nat_lt y (x + d)) || is_within d y (from_back n xs)) ≡ is_within d y (from_back n (x ∷ xs))
    by_place (inl above) _ =
        let a : (length xs == n) ≡ false = grind (arith, nat_tests) in
        let b : nat_lt n (length xs) ≡ false = grind (arith, nat_tests) in
        let c : nat_lt n (length (x ∷ xs)) ≡ false = grind (arith, nat_tests) in
        rw (a, b, c) refl
    by_place (inr _) (inl below) =
        let a : (length xs == n) ≡ false = grind (arith, nat_tests) in
        let b : nat_lt n (length xs) ≡ true = grind (arith, nat_tests) in
        let c : nat_lt n (length (x ∷ xs)) ≡ true = grind (arith, nat_tests) in
        let place : length (x ∷ xs) - 1 - n ≡ suc (length xs - 1 - n) = omega arith in
        rw (a, b, c, place) refl
    by_place (inr high) (inr low) =
        let same : length xs ≡ n = omega arith in
        let a : (length xs == n) ≡ true = grind (arith, nat_tests) in
        let b : nat_lt n (length xs) ≡ false = grind (arith, nat_tests) in
        let c : nat_lt n (length (x ∷ xs)) ≡ true = grind (arith, nat_tests) in
        let place : length (x ∷ xs) - 1 - n ≡ 0 = omega arith in
        rw (a, b, c, place) (or_none (nat_lt y (x + d)))
      where
        or_none : (w : Bool) → (w || false) ≡ w
        or_none true = refl
        or_none false = refl

-- so many ACTs stand between, and the distance is too short
counted : (k n d y : ℕ) (history : List Entry) → some_earlier (λ a between. is_activate a.command && true && is_of_rank k a.command && (count_by (is_rank_act k) between == n) && nat_lt y (a.cycle + d)) history ≡ is_within d y (from_back n (activates_of k history))
counted k n d y [] = grind (arith, nat_tests)
counted k n d y (a ∷ history) =
    rw (counted k n d y history, count_is_length k history) (by_kind (is_activate a.command) (is_of_rank k a.command) refl refl)
  where
    by_kind : (x w : Bool) → is_activate a.command ≡ x → is_of_rank k a.command ≡ w → ((x && true && w && (length (activates_of k history) == n) && nat_lt y (a.cycle + d)) || is_within d y (from_back n (activates_of k history))) ≡ is_within d y (from_back n (activates_of k (a ∷ history)))
    by_kind true true e f = rw (e, f) (step_here n d y a.cycle (activates_of k history))
    by_kind true false e f = rw (e, f) refl
    by_kind false w e f = rw e refl

-- the fourth of the last four
kept_fourth : (xs : List ℕ) → (if length (keep_last 4 xs) == 4 then slice_get (keep_last 4 xs) 0 else None) ≡ from_back 3 xs
kept_fourth xs = by_size (cases_lt 3 (length xs))
  where
    first_left : (n : ℕ) (ys : List ℕ) → slice_get (drop n ys) 0 ≡ slice_get ys n
    first_left zero ys = refl
    first_left (suc n) [] = refl
    first_left (suc n) (y ∷ ys) = first_left n ys

    size : length (keep_last 4 xs) ≡ length xs - (length xs - 4)
    size = length-drop (length xs - 4) xs

    by_size : (3 < length xs) ⊎ (length xs ≤ 3) → (if length (keep_last 4 xs) == 4 then slice_get (keep_last 4 xs) 0 else None) ≡ from_back 3 xs
    by_size (inl long) =
        let four : length (keep_last 4 xs) ≡ 4 = omega (arith, size) in
        let a : (length (keep_last 4 xs) == 4) ≡ true = grind (arith, nat_tests) in
        let b : nat_lt 3 (length xs) ≡ true = grind (arith, nat_tests) in
        let place : length xs - 1 - 3 ≡ length xs - 4 = omega arith in
        rw (a, b, place) (first_left (length xs - 4) xs)
    by_size (inr short) =
        let few : length (keep_last 4 xs) < 4 = omega (arith, size) in
        let a : (length (keep_last 4 xs) == 4) ≡ false = grind (arith, nat_tests) in
        let b : nat_lt 3 (length xs) ≡ false = grind (arith, nat_tests) in
        rw (a, b) refl

pub faw_told : (r : Readiness) (k : ℕ) (history : List Entry) (t : Timing) (cycle g b w : ℕ) → r.activates ≡ keep_last 4 (activates_of k history) → is_within t.faw cycle (fourth_activate r) ≡ breaks_faw t history (entry cycle (Act k g b w))
faw_told r k history t cycle g b w kept =
    ap (λ (xs : List ℕ). is_within t.faw cycle (if length xs == 4 then slice_get xs 0 else None)) kept
    ∙ ap (λ o. is_within t.faw cycle o) (kept_fourth (activates_of k history))
    ∙ sym (counted k 3 t.faw cycle history)

-- only an ACT breaks the rule
pub faw_untold : (t : Timing) (history : List Entry) (cycle : ℕ) (c : Command) → is_activate c ≡ false → false ≡ breaks_faw t history (entry cycle c)
faw_untold t history cycle c no_act = no_faw t history (entry cycle c) (sym no_act)

-- one more ACT
pub keep_last-more : (xs : List ℕ) (x : ℕ) → keep_last 4 (keep_last 4 xs ++ x ∷ []) ≡ keep_last 4 (xs ++ x ∷ [])
keep_last-more xs x = by_size (cases_lt 4 (length xs))
  where
    one_more : (n : ℕ) (ys : List ℕ) → drop (suc n) ys ≡ drop 1 (drop n ys)
    one_more zero ys = refl
    one_more (suc n) [] = refl
    one_more (suc n) (y ∷ ys) = one_more n ys

    by_size : (4 < length xs) ⊎ (length xs ≤ 4) → keep_last 4 (keep_last 4 xs ++ x ∷ []) ≡ keep_last 4 (xs ++ x ∷ [])
    by_size (inl long) =
        let kept = length-drop (length xs - 4) xs in
        let longer = length-append (drop (length xs - 4) xs) (x ∷ []) in
        let whole = length-append xs (x ∷ []) in
        let a : length (drop (length xs - 4) xs ++ x ∷ []) - 4 ≡ 1 = omega (arith, kept, longer) in
        let b : length (xs ++ x ∷ []) - 4 ≡ suc (length xs - 4) = omega (arith, whole) in
        rw (a, b) (ap (λ (ys : List ℕ). drop 1 ys) (sym (drop-append-le (length xs - 4) xs (x ∷ []) (omega arith))) ∙ sym (one_more (length xs - 4) (xs ++ x ∷ [])))
    by_size (inr short) = let none : length xs - 4 ≡ 0 = omega arith in rw none refl
