-- Which ranks are refreshed.
use Rattle.std.proofs.Common.{◌≡◌, ℕ, Bool, true, false, not, cond, ltb, List, [], ◌∷◌, ◌++◌, Option, Some, None, refl, sym, ap, ◌∙◌}
use Rattle.std.specs.List.{AllByRecursion, filter, find, slice_get}
use Rattle.std.specs.Option.{option_map_or}
use Rattle.std.proofs.lemmas.Bool.{and_parts, false≢true}
use Rattle.ddr_legality.specs.Bus.{Bus}
use Rattle.ddr_refresh.specs.Refreshes.{Refreshes, debt_of, is_forced}
use Rattle.ddr_arbiter.specs.declared.choice.Choice.{Choice}
use Rattle.ddr_arbiter.specs.declared.choice.Choice.TheVariants as choice
use Rattle.ddr_arbiter.specs.Choice.{access_choice, candidates_of, choice_of, column_choice, column_place, first_choice, is_idly_forced, is_overdue, is_rank_forced, is_rank_idle, is_something, ranks_of, refresh_choice, refresh_choice_at, row_choice, row_choice_at}
use Rattle.ddr_arbiter.specs.Laws.{refreshed_rank}
use Rattle.ddr_arbiter.specs.Situation.{Situation}

-- every number of a list passes

abbrev AllPass : (ℕ → Bool) → List ℕ → Type 0
AllPass test xs = AllByRecursion (λ x. test x ≡ true) xs

kept_pass : (test kept : ℕ → Bool) (xs : List ℕ) → ((x : ℕ) → kept x ≡ true → test x ≡ true) → AllPass test (filter kept xs)
kept_pass test kept [] implies = tt
kept_pass test kept (x ∷ xs) implies = by_test (kept x) refl (kept_pass test kept xs implies)
  where
    by_test : (w : Bool) → kept x ≡ w → AllPass test (filter kept xs) → AllPass test (cond w (x ∷ filter kept xs) (filter kept xs))
    by_test true is rest = (implies x is, rest)
    by_test false is rest = rest

both_pass : (test : ℕ → Bool) (xs ys : List ℕ) → AllPass test xs → AllPass test ys → AllPass test (xs ++ ys)
both_pass test [] ys first second = second
both_pass test (x ∷ xs) ys first second = (first.0, both_pass test xs ys first.1 second)

-- the step of a rank refreshes that rank

step_rank : (x y : Bool) (at rank : ℕ) → refreshed_rank (cond x (choice.Refresh at) (cond y (choice.PreAll at) choice.Nothing)) ≡ Some rank → at ≡ rank
step_rank true y at rank is = cc
step_rank false true at rank is = cc
step_rank false false at rank is = cc

-- so the first step of some ranks is of one of them
chosen_passes : (b : Bus) (test : ℕ → Bool) (ranks : List ℕ) (rank : ℕ) → AllPass test ranks → refreshed_rank (first_choice (refresh_choice_at b) ranks) ≡ Some rank → test rank ≡ true
chosen_passes b test [] rank all is = cc
chosen_passes b test (x ∷ xs) rank all is = by_test (is_something (refresh_choice_at b x)) refl (chosen_passes b test xs rank all.1)
  where
    by_test : (w : Bool) → is_something (refresh_choice_at b x) ≡ w → (refreshed_rank (first_choice (refresh_choice_at b) xs) ≡ Some rank → test rank ≡ true) → test rank ≡ true
    by_test true some rest =
        let here : refreshed_rank (refresh_choice_at b x) ≡ Some rank = rw some at is in
        let it : x ≡ rank = step_rank _ _ x rank here in
        sym (ap test it) ∙ all.0
    by_test false none rest = rest (rw none at is)

-- a choice for a request refreshes no rank

row_free : (x y : Bool) (place : ℕ) → refreshed_rank (cond x (choice.Act place) (cond y (choice.Pre place) choice.Nothing)) ≡ None
row_free true y place = refl
row_free false true place = refl
row_free false false place = refl

column_free : (x : Bool) (place : ℕ) → refreshed_rank (cond x (choice.ColumnAuto place) (choice.Column place)) ≡ None
column_free true place = refl
column_free false place = refl

option_free : (f : ℕ → Choice) (o : Option ℕ) (c : Choice) → ((n : ℕ) → refreshed_rank (f n) ≡ None) → refreshed_rank c ≡ None → refreshed_rank (option_map_or f o c) ≡ None
option_free f None c each rest = rest
option_free f (Some n) c each rest = each n

access_free : (s : Situation) (places : List ℕ) → refreshed_rank (access_choice s places) ≡ None
access_free s places =
    option_free (column_choice s.policy.closed s.waiting) (column_place s.bus s.waiting places s.room) (row_choice s.bus s.waiting places) (λ place. column_free _ place)
    (option_free (row_choice_at s.bus s.waiting places) (find (λ n. is_something (row_choice_at s.bus s.waiting places n)) places) choice.Nothing (λ place. row_free _ _ place) refl)

-- an overdue rank is forced, and a forced one for which some request is pending is overdue

overdue_forced : (idle : Bool) (o : Option Refreshes) → option_map_or (is_forced false) o false ≡ true → option_map_or (is_forced idle) o false ≡ true
overdue_forced idle None over = absurd (false≢true over)
overdue_forced idle (Some r) over = by_test (ltb r.postpone (debt_of r)) refl
  where
    by_test : (w : Bool) → ltb r.postpone (debt_of r) ≡ w → is_forced idle r ≡ true
    by_test true is = rw is refl
    by_test false is = absurd (false≢true (rw is at over))

pub forced_chosen : (s : Situation) (rank : ℕ) → refreshed_rank (choice_of s) ≡ Some rank → is_rank_forced s.waiting s.refreshes rank ≡ true
forced_chosen s rank is = by_test (is_something (refresh_choice s.bus s.waiting s.refreshes)) refl
  where
    all : AllPass (is_rank_forced s.waiting s.refreshes) (filter (is_overdue s.refreshes) (ranks_of s.refreshes) ++ filter (is_idly_forced s.waiting s.refreshes) (ranks_of s.refreshes))
    all =
        both_pass (is_rank_forced s.waiting s.refreshes) (filter (is_overdue s.refreshes) (ranks_of s.refreshes)) (filter (is_idly_forced s.waiting s.refreshes) (ranks_of s.refreshes))
        (kept_pass (is_rank_forced s.waiting s.refreshes) (is_overdue s.refreshes) (ranks_of s.refreshes) (λ x over. overdue_forced (is_rank_idle s.waiting x) (slice_get s.refreshes x) over))
        (kept_pass (is_rank_forced s.waiting s.refreshes) (is_idly_forced s.waiting s.refreshes) (ranks_of s.refreshes) (λ x idly. (and_parts (is_rank_forced s.waiting s.refreshes x) (not (is_overdue s.refreshes x)) idly).0))

    by_test : (w : Bool) → is_something (refresh_choice s.bus s.waiting s.refreshes) ≡ w → is_rank_forced s.waiting s.refreshes rank ≡ true
    by_test true some =
        let chosen : refreshed_rank (refresh_choice s.bus s.waiting s.refreshes) ≡ Some rank = rw some at is in
        chosen_passes s.bus (is_rank_forced s.waiting s.refreshes) _ rank all chosen
    by_test false none =
        let chosen : refreshed_rank (access_choice s (candidates_of s)) ≡ Some rank = rw none at is in
        let free : None ≡ Some rank = sym (access_free s (candidates_of s)) ∙ chosen in
        cc

pub overdue_chosen : (s : Situation) (rank : ℕ) → refreshed_rank (choice_of s) ≡ Some rank → is_rank_idle s.waiting rank ≡ false → is_overdue s.refreshes rank ≡ true
overdue_chosen s rank is pending =
    sym (ap (λ idle. option_map_or (is_forced idle) (slice_get s.refreshes rank) false) pending) ∙ forced_chosen s rank is
