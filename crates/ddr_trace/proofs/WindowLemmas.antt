-- The rules on cycles and on refresh, as the newest entry joins the history.
use Rattle.std.proofs.Common.{◌≡◌, ℕ, ◌+◌, ◌*◌, Bool, true, false, ◌&&◌, nat_lt, List, [], ◌∷◌, ◌++◌, refl, sym, ◌∙◌}
use Rattle.ddr_timing.specs.declared.timing.Timing.{Timing}
use Rattle.ddr_trace.specs.declared.command.Entry.{Entry}
use Rattle.ddr_trace.specs.Commands.{is_activate, is_refresh, is_same_rank}
use Rattle.ddr_trace.specs.Rules.{last_cycle_below, some_earlier, breaks_faw, breaks_ref_gap}
use Rattle.ddr_trace.proofs.Earlier.{some_earlier_none, some_earlier_same}
use Rattle.ddr_trace.proofs.CountedLemmas.{passes_after, counted_skip, counted_next, counted_here}

pub last_cycle_below-append : (before : List Entry) (x : Entry) (cycle : ℕ) → last_cycle_below (before ++ x ∷ []) cycle ≡ nat_lt x.cycle cycle
last_cycle_below-append [] x cycle = refl
last_cycle_below-append (a ∷ []) x cycle = refl
last_cycle_below-append (a ∷ b ∷ more) x cycle = last_cycle_below-append (b ∷ more) x cycle

-- an ACT of the entry's rank
abbrev pub is_rank_act : Entry → Entry → Bool
is_rank_act e m = is_activate m.command && is_same_rank m.command e.command

-- an ACT too close before the entry, with this many ACTs between
abbrev pub breaks_faw_after : Timing → Entry → ℕ → List Entry → Bool
breaks_faw_after t e acts history =
    some_earlier (passes_after (λ a. is_activate a.command && is_activate e.command && is_same_rank a.command e.command) (is_rank_act e) (λ a. nat_lt e.cycle (a.cycle + t.faw)) acts) history

-- a REF of the entry's rank
abbrev pub is_rank_refresh : Entry → Entry → Bool
is_rank_refresh e m = is_refresh m.command && is_same_rank m.command e.command

-- a kind of three tests, of which the second is known
split_true : (a b : Bool) → (a && b) ≡ true → (a && true && b) ≡ true
split_true true b h = h
split_true false b h = h

split_false : (a k b : Bool) → (a && b) ≡ false → (a && k && b) ≡ false
split_false true true b h = h
split_false true false b h = refl
split_false false k b h = refl

-- only an ACT breaks the rule on four activations, and only a REF the rule on the gap
pub no_faw : (t : Timing) (history : List Entry) (e : Entry) → false ≡ is_activate e.command → false ≡ breaks_faw t history e
no_faw t history e no_act = sym (some_earlier_same _ (λ _ _. false) history (λ a between. rw (← no_act) (off (is_activate a.command) _ _ _)) ∙ some_earlier_none history)
  where
    off : (a b c d : Bool) → (a && false && b && c && d) ≡ false
    off true b c d = refl
    off false b c d = refl

pub no_ref_gap : (t : Timing) (history : List Entry) (e : Entry) → false ≡ is_refresh e.command → false ≡ breaks_ref_gap t history e
no_ref_gap t history e no_ref = sym (some_earlier_same _ (λ _ _. false) history (λ a between. rw (← no_ref) (off (is_refresh a.command) _ _ _)) ∙ some_earlier_none history)
  where
    off : (a b c d : Bool) → (a && false && b && c && d) ≡ false
    off true b c d = refl
    off false b c d = refl

-- an ACT of the rank is the one to measure from, where enough ACTs stand between
pub faw_here : (t : Timing) (e : Entry) (n : ℕ) (all history before : List Entry) (x : Entry) → breaks_faw t all e ≡ breaks_faw_after t e n history → history ≡ before ++ x ∷ [] → n ≡ 0 → true ≡ is_activate e.command → true ≡ (is_activate x.command && is_same_rank x.command e.command) → nat_lt e.cycle (x.cycle + t.faw) ≡ breaks_faw t all e
faw_here t e n all history before x so_far split none act rank_act =
    sym (so_far ∙ rw (split, none)
    (counted_here _ (is_rank_act e) _ before x (sym rank_act) (rw (← act) (split_true (is_activate x.command) (is_same_rank x.command e.command) (sym rank_act)))))

pub faw_next : (t : Timing) (e : Entry) (n m : ℕ) (all history before : List Entry) (x : Entry) → breaks_faw t all e ≡ breaks_faw_after t e n history → history ≡ before ++ x ∷ [] → n ≡ m + 1 → true ≡ (is_activate x.command && is_same_rank x.command e.command) → breaks_faw t all e ≡ breaks_faw_after t e m before
faw_next t e n m all history before x so_far split more rank_act =
    so_far ∙ rw (split, more) (counted_next _ (is_rank_act e) _ m before x (sym rank_act))

pub faw_skip : (t : Timing) (e : Entry) (n : ℕ) (all history before : List Entry) (x : Entry) → breaks_faw t all e ≡ breaks_faw_after t e n history → history ≡ before ++ x ∷ [] → false ≡ (is_activate x.command && is_same_rank x.command e.command) → breaks_faw t all e ≡ breaks_faw_after t e n before
faw_skip t e n all history before x so_far split other =
    so_far ∙ rw split (counted_skip _ (is_rank_act e) _ n before x (sym other) (split_false (is_activate x.command) (is_activate e.command) (is_same_rank x.command e.command) (sym other)))

-- the newest REF of the rank is the one before the entry
pub gap_here : (t : Timing) (e : Entry) (all history before : List Entry) (x : Entry) → breaks_ref_gap t all e ≡ breaks_ref_gap t history e → history ≡ before ++ x ∷ [] → true ≡ is_refresh e.command → true ≡ (is_refresh x.command && is_same_rank x.command e.command) → nat_lt (x.cycle + 9 * t.refi) e.cycle ≡ breaks_ref_gap t all e
gap_here t e all history before x so_far split ref rank_ref =
    sym (so_far ∙ rw split
    (counted_here (λ a. is_refresh a.command && is_refresh e.command && is_same_rank a.command e.command) (is_rank_refresh e) (λ a. nat_lt (a.cycle + 9 * t.refi) e.cycle) before x (sym rank_ref) (rw (← ref) (split_true (is_refresh x.command) (is_same_rank x.command e.command) (sym rank_ref)))))

pub gap_skip : (t : Timing) (e : Entry) (all history before : List Entry) (x : Entry) → breaks_ref_gap t all e ≡ breaks_ref_gap t history e → history ≡ before ++ x ∷ [] → false ≡ (is_refresh x.command && is_same_rank x.command e.command) → breaks_ref_gap t all e ≡ breaks_ref_gap t before e
gap_skip t e all history before x so_far split other =
    so_far ∙ rw split
    (counted_skip (λ a. is_refresh a.command && is_refresh e.command && is_same_rank a.command e.command) (is_rank_refresh e) (λ a. nat_lt (a.cycle + 9 * t.refi) e.cycle) 0 before x (sym other) (split_false (is_refresh x.command) (is_refresh e.command) (is_same_rank x.command e.command) (sym other)))
