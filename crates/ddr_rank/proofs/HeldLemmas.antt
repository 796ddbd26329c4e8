-- What rules on two commands hold up: behind one more command, and beside the other rules.
use Rattle.std.proofs.Common.{◌≡◌, ℕ, ◌<◌, max, Bool, true, false, ◌&&◌, ◌||◌, not, nat_lt, List, [], ◌∷◌, ◌++◌, is_none, refl, sym, ap, arith, ◌∙◌}
use Rattle.std.specs.List.{find, list_any}
use Rattle.std.proofs.lemmas.Bool.Decides.{nat_tests}
use Rattle.std.proofs.lemmas.List.Folds.{list_any-append}
use Rattle.ddr_timing.specs.declared.config.Config.{Config}
use Rattle.ddr_timing.specs.declared.timing.Timing.{Timing}
use Rattle.ddr_trace.specs.declared.command.Command.{Command}
use Rattle.ddr_trace.specs.declared.command.Entry.{Entry}
use Rattle.ddr_trace.specs.declared.rule.Rule.{Rule}
use Rattle.ddr_trace.specs.declared.rule.Rule.TheVariants as rule
use Rattle.ddr_trace.specs.declared.rule.TheConstants.Rule.{ALL}
use Rattle.ddr_trace.specs.Banks.{any_bank, bank_behind, is_auto_within}
use Rattle.ddr_trace.specs.Commands.{entry, is_activate, is_refresh, rank_of}
use Rattle.ddr_trace.specs.Legality.{lowest_rule}
use Rattle.ddr_trace.specs.Rules.{breaks_faw, breaks_on_rank, breaks_row, breaks_spacing, breaks_state, is_too_close, spacing_of}
use Rattle.ddr_rank.proofs.LatestLemmas.{or_false}
use Rattle.ddr_rank.specs.Ready.{IsFirst, LAST_CYCLE, is_held, is_held_by}

pub any_alike : {X : Type 0} (f g : X → Bool) (xs : List X) → ((x : X) → f x ≡ g x) → list_any f xs ≡ list_any g xs
any_alike f g [] same = refl
any_alike f g (x ∷ xs) same = rw (same x, any_alike f g xs same) refl

crossed : (a b c d : Bool) → ((a || b) || (c || d)) ≡ ((a || c) || (b || d))
crossed true b true d = refl
crossed true true false d = refl
crossed true false false d = refl
crossed false true true d = refl
crossed false true false d = refl
crossed false false c d = refl

pub any_either : {X : Type 0} (f g : X → Bool) (xs : List X) → list_any (λ x. f x || g x) xs ≡ (list_any f xs || list_any g xs)
any_either f g [] = refl
any_either f g (x ∷ xs) = rw (any_either f g xs) (crossed (f x) (g x) (list_any f xs) (list_any g xs))

-- one more command
held-append : (t : Timing) (history : List Entry) (e x : Entry) → is_held t (history ++ e ∷ []) x ≡ (is_held t history x || is_held_by t e x)
held-append t history e x =
    any_alike _ (λ r. breaks_spacing (spacing_of t r) history x || is_too_close (spacing_of t r) e x) ALL one_more
    ∙ any_either (λ r. breaks_spacing (spacing_of t r) history x) (λ r. is_too_close (spacing_of t r) e x) ALL
  where
    one_more : (r : Rule) → breaks_spacing (spacing_of t r) (history ++ e ∷ []) x ≡ (breaks_spacing (spacing_of t r) history x || is_too_close (spacing_of t r) e x)
    one_more r =
        list_any-append (λ a. is_too_close (spacing_of t r) a x) history (e ∷ [])
        ∙ ap (λ w. breaks_spacing (spacing_of t r) history x || w) (or_false (is_too_close (spacing_of t r) e x))

pub below_max : (y m n : ℕ) → nat_lt y (max m n) ≡ (nat_lt y m || nat_lt y n)
below_max y m n = grind (arith, nat_tests)

pub first_raised : (t : Timing) (history : List Entry) (e : Entry) (c : Command) (first asked : ℕ) → IsFirst t history c first
    → ((y : ℕ) → y < LAST_CYCLE → nat_lt y asked ≡ is_held_by t e (entry y c)) → IsFirst t (history ++ e ∷ []) c (max first asked)
first_raised t history e c first asked kept asks = λ y below.
    below_max y first asked
    ∙ ap (λ w. w || nat_lt y asked) (kept y below)
    ∙ ap (λ w. is_held t history (entry y c) || w) (asks y below)
    ∙ sym (held-append t history e (entry y c))

pub first_stays : (t : Timing) (history : List Entry) (e : Entry) (c : Command) (first : ℕ) → IsFirst t history c first
    → ((y : ℕ) → is_held_by t e (entry y c) ≡ false) → IsFirst t (history ++ e ∷ []) c first
first_stays t history e c first kept none = λ y below.
    kept y below
    ∙ sym (held-append t history e (entry y c) ∙ ap (λ w. is_held t history (entry y c) || w) (none y) ∙ or_false (is_held t history (entry y c)))

-- before the first command
pub held_by_nothing : (t : Timing) (x : Entry) → is_held t [] x ≡ false
held_by_nothing t x = refl

-- a rule that is not on two commands, or what it says beside them
abbrev pub breaks_else : Config → List Entry → Entry → Rule → Bool
breaks_else c history e rule.State = breaks_state c history e
breaks_else c history e rule.Row = breaks_row c.timing history e
breaks_else c history e rule.Rp = is_activate e.command && is_auto_within c.timing c.timing.rp e.cycle (bank_behind e.command history)
breaks_else c history e rule.Faw = breaks_faw c.timing history e
breaks_else c history e rule.RpRef = is_refresh e.command && any_bank c.geometry (rank_of e.command) (λ bank. is_auto_within c.timing c.timing.rp e.cycle (bank_behind bank history))
breaks_else c history e r = false

none_close : (t : Timing) (history : List Entry) (e : Entry) (r : Rule) → ((a : Entry) → is_too_close (spacing_of t r) a e ≡ false) → breaks_spacing (spacing_of t r) history e ≡ false
none_close t [] e r none = refl
none_close t (a ∷ history) e r none = rw (none a, none_close t history e r none) refl

pub split_rule : (c : Config) (history : List Entry) (e : Entry) (r : Rule) → breaks_on_rank c r history e ≡ (breaks_spacing (spacing_of c.timing r) history e || breaks_else c history e r)
split_rule c history e rule.State = ap (λ w. w || breaks_state c history e) (sym (none_close c.timing history e rule.State (λ a. refl)))
split_rule c history e rule.Row = ap (λ w. w || breaks_row c.timing history e) (sym (none_close c.timing history e rule.Row (λ a. refl)))
split_rule c history e rule.Faw = ap (λ w. w || breaks_faw c.timing history e) (sym (none_close c.timing history e rule.Faw (λ a. refl)))
split_rule c history e rule.Rp = refl
split_rule c history e rule.RpRef = refl
split_rule c history e r = sym (or_false (breaks_spacing (spacing_of c.timing r) history e))

pub none_found : {X : Type 0} (p : X → Bool) (xs : List X) → is_none (find p xs) ≡ not (list_any p xs)
none_found p [] = refl
none_found p (x ∷ xs) = by_test (p x) refl (none_found p xs)
  where
    by_test : (w : Bool) → p x ≡ w → is_none (find p xs) ≡ not (list_any p xs) → is_none (find p (x ∷ xs)) ≡ not (p x || list_any p xs)
    by_test true e rest = rw e refl
    by_test false e rest = rw e rest

-- no rule is broken where none holds the entry up, and none of the others is broken
pub none_on_rank : (c : Config) (history : List Entry) (e : Entry) → is_none (lowest_rule (λ r. breaks_on_rank c r history e)) ≡ not (is_held c.timing history e || list_any (breaks_else c history e) ALL)
unfolding lowest_rule
none_on_rank c history e =
    none_found (λ r. breaks_on_rank c r history e) ALL
    ∙ ap not (any_alike (λ r. breaks_on_rank c r history e) (λ r. breaks_spacing (spacing_of c.timing r) history e || breaks_else c history e r) ALL (split_rule c history e) ∙ any_either (λ r. breaks_spacing (spacing_of c.timing r) history e) (breaks_else c history e) ALL)
