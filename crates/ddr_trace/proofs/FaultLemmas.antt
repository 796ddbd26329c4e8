-- The places of a trace, and the first that breaks a rule.
use Rattle.std.proofs.Common.{◌≡◌, ℕ, ◌+◌, ◌<◌, ◌≤◌, Bool, true, false, List, length, take, get_or, Some, ◌⊎◌, inl, inr, refl, sym, arith, ◌∙◌}
use Rattle.std.proofs.lemmas.Bool.{false≢true, cases_lt}
use Rattle.std.proofs.lemmas.Bool.Decides.{nat_tests}
use Rattle.std.proofs.lemmas.Option.{slice_get-get_or, slice_get_past}
use Rattle.ddr_timing.specs.declared.config.Config.{Config}
use Rattle.ddr_trace.specs.declared.command.Entry.{Entry}
use Rattle.ddr_trace.specs.declared.rule.Rule.{Rule}
use Rattle.ddr_trace.specs.declared.rule.Rule.TheVariants as rule
use Rattle.ddr_trace.specs.Rules.{breaks, ends_late, is_on_commands}
use Rattle.ddr_trace.specs.Legality.{breaks_at, breaks_at_end, lowest_rule, IsFirstFault, IsLegal, IsRefreshed}
use Rattle.ddr_trace.proofs.LowestLemmas.{lowest_rule-alike, lowest_passes}

-- no rule is broken below this place
abbrev pub IsCleanBelow : Config → ℕ → ℕ → List Entry → ℕ → Type 0
IsCleanBelow c start end entries n = (place : ℕ) (r : Rule) → place < n → breaks_at c start end entries place r ≡ false

at_entry : (c : Config) (start end : ℕ) (entries : List Entry) (place : ℕ) (d : Entry) (r : Rule) → place < length entries → breaks_at c start end entries place r ≡ breaks c start end r (take place entries) (get_or entries place d)
at_entry c start end entries place d r within = rw (slice_get-get_or entries place d within)

at_end : (c : Config) (start end : ℕ) (entries : List Entry) (r : Rule) → breaks_at c start end entries (length entries) r ≡ breaks_at_end c start end entries r
at_end c start end entries r = rw (slice_get_past entries (length entries) (omega arith)) (grind (arith, nat_tests))

behind_end : (c : Config) (start end : ℕ) (entries : List Entry) (place : ℕ) (r : Rule) → length entries < place → breaks_at c start end entries place r ≡ false
behind_end c start end entries place r behind = rw (slice_get_past entries place (omega arith)) (grind (arith, nat_tests))

-- a clean entry, as at a step of a loop over the entries
pub clean_more : (c : Config) (start end : ℕ) (entries : List Entry) (n : ℕ) (d : Entry) → n < length entries → IsCleanBelow c start end entries n → ((r : Rule) → breaks c start end r (take n entries) (get_or entries n d) ≡ false) → IsCleanBelow c start end entries (n + 1)
clean_more c start end entries n d within so_far here = λ place r below. by_place place r below (cases_lt place n)
  where
    by_place : (place : ℕ) (r : Rule) → place < n + 1 → (place < n) ⊎ (n ≤ place) → breaks_at c start end entries place r ≡ false
    by_place place r more (inl below) = so_far place r below
    by_place place r more (inr above) =
        let same : place ≡ n = omega arith in
        rw same (at_entry c start end entries n d r within ∙ here r)

-- the first entry that breaks a rule
pub first_at_entry : (c : Config) (start end : ℕ) (entries : List Entry) (n : ℕ) (d : Entry) (r : Rule) (test : Rule → Bool) → n < length entries → IsCleanBelow c start end entries n → ((q : Rule) → breaks c start end q (take n entries) (get_or entries n d) ≡ test q) → lowest_rule test ≡ Some r → IsFirstFault c start end entries n r
first_at_entry c start end entries n d r test within so_far here lowest = record {
  lowest = lowest_rule-alike _ _ (λ q. at_entry c start end entries n d q within ∙ here q) ∙ lowest;
  first = λ place q below. so_far place q below;
}

-- the trace's end, where it alone breaks a rule
pub first_at_end : (c : Config) (start end : ℕ) (entries : List Entry) → IsCleanBelow c start end entries (length entries) → true ≡ ends_late c start end entries → IsFirstFault c start end entries (length entries) rule.RefLate
unfolding lowest_rule
first_at_end c start end entries so_far late = record {
  lowest = lowest_rule-alike _ _ (λ q. at_end c start end entries q) ∙ late_alone;
  first = λ place q below. so_far place q below;
}
  where
    late_alone : lowest_rule (breaks_at_end c start end entries) ≡ Some rule.RefLate
    late_alone = rw (← late) refl

-- a trace with no fault at any place
pub clean_all : (c : Config) (start end : ℕ) (entries : List Entry) → IsCleanBelow c start end entries (length entries) → false ≡ ends_late c start end entries → IsLegal c start end entries × IsRefreshed c start end entries
clean_all c start end entries so_far early = (λ place r h. by_place place r, λ place r h. by_place place r)
  where
    ends : (r : Rule) → breaks_at_end c start end entries r ≡ false
    ends rule.RefLate = sym early
    ends _ = refl

    past : (place : ℕ) (r : Rule) → length entries ≤ place → (length entries < place) ⊎ (place ≤ length entries) → breaks_at c start end entries place r ≡ false
    past place r above (inl behind) = behind_end c start end entries place r behind
    past place r above (inr below) =
        let same : place ≡ length entries = omega arith in
        rw same (at_end c start end entries r ∙ ends r)

    by_case : (place : ℕ) (r : Rule) → (place < length entries) ⊎ (length entries ≤ place) → breaks_at c start end entries place r ≡ false
    by_case place r (inl within) = so_far place r within
    by_case place r (inr above) = past place r above (cases_lt (length entries) place)

    by_place : (place : ℕ) (r : Rule) → breaks_at c start end entries place r ≡ false
    by_place place r = by_case place r (cases_lt place (length entries))

-- a trace with a fault is not both legal and refreshed
pub not_clean : (c : Config) (start end : ℕ) (entries : List Entry) (place : ℕ) (r : Rule) → IsFirstFault c start end entries place r → IsLegal c start end entries × IsRefreshed c start end entries → ⊥
not_clean c start end entries place r fault clean = by_kind (is_on_commands r) refl
  where
    broken : breaks_at c start end entries place r ≡ true
    broken = lowest_passes _ r fault.lowest

    by_kind : (w : Bool) → is_on_commands r ≡ w → ⊥
    by_kind true on = false≢true (sym (clean.0 place r on) ∙ broken)
    by_kind false off = false≢true (sym (clean.1 place r off) ∙ broken)
