-- The entry at a place, or the trace's end behind the last one.
use Rattle.std.proofs.Common.{◌≡◌, ℕ, ◌<◌, ◌≤◌, Bool, true, false, ◌&&◌, List, length, take, get_or, sym, ap, ◌∙◌}
use Rattle.std.proofs.lemmas.Option.{slice_get-get_or, slice_get_past}
use Rattle.ddr_timing.specs.declared.config.Config.{Config}
use Rattle.ddr_trace.specs.declared.command.Entry.{Entry}
use Rattle.ddr_trace.specs.declared.rule.Rule.{Rule}
use Rattle.ddr_trace.specs.declared.rule.Rule.TheVariants as rule
use Rattle.ddr_trace.specs.Rules.{breaks, ends_late}
use Rattle.ddr_trace.specs.Legality.{breaks_at, breaks_at_end, breaks_where}

-- what breaks the rule at a place of the trace is the entry there
pub breaks_there : (c : Config) (start end : ℕ) (entries : List Entry) (place : ℕ) (d : Entry) (r : Rule) → place < length entries → breaks_at c start end entries place r ≡ true → breaks c start end r (take place entries) (get_or entries place d) ≡ true
breaks_there c start end entries place d r within broken =
    sym (ap (λ o. breaks_where c start end entries o place r) (slice_get-get_or entries place d within)) ∙ broken

both_true : (a b : Bool) → (a && b) ≡ true → b ≡ true
both_true true b e = e
both_true false b e = cc

late_alone : (c : Config) (start end : ℕ) (entries : List Entry) (r : Rule) → breaks_at_end c start end entries r ≡ true → ends_late c start end entries ≡ true
late_alone c start end entries rule.RefLate e = e
late_alone c start end entries _ e = cc

-- and behind the last entry the end, by REF_LATE
pub breaks_behind : (c : Config) (start end : ℕ) (entries : List Entry) (place : ℕ) (r : Rule) → length entries ≤ place → breaks_at c start end entries place r ≡ true → ends_late c start end entries ≡ true
breaks_behind c start end entries place r past broken =
    late_alone c start end entries r (both_true _ _ (sym (ap (λ o. breaks_where c start end entries o place r) (slice_get_past entries place past)) ∙ broken))
