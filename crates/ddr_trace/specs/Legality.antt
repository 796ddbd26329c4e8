-- Legal traces, refreshed traces, and the first fault of a trace.
use Rattle.std.specs.Prelude.{◌≡◌, ℕ, ◌<◌, Bool, true, false, ◌&&◌, ◌==◌, List, length, take, Option, Some, None, slice_get, find}
use Rattle.ddr_timing.specs.declared.config.Config.{Config}
use Rattle.ddr_trace.specs.declared.command.Entry.{Entry}
use Rattle.ddr_trace.specs.declared.rule.Rule.{Rule}
use Rattle.ddr_trace.specs.declared.rule.Rule.TheVariants as rule
use Rattle.ddr_trace.specs.declared.rule.TheConstants.Rule.{ALL}
use Rattle.ddr_trace.specs.Rules.{breaks, ends_late, is_on_commands}

-- the first of all rules, in their order, that passes the test
unfoldable pub lowest_rule : (Rule → Bool) → Option Rule
lowest_rule test = find test ALL

-- the lowest rule on commands that the entry breaks after its history
abbrev pub lowest_broken : Config → ℕ → ℕ → List Entry → Entry → Option Rule
lowest_broken c start end history e = lowest_rule (λ r. is_on_commands r && breaks c start end r history e)

-- the entry breaks no rule on commands
abbrev pub KeepsRules : Config → ℕ → ℕ → List Entry → Entry → Type 0
KeepsRules c start end history e = (r : Rule) → is_on_commands r ≡ true → breaks c start end r history e ≡ false

-- REF_LATE is broken at the end of the trace too
abbrev pub breaks_at_end : Config → ℕ → ℕ → List Entry → Rule → Bool
breaks_at_end c start end entries rule.RefLate = ends_late c start end entries
breaks_at_end c start end entries _ = false

abbrev pub breaks_where : Config → ℕ → ℕ → List Entry → Option Entry → ℕ → Rule → Bool
breaks_where c start end entries (Some e) place r = breaks c start end r (take place entries) e
breaks_where c start end entries None place r = place == length entries && breaks_at_end c start end entries r

-- the rule is broken at the place: by the entry there, or, behind the last entry, by the trace's end
abbrev pub breaks_at : Config → ℕ → ℕ → List Entry → ℕ → Rule → Bool
breaks_at c start end entries place r = breaks_where c start end entries (slice_get entries place) place r

-- no entry breaks a rule on commands
abbrev pub IsLegal : Config → ℕ → ℕ → List Entry → Type 0
IsLegal c start end entries = (place : ℕ) (r : Rule) → is_on_commands r ≡ true → breaks_at c start end entries place r ≡ false

-- neither rule on refresh is broken
abbrev pub IsRefreshed : Config → ℕ → ℕ → List Entry → Type 0
IsRefreshed c start end entries = (place : ℕ) (r : Rule) → is_on_commands r ≡ false → breaks_at c start end entries place r ≡ false

-- the lowest place at which a rule is broken, and the lowest rule that is broken there
pub record IsFirstFault (c : Config) (start end : ℕ) (entries : List Entry) (place : ℕ) (r : Rule) : Type 0 where
  pub lowest : lowest_rule (breaks_at c start end entries place) ≡ Some r
  pub first : (before : ℕ) (other : Rule) → before < place → breaks_at c start end entries before other ≡ false
