-- What a broken rule is told to rest on.
use Rattle.std.specs.Prelude.{◌≡◌, ◌≤◌, ◌+◌, ℕ, Bool, true, false, not, List, ◌++◌, length, Option, Some, None}
use Rattle.std.specs.List.{list_any}
use Rattle.ddr_timing.specs.declared.config.Config.{Config}
use Rattle.ddr_trace.specs.declared.command.Entry.{Entry}
use Rattle.ddr_trace.specs.declared.rule.Rule.{Rule}
use Rattle.ddr_trace.specs.declared.rule.Rule.TheVariants as rule
use Rattle.ddr_trace.specs.Commands.{is_refresh}
use Rattle.ddr_evidence.specs.declared.evidence.Evidence.{Evidence}
use Rattle.ddr_evidence.specs.declared.evidence.Evidence.TheVariants.{TooClose}
use Rattle.ddr_evidence.specs.Evidence.{IsEvidence, IsPair, is_behind_start, is_behind_start_of_rank}
use Rattle.ddr_evidence.specs.Places.{pair_breaks}
use Rattle.ddr_evidence.specs.Recent.{opens}
use Rattle.ddr_watch.specs.declared.recent.TheConstants.{FEWEST_KEPT}

-- an earlier command that is too close: the last such one; else as a whole trace's checker tells it
abbrev pub IsRight : Config → ℕ → Rule → List Entry → Entry → Evidence → Type 0
IsRight c start r history e (TooClose earlier distance least) = IsPair c.timing r history e (TooClose earlier distance least)
IsRight c start r history e evidence = IsEvidence c start (e.cycle + 1) r history e evidence

-- the rules that a command breaks together with an earlier one that it stands too close to
abbrev pub is_by_distance : Rule → Bool
is_by_distance rule.Order = false
is_by_distance rule.Place = false
is_by_distance rule.State = false
is_by_distance rule.Row = false
is_by_distance rule.RefLate = false
is_by_distance rule.RefGap = false
is_by_distance _ = true

-- the rules of which the newest command tells all
abbrev pub is_by_newest : Rule → Bool
is_by_newest rule.Order = true
is_by_newest rule.Place = true
is_by_newest _ = false

-- the rules on what the bank of the command is; a REF wants something of each bank of its rank
abbrev pub is_on_own_bank : Rule → Entry → Bool
is_on_own_bank rule.State e = not (is_refresh e.command)
is_on_own_bank rule.Row e = not (is_refresh e.command)
is_on_own_bank _ e = false

-- Of more commands than are kept, so many newest ones at least were looked through; none of them is too close, and none opened
-- the bank that the rule is on.
pub record IsPassed (c : Config) (start : ℕ) (r : Rule) (history : List Entry) (e : Entry) : Type 0 where
  pub before : List Entry
  pub recent : List Entry
  pub whole : history ≡ before ++ recent
  pub enough : FEWEST_KEPT ≤ length recent
  pub none : is_by_distance r ≡ true → is_behind_start c.timing recent e ≡ false → is_behind_start_of_rank c recent e ≡ false → pair_breaks c.timing r recent e ≡ false
  pub older : is_by_newest r ≡ false
  pub unopened : is_on_own_bank r e ≡ true → list_any (opens e.command) recent ≡ false

abbrev pub IsFound : Config → ℕ → Rule → List Entry → Entry → Option Evidence → Type 0
IsFound c start r history e (Some evidence) = IsRight c start r history e evidence
IsFound c start r history e None = IsPassed c start r history e
