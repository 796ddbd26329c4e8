-- The text of what a channel's commands waited for.
use Rattle.std.specs.Prelude.{ℕ, ◌+◌, ◌==◌, if◌then◌else◌, List, [], ◌∷◌, ◌++◌, codes, slice_index_or}
use Rattle.std.specs.Fmt.{decimal}
use Rattle.ddr_statistics.specs.Text.{line}
use Rattle.ddr_trace.specs.declared.rule.Rule.{Rule}
use Rattle.ddr_trace.specs.declared.rule.TheConstants.Rule.{ALL}
use Rattle.ddr_trace.specs.Names.{name_of}
use Rattle.ddr_ledger.specs.declared.causes.Causes.{Causes}
use Rattle.ddr_ledger.specs.Causes.{clocks_of}

-- the clocks of a rule, where there are any
unfoldable pub rule_line : Rule → ℕ → List ℕ
rule_line r clocks = if clocks == 0 then [] else codes "stalled_for_" ++ (name_of r ++ (codes " = " ++ (decimal clocks ++ 10 ∷ [])))

-- of rules whose clocks stand from this place on
abbrev pub rules_lines : ℕ → List Rule → List ℕ → List ℕ
rules_lines place [] clocks = []
rules_lines place (r ∷ more) clocks = rule_line r (slice_index_or clocks place 0) ++ rules_lines (place + 1) more clocks

unfoldable pub all_rules_lines : List ℕ → List ℕ
all_rules_lines clocks = rules_lines 0 ALL clocks

unfoldable pub causes_lines : Causes → List ℕ
causes_lines c =
    line (codes "stalled_cycles = ") (clocks_of c) (line (codes "stalled_for_cap = ") c.cap (line (codes "stalled_for_choice = ") c.choice []))
    ++ all_rules_lines c.rules
