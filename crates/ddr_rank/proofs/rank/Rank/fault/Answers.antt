-- The quick answer first, and else the walk over the rules.
use Rattle.std.proofs.Common.{◌≡◌, true, Option, Some, None, is_none, sym, ◌∙◌}
use Rattle.ddr_trace.proofs.LowestLemmas.{lowest_rule-alike}
use Rattle.ddr_trace.specs.declared.rule.Rule.{Rule}
use Rattle.ddr_rank.proofs.RuleLemmas.{law}
use Rattle.ddr_rank.proofs.rank.Rank.fault.Goals as goal

there_is_none : (o : Option Rule) → is_none o ≡ true → None ≡ o
there_is_none None is = cc
there_is_none (Some r) is = cc

pub returns-then-may : goal.returns-then-may
returns-then-may c = λ history stands after.
    there_is_none _ (sym (c.may.ensures history stands after) ∙ c.if-may.true)

pub returns : goal.returns
returns c = λ history stands after.
    c.lowest.ensures ∙ lowest_rule-alike _ _ (law c.args.self.now history c.args.cycle c.args.command stands c.requires)
