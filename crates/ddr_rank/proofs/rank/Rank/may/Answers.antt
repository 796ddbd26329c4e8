-- In the last cycle the walk over the rules tells.
use Rattle.std.proofs.Common.{◌≡◌, Bool, true, false, not, Option, Some, None, is_none, refl, ap, ◌∙◌}
use Rattle.std.specs.Option.{is_some}
use Rattle.ddr_trace.proofs.LowestLemmas.{lowest_rule-alike}
use Rattle.ddr_trace.specs.declared.rule.Rule.{Rule}
use Rattle.ddr_rank.proofs.RuleLemmas.{law}
use Rattle.ddr_rank.proofs.rank.Rank.may.Goals as goal

none_is : (o : Option Rule) (b : Bool) → is_some o ≡ not b → b ≡ is_none o
none_is None true is = refl
none_is None false is = cc
none_is (Some r) true is = cc
none_is (Some r) false is = refl

pub returns-then-cycle-eq18446744073709551615 : goal.returns-then-cycle-eq18446744073709551615
returns-then-cycle-eq18446744073709551615 c = λ history stands after.
    none_is _ _ c.is_none.ensures
    ∙ ap (λ (o : Option Rule). is_none o) (c.lowest.ensures ∙ lowest_rule-alike _ _ (law c.args.self.now history c.args.cycle c.args.command stands c.requires))
