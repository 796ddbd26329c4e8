use Rattle.std.proofs.Common.{sym, ◌∙◌}
use Rattle.ddr_trace.proofs.LowestLemmas.{lowest_here, none_more, none_at_end}
use Rattle.ddr_rank.proofs.rank.Rank.lowest.Goals as goal

pub returns-then-breaks : goal.returns-then-breaks
returns-then-breaks c =
    lowest_here _ c.loop-rule.rule-index c.loop-rule-test.true c.loop-rule.invariant (sym c.breaks.ensures ∙ c.if-breaks.true)

pub loop-rule-preserved : goal.loop-rule-preserved
loop-rule-preserved c =
    none_more _ c.loop-rule.rule-index c.loop-rule-test.true c.loop-rule.invariant (sym c.breaks.ensures ∙ c.if-breaks.false)

pub returns : goal.returns
returns c = none_at_end _ c.loop-rule.rule-index c.loop-rule-test.false c.loop-rule.invariant
