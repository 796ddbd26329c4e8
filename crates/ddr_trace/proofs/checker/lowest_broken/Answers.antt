use Rattle.std.proofs.Common.{◌≡◌, Bool, true, false, ◌&&◌, sym, ◌∙◌}
use Rattle.ddr_trace.proofs.LowestLemmas.{lowest_here, none_more, none_at_end}
use Rattle.ddr_trace.proofs.checker.lowest_broken.Goals as goal
use Rattle.ddr_trace.proofs.checker.lowest_broken.Goals.{else-is_on_commands-via-then-is_on_commands+else-breaks, else-is_on_commands-via-else-is_on_commands}

both : (a b x y : Bool) → x ≡ a → x ≡ true → y ≡ b → y ≡ true → (a && b) ≡ true
both a b x y ax x_is by y_is = rw (sym ax ∙ x_is) (sym by ∙ y_is)

first_fails : (a b x : Bool) → x ≡ a → x ≡ false → (a && b) ≡ false
first_fails a b x ax x_is = rw (sym ax ∙ x_is)

second_fails : (a b y : Bool) → y ≡ b → y ≡ false → (a && b) ≡ false
second_fails true b y by y_is = sym by ∙ y_is
second_fails false b y by y_is = λ i. false

pub returns-then-breaks : goal.returns-then-breaks
returns-then-breaks c =
    lowest_here _ c.loop-rule.rule-index c.loop-rule-test.true c.loop-rule.invariant
    (both _ _ _ _ c.is_on_commands.ensures c.if-is_on_commands.true c.breaks.ensures c.if-breaks.true)

pub loop-rule-preserved : goal.loop-rule-preserved
loop-rule-preserved c =
    none_more _ c.loop-rule.rule-index c.loop-rule-test.true c.loop-rule.invariant
    (elim c.else-is_on_commands.branch [
      | else-is_on_commands-via-then-is_on_commands+else-breaks w ↦ second_fails _ _ _ w.breaks.ensures w.if-breaks.false
      | else-is_on_commands-via-else-is_on_commands w ↦ first_fails _ _ _ c.is_on_commands.ensures w.if-is_on_commands.false
    ])

pub returns : goal.returns
returns c = none_at_end _ c.loop-rule.rule-index c.loop-rule-test.false c.loop-rule.invariant
