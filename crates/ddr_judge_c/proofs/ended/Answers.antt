-- The trace ends late, or in time.
use Rattle.std.proofs.Common.{◌≡◌, Bool, cond, pos, refl, sym, subst, ◌∙◌}
use Rattle.ddr_judge_c.proofs.ended.Goals as goal

pub returns-then-ends_late : goal.returns-then-ends_late
returns-then-ends_late c = λ config start history counted.
    subst (λ (late : Bool). pos 19 ≡ cond late (pos 19) (pos 0)) (sym c.if-ends_late.true ∙ c.ends_late.ensures config start history counted) refl

pub returns-else-ends_late : goal.returns-else-ends_late
returns-else-ends_late c = λ config start history counted.
    subst (λ (late : Bool). pos 0 ≡ cond late (pos 19) (pos 0)) (sym c.if-ends_late.false ∙ c.ends_late.ensures config start history counted) refl
