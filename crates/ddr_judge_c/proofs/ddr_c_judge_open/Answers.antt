-- What comes of opening a closed slot.
use Rattle.std.proofs.Common.{ℤ, Option, Some, None, sym, subst, w32, rules}
use Rattle.std.specs.Prelude.{IfNone}
use Rattle.std.proofs.lemmas.Int.{to_z-of_z}
use Rattle.ddr_judge_c.specs.declared.judge.Judge.{Judge}
use Rattle.ddr_judge_c.specs.Calls.{judge_in}
use Rattle.ddr_judge_c.specs.Opens.{IsOpening}
use Rattle.ddr_judge_c.proofs.ddr_c_judge_open.Goals as goal

if_none : (o : Option Judge) (P : Type 0) → P → IfNone o P
if_none None P p = p
if_none (Some judge) P p = tt

pub returns-clause-closed : goal.returns-clause-closed
returns-clause-closed c =
    if_none (judge_in c.args.slot.now) _
    (subst (λ (told : ℤ). IsOpening c.args.text.now c.args.start told (judge_in c.open.new.slot)) (sym (to_z-of_z w32 c.open.result (search rules))) c.open.ensures.opened)
