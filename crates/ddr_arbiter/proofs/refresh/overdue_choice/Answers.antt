-- One more rank: it owes too much or not, and has a command or none.
use Rattle.std.proofs.Common.{◌∙◌, sym, ap}
use Rattle.ddr_arbiter.specs.Choice.{is_overdue, is_something, refresh_choice_at}
use Rattle.ddr_arbiter.proofs.PlaceLemmas.{choice_found, no_choice_more, no_choice_out}
use Rattle.ddr_arbiter.proofs.refresh.overdue_choice.Goals as goal
use Rattle.ddr_arbiter.proofs.refresh.overdue_choice.Goals.{then-is_overdue+else-is_something, else-is_overdue}

pub returns-then-is_something : goal.returns-then-is_something
returns-then-is_something c =
    c.refresh_choice_at-choice.ensures
    ∙ choice_found (refresh_choice_at c.args.legality.now.bus) (is_overdue c.args.debts.now) c.loop-rank.rank _ c.loop-rank-test.true c.loop-rank.invariant
    (sym c.is_overdue.ensures ∙ c.if-is_overdue.true) (ap is_something (sym c.refresh_choice_at-choice.ensures) ∙ sym c.is_something.ensures ∙ c.if-is_something.true)

pub loop-rank-preserved : goal.loop-rank-preserved
loop-rank-preserved c = elim c.if-is_overdue.branch [
  | then-is_overdue+else-is_something w ↦
      no_choice_more (refresh_choice_at c.args.legality.now.bus) (is_overdue c.args.debts.now) c.loop-rank.rank c.loop-rank.invariant
      (sym c.is_overdue.ensures ∙ w.if-is_overdue.true) (ap is_something (sym w.refresh_choice_at-choice.ensures) ∙ sym w.is_something.ensures ∙ w.if-is_something.false)
  | else-is_overdue w ↦
      no_choice_out (refresh_choice_at c.args.legality.now.bus) (is_overdue c.args.debts.now) c.loop-rank.rank c.loop-rank.invariant (sym c.is_overdue.ensures ∙ w.if-is_overdue.false)
]
