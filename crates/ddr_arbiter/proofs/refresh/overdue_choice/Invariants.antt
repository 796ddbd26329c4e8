use Rattle.ddr_arbiter.specs.Choice.{is_overdue, refresh_choice_at}
use Rattle.ddr_arbiter.proofs.PlaceLemmas.{NoChoice}
use Rattle.ddr_arbiter.proofs.refresh.overdue_choice.Given as goal

abbrev pub invariant-loop-rank : goal.invariant-loop-rank
invariant-loop-rank l = NoChoice (refresh_choice_at l.legality.bus) (is_overdue l.debts) l.rank
