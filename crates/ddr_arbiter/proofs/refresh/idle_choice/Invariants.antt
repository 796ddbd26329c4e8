use Rattle.ddr_arbiter.specs.Choice.{is_idly_forced, refresh_choice_at}
use Rattle.ddr_arbiter.proofs.PlaceLemmas.{NoChoice}
use Rattle.ddr_arbiter.proofs.refresh.idle_choice.Given as goal

abbrev pub invariant-loop-rank : goal.invariant-loop-rank
invariant-loop-rank l = NoChoice (refresh_choice_at l.legality.bus) (is_idly_forced l.pending.waiting l.debts) l.rank
