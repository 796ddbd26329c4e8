-- Refreshes are of forced ranks.
use Rattle.ddr_deadline.proofs.ForcedLemmas.{forced_chosen, overdue_chosen}
use Rattle.ddr_deadline.proofs.choice.refreshes_are_forced.Goals as goal

pub returns : goal.returns
returns c = record { forced = forced_chosen; overdue = overdue_chosen }
