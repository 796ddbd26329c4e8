-- Each accepted request of a channel has few overtakers.
use Rattle.ddr_bounds.proofs.OvertakerLemmas.{overtakers_of_run}
use Rattle.ddr_bounds.proofs.overtakers.overtakers_are_few.Goals as goal

pub returns : goal.returns
returns c = overtakers_of_run
