-- The choice is the own step of the oldest request.
use Rattle.ddr_deadline.proofs.OldestLemmas.{served_alone, waits_for_refresh}
use Rattle.ddr_deadline.proofs.choice.capped_oldest_takes_its_step.Goals as goal

pub returns : goal.returns
returns c = record { served = served_alone; waits = waits_for_refresh }
