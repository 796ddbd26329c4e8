-- A cycle that serves the oldest request alone doesn't put it off.
use Rattle.ddr_deadline.proofs.WaitLemmas.{own_step_keeps, served_ahead}
use Rattle.ddr_deadline.proofs.wait.own_steps_keep_time.Goals as goal

pub returns : goal.returns
returns c = record { ahead = served_ahead; kept = own_step_keeps }
