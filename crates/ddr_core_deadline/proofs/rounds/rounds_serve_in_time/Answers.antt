-- Rounds serve each request in time.
use Rattle.ddr_core_deadline.proofs.RoundLemmas.{rounds_in_time}
use Rattle.ddr_core_deadline.proofs.rounds.rounds_serve_in_time.Goals as goal

pub returns : goal.returns
returns c = rounds_in_time
