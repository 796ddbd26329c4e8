-- Each request of a replay is admitted in time.
use Rattle.ddr_replay_deadline.proofs.ReplayLemmas.{replay_admits, turns_admit}
use Rattle.ddr_replay_deadline.proofs.admission.replay_admits_in_time.Goals as goal

pub returns : goal.returns
returns c = record {
  turns = turns_admit;
  replayed = replay_admits;
}
