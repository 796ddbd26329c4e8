-- The times of all requests are those of each port's.
use Rattle.ddr_replay_counts.proofs.ReplayLemmas.{replay_times, turns_time}
use Rattle.ddr_replay_counts.proofs.times.replay_times_agree.Goals as goal

pub returns : goal.returns
returns c = record {
  turns = turns_time;
  replayed = replay_times;
}
