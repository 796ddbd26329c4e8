-- And they add up.
use Rattle.ddr_replay_counts.proofs.ReplayLemmas.{replay_adds_up, turns_add_up}
use Rattle.ddr_replay_counts.proofs.rows.replay_counts_add_up.Goals as goal

pub returns : goal.returns
returns c = record {
  turns = turns_add_up;
  replayed = replay_adds_up;
}
