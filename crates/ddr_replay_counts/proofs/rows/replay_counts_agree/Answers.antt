-- The ports and the channels count the same reads and writes.
use Rattle.ddr_replay_counts.proofs.ReplayLemmas.{replay_agrees, turns_agree}
use Rattle.ddr_replay_counts.proofs.rows.replay_counts_agree.Goals as goal

pub returns : goal.returns
returns c = record {
  turns = turns_agree;
  replayed = replay_agrees;
}
