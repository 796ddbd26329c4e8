-- Each request of a replay is served in time.
use Rattle.ddr_replay_deadline.proofs.TurnLemmas.{replay_in_time, turns_in_time}
use Rattle.ddr_replay_deadline.proofs.replay.replay_serves_in_time.Goals as goal

pub returns : goal.returns
returns c = record {
  turns = turns_in_time;
  replayed = replay_in_time;
}
