-- Each row of a replay tells of its request.
use Rattle.ddr_replay_deadline.proofs.RowsLemmas.{replay_tells, turns_tell}
use Rattle.ddr_replay_deadline.proofs.rows.replay_tells_in_time.Goals as goal

pub returns : goal.returns
returns c = record {
  turns = turns_tell;
  replayed = replay_tells;
}
