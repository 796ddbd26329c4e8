-- Each request of each channel is served in time.
use Rattle.ddr_deadline.proofs.MovesLemmas.{one_rank_leaves}
use Rattle.ddr_core_deadline.proofs.EventLemmas.{core_in_time}
use Rattle.ddr_core_deadline.proofs.channels.core_serves_in_time.Goals as goal

pub returns : goal.returns
returns c = record {
  served = core_in_time;
  one_rank = λ opening events takes leaves one. core_in_time opening events takes (one_rank_leaves opening.config leaves one);
}
