-- Each request is served in time.
use Rattle.ddr_deadline.proofs.MovesLemmas.{one_rank_leaves}
use Rattle.ddr_deadline.proofs.OnWayLemmas.{in_time_run}
use Rattle.ddr_deadline.proofs.deadline.requests_are_served_in_time.Goals as goal

pub returns : goal.returns
returns c = record {
  served = λ config start calls may takes leaves. in_time_run config start calls leaves may takes;
  one_rank = λ config start calls may takes leaves one. in_time_run config start calls (one_rank_leaves config leaves one) may takes;
}
