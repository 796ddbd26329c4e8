-- Every rank of a channel keeps its refreshes in time.
use Rattle.ddr_channel.proofs.InTimeLemmas.{refreshes_of_run}
use Rattle.ddr_bounds.proofs.refresh.refreshes_come_in_time.Goals as goal

pub returns : goal.returns
returns c = refreshes_of_run
