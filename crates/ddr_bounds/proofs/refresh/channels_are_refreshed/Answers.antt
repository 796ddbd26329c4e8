-- Every channel's trace is legal and refreshed.
use Rattle.ddr_channel.proofs.InTimeLemmas.{refreshed_run, refreshed_standing}
use Rattle.ddr_bounds.proofs.refresh.channels_are_refreshed.Goals as goal

pub returns : goal.returns
returns c = record { calls = refreshed_run; standing = refreshed_standing }
