-- Each rank keeps its refreshes in time, whatever the calls.
use Rattle.std.proofs.Common.{[], ◌∷◌, ◌++◌}
use Rattle.ddr_channel.specs.History.{Cycle}
use Rattle.ddr_channel.proofs.InTimeLemmas.{refreshes_standing}
use Rattle.ddr_channel.proofs.channel.Channel.cycle.Goals as goal

pub returns-clause-refreshes : goal.returns-clause-refreshes
returns-clause-refreshes c = λ calls stands. refreshes_standing c.cycle_observed.new.self (calls ++ Cycle ∷ []) (c.in_ok-cycle_observed.ensures.stands calls stands)
