use Rattle.ddr_measure.proofs.PercentileLemmas.{percentile}
use Rattle.ddr_measure.proofs.percentiles.bounds_are_percentiles.Goals as goal

pub returns : goal.returns
returns c = percentile
