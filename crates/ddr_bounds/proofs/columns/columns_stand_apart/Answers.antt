-- Column commands of a channel stand apart.
use Rattle.ddr_bounds.proofs.ColumnLemmas.{columns_of_run}
use Rattle.ddr_bounds.proofs.columns.columns_stand_apart.Goals as goal

pub returns : goal.returns
returns c = columns_of_run
