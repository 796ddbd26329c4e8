use Rattle.ddr_statistics.proofs.SumLemmas.{banks_add_up, ranks_add_up}
use Rattle.ddr_statistics.proofs.sums.places_add_up.Goals as goal

pub returns-clause-ranks : goal.returns-clause-ranks
returns-clause-ranks c = ranks_add_up

pub returns-clause-banks : goal.returns-clause-banks
returns-clause-banks c = banks_add_up
