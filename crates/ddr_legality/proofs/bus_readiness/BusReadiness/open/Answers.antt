-- Nothing was issued to either rank.
use Rattle.std.proofs.Common.{refl}
use Rattle.ddr_legality.proofs.ColumnLemmas.{no_columns}
use Rattle.ddr_legality.proofs.bus_readiness.BusReadiness.open.Goals as goal

pub returns-clause-issued : goal.returns-clause-issued
returns-clause-issued c = record {
  last = λ cycle. refl;
  first = c.in_ok-open.ensures.stands 0;
  second = c.in_ok-open-2.ensures.stands 1;
  first_columns = no_columns 0;
  second_columns = no_columns 1;
  free = refl;
  first_switch = refl;
  second_switch = refl;
}
