use Rattle.ddr_measure.proofs.SumLemmas.{adds_up}
use Rattle.ddr_measure.proofs.sums.classes_add_up.Goals as goal

pub returns : goal.returns
returns c = adds_up
