-- As the lemma says.
use Rattle.ddr_ledger.proofs.SumLemmas.{adds_up}
use Rattle.ddr_ledger.proofs.sums.stalls_add_up.Goals as goal

pub returns : goal.returns
returns c = adds_up
