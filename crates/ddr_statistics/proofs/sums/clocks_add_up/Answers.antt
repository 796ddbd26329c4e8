use Rattle.ddr_statistics.proofs.BackgroundLemmas as lemmas
use Rattle.ddr_statistics.proofs.sums.clocks_add_up.Goals as goal

pub returns : goal.returns
returns c = lemmas.clocks_add_up
