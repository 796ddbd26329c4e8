use Rattle.ddr_workers.proofs.AllEnds.{all_ends}
use Rattle.ddr_workers.proofs.closing.all_ends_of_one_open.Goals as goal

pub returns : goal.returns
returns c = all_ends
