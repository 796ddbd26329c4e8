use Rattle.ddr_workers.proofs.OneOpen.{one_open}
use Rattle.ddr_workers.proofs.closing.ends_of_one_open.Goals as goal

pub returns : goal.returns
returns c = one_open
