use Rattle.ddr_draw.proofs.ForbidLemmas.{forbids_before}
use Rattle.ddr_draw.proofs.WaitLemmas.{allows_last}
use Rattle.ddr_draw.proofs.waits.waits_are_the_last.Goals as goal

pub returns-clause-last : goal.returns-clause-last
returns-clause-last c = allows_last

pub returns-clause-before : goal.returns-clause-before
returns-clause-before c = forbids_before
