-- The steps of a request are legal from their cycles on.
use Rattle.ddr_deadline.proofs.LegalLemmas.{activate_comes, column_comes, precharge_comes}
use Rattle.ddr_deadline.proofs.legal.commands_come.Goals as goal

pub returns : goal.returns
returns c = record { precharge = precharge_comes; activate = activate_comes; column = column_comes }
