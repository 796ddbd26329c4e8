use Rattle.ddr_draw.proofs.RowLemmas.{closes, stays_open}
use Rattle.ddr_draw.proofs.rows.rows_are_those_of_the_rules.Goals as goal

pub returns-clause-stays : goal.returns-clause-stays
returns-clause-stays c = stays_open

pub returns-clause-closes : goal.returns-clause-closes
returns-clause-closes c = closes
