use Rattle.ddr_text.proofs.CanonicalLemmas.{activate_said}
use Rattle.ddr_text.proofs.canonical.take_activate.Goals as goal

pub returns : goal.returns
returns c =
    activate_said c.args.text.now c.in_ok-rest.rest.now c.in_ok-bank.rest.now c.in_ok-row.rest.now c.in_ok-rest-2.rest.now c.in_ok-bank.bank c.in_ok-row.row
    c.in_ok-rest.ensures c.in_ok-bank.ensures c.in_ok-row.ensures c.in_ok-rest-2.ensures
