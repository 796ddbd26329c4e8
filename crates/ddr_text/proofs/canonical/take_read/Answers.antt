use Rattle.ddr_text.proofs.CanonicalLemmas.{read_said}
use Rattle.ddr_text.proofs.canonical.take_read.Goals as goal

pub returns : goal.returns
returns c = read_said c.args.text.now c.in_ok-rest.rest.now c.in_ok-target.rest.now c.in_ok-target.target c.in_ok-rest.ensures c.in_ok-target.ensures
