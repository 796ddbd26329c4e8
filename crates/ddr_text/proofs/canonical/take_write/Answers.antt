use Rattle.ddr_text.proofs.CanonicalLemmas.{write_said}
use Rattle.ddr_text.proofs.canonical.take_write.Goals as goal

pub returns : goal.returns
returns c = write_said c.args.text.now c.in_ok-rest.rest.now c.in_ok-target.rest.now c.in_ok-target.target c.in_ok-rest.ensures c.in_ok-target.ensures
