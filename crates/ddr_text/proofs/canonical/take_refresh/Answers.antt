use Rattle.ddr_text.proofs.CanonicalLemmas.{refresh_said}
use Rattle.ddr_text.proofs.canonical.take_refresh.Goals as goal

pub returns : goal.returns
returns c =
    refresh_said c.args.text.now c.in_ok-rest.rest.now c.in_ok-rank.rest.now c.in_ok-rest-2.rest.now c.in_ok-rank.rank
    c.in_ok-rest.ensures c.in_ok-rank.ensures c.in_ok-rest-2.ensures
