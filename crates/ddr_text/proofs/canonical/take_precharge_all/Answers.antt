use Rattle.ddr_text.proofs.CanonicalLemmas.{precharge_all_said}
use Rattle.ddr_text.proofs.canonical.take_precharge_all.Goals as goal

pub returns : goal.returns
returns c =
    precharge_all_said c.args.text.now c.in_ok-rest.rest.now c.in_ok-rank.rest.now c.in_ok-rest-2.rest.now c.in_ok-rank.rank
    c.in_ok-rest.ensures c.in_ok-rank.ensures c.in_ok-rest-2.ensures
