use Rattle.std.proofs.Common.{◌≡◌, length, rules}
use Rattle.ddr_text.proofs.CanonicalLemmas.{end_said}
use Rattle.ddr_text.proofs.canonical.take_end.Goals as goal

pub returns-clause-line : goal.returns-clause-line
returns-clause-line c =
    let none : length c.in_ok-rest.rest.now ≡ 0 = search rules in
    end_said c.args.text.now c.in_ok-end.rest.now c.in_ok-rest.rest.now c.in_ok-end.end c.in_ok-end.ensures c.in_ok-rest.ensures none
