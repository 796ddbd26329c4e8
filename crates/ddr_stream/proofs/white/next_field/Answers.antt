use Rattle.std.proofs.Common.{◌<◌, length, sym, ◌∙◌, rules}
use Rattle.ddr_stream.proofs.FieldLemmas.{field_first, field_last}
use Rattle.ddr_stream.proofs.white.next_field.Goals as goal

pub returns-in-Some-clause-some : goal.returns-in-Some-clause-some
returns-in-Some-clause-some c =
    let some : 0 < length c.without_white-rest.result.now = search rules in
    sym c.without_white-rest.ensures.same
    ∙ field_first c.without_white-rest.result.now c.in-Some.end c.in-Some.ensures.place c.in-Some.ensures.within (rw c.in-Some.ensures.place at (c.without_white-rest.ensures.front some))

pub returns-in-None-clause-some : goal.returns-in-None-clause-some
returns-in-None-clause-some c =
    let some : 0 < length c.without_white-rest.result.now = search rules in
    sym c.without_white-rest.ensures.same ∙ field_last c.without_white-rest.result.now c.in-None.ensures.none some
