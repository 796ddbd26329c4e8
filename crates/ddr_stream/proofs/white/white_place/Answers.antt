use Rattle.std.proofs.Common.{◌<◌, length, arith, rules, sym, ◌∙◌}
use Rattle.ddr_stream.proofs.FieldLemmas.{place_is}
use Rattle.ddr_stream.proofs.white.white_place.Goals as goal

pub returns-then-is_white-clause-place : goal.returns-then-is_white-clause-place
returns-then-is_white-clause-place c =
    let inside : c.loop-place.place < length c.args.text.now = search rules in
    place_is c.args.text.now c.loop-place.place (omega arith) c.loop-place.invariant (λ _. sym c.is_white.ensures ∙ c.if-is_white.true)

pub returns-clause-none : goal.returns-clause-none
returns-clause-none c =
    place_is c.args.text.now (length c.args.text.now) (omega arith) (λ k below. c.loop-place.invariant k (omega arith)) (λ inside. absurd (omega (arith, inside)))
