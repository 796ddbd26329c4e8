use Rattle.std.proofs.Common.{◌<◌, length, arith, rules}
use Rattle.ddr_capture.proofs.CutLemmas.{place_is}
use Rattle.ddr_capture.proofs.cuts.first_place.Goals as goal

pub returns-then-byte-wanted-clause-place : goal.returns-then-byte-wanted-clause-place
returns-then-byte-wanted-clause-place c =
    let inside : c.loop-place.place < length c.args.text.now = search rules in
    place_is c.args.text.now c.args.wanted c.loop-place.place (omega arith) c.loop-place.invariant (λ _. c.if-byte-wanted.true)

pub returns-clause-none : goal.returns-clause-none
returns-clause-none c =
    place_is c.args.text.now c.args.wanted (length c.args.text.now) (omega arith) (λ k below. c.loop-place.invariant k (omega arith)) (λ inside. absurd (omega (arith, inside)))
