-- The least of the numbers so far.
use Rattle.std.proofs.Common.{◌<◌, get_or, below_more, subst, ◌∙◌, arith}
use Rattle.std.proofs.lemmas.List.{get_or_default}
use Rattle.ddr_world.specs.Kept.{KeptSide, side_of}
use Rattle.ddr_world.specs.Quiet.{IsQuietSide}
use Rattle.ddr_world.proofs.QuietLemmas.{fewer_of_side}
use Rattle.ddr_world.proofs.world.still_of.Goals as goal

pub loop-side-init : goal.loop-side-init
loop-side-init c = λ k d below. absurd (omega (arith, below))

pub loop-side-preserved : goal.loop-side-preserved
loop-side-preserved c = λ k d.
    let xs = c.args.channels.now in
    let i = c.loop-side.side-index in
    let least = c.min-least.result in
    let item = c.side-item.result in
    let some : 0 < c.still.result = omega (arith, c.min-least.ensures) in
    below_more (λ n. IsQuietSide least (side_of (get_or xs n d))) i
    (λ n below. fewer_of_side least c.loop-side.least (side_of (get_or xs n d)) (omega (arith, c.min-least.ensures)) (c.loop-side.invariant n d below))
    (subst (λ (side : KeptSide). IsQuietSide least (side_of side)) (c.side-item.is ∙ get_or_default xs i item d c.loop-side-test.true)
    (fewer_of_side least c.still.result (side_of item) (omega (arith, c.min-least.ensures)) (c.still.ensures some)))
    k
