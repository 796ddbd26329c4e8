-- Every box is a spare one.
use Rattle.std.proofs.Common.{[], ◌∙◌, ap, arith, refl, sym}
use Rattle.circular_buffer.specs.Buffer.{Buffer, buffer}
use Rattle.ddr_reorder.specs.declared.slot.Slot.{Slot}
use Rattle.ddr_reorder.proofs.Wholes.{whole_opened}
use Rattle.ddr_reorder.proofs.reorder.Reorder.open.Goals as goal

pub invariant_of-result : goal.invariant_of-result
invariant_of-result c =
    let window = ap (λ (b : Buffer Slot). b.capacity) c.in_ok-slots.ensures in
    let empty = c.in_ok-slots.ensures ∙ ap (buffer []) (sym window) in
    whole_opened _ empty refl c.requires.first (omega (arith, c.loop.invariant, c.loop.auto)) (omega (arith, c.loop.invariant))
