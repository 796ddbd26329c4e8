use Rattle.std.proofs.Common.{◌≡◌, ℕ, ◌<◌, length, get_or, arith, refl}
use Rattle.std.proofs.lemmas.List.{length-set}
use Rattle.std.proofs.lemmas.List.Edits.{fill_by_more}
use Rattle.ddr_hazards.proofs.slots.ascending.Goals as goal

pub loop-slot-preserved : goal.loop-slot-preserved
loop-slot-preserved c =
    let i = c.loop-slot.slot in
    let inside : i < length c.loop-slot.slots = omega arith in
    (omega (arith, length-set c.loop-slot.slots i i), fill_by_more (λ k. k) c.loop-slot.slots i 0 inside c.loop-slot.invariant.1)
