-- A slot that doesn't wait for the line stays as it is.
use Rattle.std.proofs.Common.{sym, ap, ◌∙◌, refl, List}
use Rattle.std.specs.Option.{option_copied_mut}
use Rattle.circular_buffer.specs.Buffer.{buffer}
use Rattle.ddr_reorder.specs.declared.slot.Slot.{Slot}
use Rattle.ddr_reorder.proofs.Prefix.{set-slice_get}
use Rattle.ddr_reorder.proofs.slot.put_line.Goals as goal
use Rattle.ddr_reorder.proofs.slot.put_line.Goals.{in_default-via-in-Some+else-waits_for, in_default-via-in-None-1}

pub returns-in_default-clause-err : goal.returns-in_default-clause-err
returns-in_default-clause-err c =
    let slots = c.args.slots.now in (
      refl,
      elim c.in_default.branch [
        | in_default-via-in-Some+else-waits_for w ↦
            let at = sym c.get_mut.ensures.value ∙ ap option_copied_mut w.in-Some.is in
            w.slots-is ∙ ap (λ (items : List Slot). buffer items slots.capacity) (set-slice_get slots.items c.args.index w.in-Some.slot.now at)
        | in_default-via-in-None-1 w ↦ w.slots-is
      ],
    )
