use Rattle.std.proofs.Common.{length, ◌-◌, sym, ap, subst, ◌∙◌}
use Rattle.ddr_reorder.specs.Sound.{IsSound}
use Rattle.ddr_reorder.specs.State.{ReorderState}
use Rattle.ddr_reorder.proofs.Numbered.{length-numbered}
use Rattle.ddr_reorder.proofs.Wholes.{sound_whole}
use Rattle.ddr_reorder.proofs.reorder.Reorder.outstanding.Goals as goal

pub returns-clause-count : goal.returns-clause-count
returns-clause-count c =
    let a = c.self.inside in
    c.len.ensures.len ∙ sym (length-numbered (a.next - length a.slots.items) a.slots.items) ∙ ap (λ (s : ReorderState). length s.outstanding) c.self.view_is

pub returns-clause-sound : goal.returns-clause-sound
returns-clause-sound c = subst IsSound c.self.view_is (sound_whole c.self.inside c.self.invariant)
