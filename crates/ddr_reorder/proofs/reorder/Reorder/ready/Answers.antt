-- As many of the oldest slots have their lines.
use Rattle.std.proofs.Common.{◌∙◌, ap, subst}
use Rattle.ddr_reorder.specs.Replies.{ready_count}
use Rattle.ddr_reorder.specs.Sound.{IsSound}
use Rattle.ddr_reorder.proofs.Ready.{ready_whole}
use Rattle.ddr_reorder.proofs.Wholes.{sound_whole}
use Rattle.ddr_reorder.proofs.reorder.Reorder.ready.Goals as goal

pub returns-clause-count : goal.returns-clause-count
returns-clause-count c = ready_whole c.self.inside c.self.invariant ∙ ap ready_count c.self.view_is

pub returns-clause-sound : goal.returns-clause-sound
returns-clause-sound c = subst IsSound c.self.view_is (sound_whole c.self.inside c.self.invariant)
