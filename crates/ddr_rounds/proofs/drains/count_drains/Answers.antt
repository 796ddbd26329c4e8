-- One channel more was counted, or has nothing to count.
use Rattle.std.proofs.Common.{◌+◌, Bool, if◌then◌else◌, sym, ap, subst, ◌∙◌}
use Rattle.ddr_world.specs.Kept.{state_of}
use Rattle.ddr_rounds.specs.Drains.{counted_in}
use Rattle.ddr_rounds.proofs.DrainLemmas.{AreRaisedBelow, none_below, not_raised_here, raised_here}
use Rattle.ddr_rounds.proofs.drains.count_drains.Goals as goal
use Rattle.ddr_rounds.proofs.drains.count_drains.Goals.{then-is_draining, else-is_draining}

pub loop-channel-init : goal.loop-channel-init
loop-channel-init c = none_below (counted_in c.args.cycles (state_of c.args.world.now)) c.args.drains.now

pub loop-channel-preserved : goal.loop-channel-preserved
loop-channel-preserved c =
    let s = state_of c.args.world.now in
    let n = c.loop-channel.channel in
    let more = counted_in c.args.cycles s in
    elim c.if-is_draining.branch [
      | then-is_draining w ↦ raised_here n c.args.cycles more c.args.drains.now c.loop-channel.drains c.if-is_draining.drains c.loop-channel.invariant
          (ap (λ (b : Bool). if b then c.args.cycles else 0) (sym w.if-is_draining.true ∙ c.is_draining.ensures)) (w.drains-is ∙ w.raise.ensures)
      | else-is_draining w ↦ subst (AreRaisedBelow (n + 1) more c.args.drains.now) (sym w.drains-is)
          (not_raised_here n more c.args.drains.now c.loop-channel.drains c.loop-channel.invariant (ap (λ (b : Bool). if b then c.args.cycles else 0) (sym c.is_draining.ensures ∙ w.if-is_draining.false)))
    ]
