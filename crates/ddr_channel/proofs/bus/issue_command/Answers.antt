-- The rows follow the command, and agree with the trace as before.
use Rattle.std.proofs.Common.{sym, subst}
use Rattle.ddr_legality.specs.Bus.{Bus}
use Rattle.ddr_channel.specs.Kept.{AgreesWith}
use Rattle.ddr_channel.proofs.IssueLemmas.{may_follow, agrees_after}
use Rattle.ddr_channel.proofs.bus.issue_command.Goals as goal

pub follow-requires-clause-may : goal.follow-requires-clause-may
follow-requires-clause-may c =
    may_follow c.args.config.now c.args.legality.now.bus c.args.rows.now c.args.legality.now.spare c.args.command c.requires.of_config c.requires.legal c.requires.agrees c.requires.ready

pub returns-clause-agrees : goal.returns-clause-agrees
returns-clause-agrees c =
    subst (λ (b : Bus). AgreesWith c.args.config.now b.trace c.follow.new.rows) (sym c.«record».ensures.bus)
    (agrees_after c.args.config.now c.args.legality.now.bus c.args.command c.args.rows.now c.follow.new.rows c.requires.agrees c.follow.ensures.bytes.shape c.follow.ensures.opened)
