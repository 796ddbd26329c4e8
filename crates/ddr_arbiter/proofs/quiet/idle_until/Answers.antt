-- The first cycle of an ACT, asked for the bank's first row.
use Rattle.std.proofs.Common.{subst, arith}
use Rattle.ddr_trace.specs.declared.command.Command.{Command}
use Rattle.ddr_arbiter.proofs.StuckLemmas.{IsAllowedFrom, idle_stuck}
use Rattle.ddr_arbiter.proofs.quiet.idle_until.Goals as goal

pub returns : goal.returns
returns c = λ served waiting room.
    idle_stuck c.args.legality.now.bus served waiting room c.args.at c.allowed_at.result c.requires (omega (arith, c.allowed_at.type_inv))
    (subst (λ (command : Command). IsAllowedFrom c.args.legality.now.bus command c.allowed_at.result) c.activate_at.ensures c.allowed_at.ensures.legal)
