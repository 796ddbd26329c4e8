use Rattle.std.proofs.Common.{[]}
use Rattle.ddr_run.proofs.HostLemmas.{asked_next, asked_none}
use Rattle.ddr_run.proofs.hosting.Host.give_up_ready.Goals as goal

pub loop-init : goal.loop-init
loop-init c = asked_none c.args.self.now

pub returns-in_err-give_up : goal.returns-in_err-give_up
returns-in_err-give_up c = asked_next c.args.self.now c.loop.self c.give_up.new.self [] [] c.loop.invariant c.give_up.ensures

pub loop-preserved : goal.loop-preserved
loop-preserved c = asked_next c.args.self.now c.loop.self c.give_up.new.self [] [] c.loop.invariant c.give_up.ensures
