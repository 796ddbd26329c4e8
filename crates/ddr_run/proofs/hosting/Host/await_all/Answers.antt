use Rattle.std.proofs.Common.{[]}
use Rattle.ddr_run.proofs.HostLemmas.{asked_next, asked_none}
use Rattle.ddr_run.proofs.hosting.Host.await_all.Goals as goal

pub loop-init : goal.loop-init
loop-init g c = asked_none c.args.self.now

pub loop-preserved : goal.loop-preserved
loop-preserved g c = asked_next c.args.self.now c.loop.self c.serve.new.self [] [] c.loop.invariant c.serve.ensures
