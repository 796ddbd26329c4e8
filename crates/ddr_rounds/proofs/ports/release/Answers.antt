-- No trace is longer.
use Rattle.ddr_rounds.proofs.TraceLemmas.{release_heard}
use Rattle.ddr_rounds.proofs.ports.release.Goals as goal

pub returns-clause-heard : goal.returns-clause-heard
returns-clause-heard g c = release_heard g.W.Watcher.hears c.args.watcher.now c.tell_release.new.watcher c.args.world.now c.step-answer.new.self c.args.port c.step-answer.result c.step-answer.ensures.answer c.tell_release.ensures
