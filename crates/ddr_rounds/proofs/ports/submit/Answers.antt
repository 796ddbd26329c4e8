-- No trace is longer.
use Rattle.ddr_ports.specs.Asked.{asked_of}
use Rattle.ddr_rounds.proofs.TraceLemmas.{submit_heard}
use Rattle.ddr_rounds.proofs.ports.submit.Goals as goal

pub returns-clause-heard : goal.returns-clause-heard
returns-clause-heard g c = submit_heard g.W.Watcher.hears c.args.watcher.now c.tell_submit.new.watcher c.args.world.now c.step-answer.new.self c.args.port (asked_of c.args.request) c.step-answer.result c.step-answer.ensures.answer c.tell_submit.ensures
