use Rattle.std.proofs.Common.{map, subst}
use Rattle.std.proofs.lemmas.Result.{IfOk-weaker}
use Rattle.ddr_workers.specs.Port.{PortState}
use Rattle.ddr_run.specs.Hosting.{HasAsked, asks_of}
use Rattle.ddr_text.specs.Script.{view}
use Rattle.ddr_run.proofs.HostLemmas.{asked_whole}
use Rattle.ddr_run.proofs.hosting.run_port.Goals as goal

pub returns-clause-asked : goal.returns-clause-asked
returns-clause-asked g c =
    let script = map view c.args.instructions.now in
    let asked = c.ask_all.new.self in
    let first = subst (λ (s : PortState). HasAsked s asked (asks_of s.core.port script)) c.new-host.ensures c.in_ok-ask_all.ensures in
    IfOk-weaker c.finish.result _ _ (λ hosted finished.
    asked_whole c.args.number c.args.port asked c.await_all.new.self hosted.end (asks_of c.args.number script) c.requires
    (subst (λ n. HasAsked c.args.port asked (asks_of n script)) c.requires.port first) c.in_ok-await_all.ensures finished) c.finish.ensures.finished
