use Rattle.std.proofs.Common.{[], ◌∷◌, if◌then◌else◌, subst}
use Rattle.ddr_ports.specs.Asked.{asked_of}
use Rattle.ddr_run.specs.Hosting.{HasAsked}
use Rattle.ddr_run.proofs.HostLemmas.{asked_next, asked_none}
use Rattle.ddr_run.proofs.hosting.Host.ask.Goals as goal

pub loop-init : goal.loop-init
loop-init g c = asked_none c.args.self.now

pub returns-then-branch : goal.returns-then-branch
returns-then-branch g c =
    asked_next c.args.self.now c.loop.self c.try_ask.new.self [] (asked_of c.args.request ∷ []) c.loop.invariant
    (subst (λ taken. HasAsked c.loop.self c.try_ask.new.self (if taken then asked_of c.args.request ∷ [] else [])) c.if-branch.true c.in_ok-try_ask.ensures)

pub loop-preserved : goal.loop-preserved
loop-preserved g c =
    asked_next c.args.self.now c.try_ask.new.self c.serve.new.self [] []
    (asked_next c.args.self.now c.loop.self c.try_ask.new.self [] [] c.loop.invariant
    (subst (λ taken. HasAsked c.loop.self c.try_ask.new.self (if taken then asked_of c.args.request ∷ [] else [])) c.if-branch.false c.in_ok-try_ask.ensures)) c.serve.ensures
