use Rattle.std.proofs.Common.{[], subst, sym}
use Rattle.ddr_workers.specs.Port.{PortState}
use Rattle.ddr_run.specs.Hosting.{HasAsked}
use Rattle.ddr_run.proofs.HostLemmas.{asked_next, asked_none}
use Rattle.ddr_run.proofs.hosting.Host.serve.Goals as goal

pub returns-then-is_raised : goal.returns-then-is_raised
returns-then-is_raised g c = asked_none c.args.self.now

pub returns-in_err-give_up_ready : goal.returns-in_err-give_up_ready
returns-in_err-give_up_ready g c =
    asked_next c.args.self.now c.self.inside.port c.give_up_ready.new.self [] [] (subst (λ (s : PortState). HasAsked c.args.self.now s []) (sym c.self.view_is) c.poll.ensures) c.give_up_ready.ensures

pub returns-in_ok-give_up_ready : goal.returns-in_ok-give_up_ready
returns-in_ok-give_up_ready g c =
    asked_next c.args.self.now c.self.inside.port c.give_up_ready.new.self [] [] (subst (λ (s : PortState). HasAsked c.args.self.now s []) (sym c.self.view_is) c.poll.ensures) c.give_up_ready.ensures
