use Rattle.std.proofs.Common.{subst, ap, ◌∙◌}
use Rattle.std.specs.Option.{option_to_list}
use Rattle.ddr_workers.specs.Port.{PortState}
use Rattle.ddr_run.specs.Hosting.{HasAsked, asked_at}
use Rattle.ddr_text.specs.Script.{view}
use Rattle.ddr_run.proofs.HostLemmas.{asked_none}
use Rattle.ddr_run.proofs.hosting.Host.follow.Goals as goal

pub returns-in-None : goal.returns-in-None
returns-in-None g c =
    let s = c.args.self.now in
    let number = c.self.invariant.number ∙ ap (λ (p : PortState). p.core.port) c.self.view_is in
    subst (λ asked. HasAsked s s (option_to_list asked)) (c.in-None.ensures ∙ ap (λ p. asked_at p (view c.args.instruction.now)) number) (asked_none s)
