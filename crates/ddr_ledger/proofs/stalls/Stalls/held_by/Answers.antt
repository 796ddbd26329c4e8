-- What the checker tells, which has passed the channel's commands from cycle 0 on.
use Rattle.std.proofs.Common.{◌≡◌, ◌-◌, ℕ, Option, ap, ap₂, arith, ◌∙◌}
use Rattle.ddr_legality.specs.OnePass.{config_of}
use Rattle.ddr_trace.specs.declared.rule.Rule.{Rule}
use Rattle.ddr_trace.specs.Commands.{entry}
use Rattle.ddr_trace.specs.Legality.{lowest_rule}
use Rattle.ddr_trace.specs.Rules.{breaks}
use Rattle.ddr_ledger.specs.Stalls.{Stalled, held_by}
use Rattle.ddr_ledger.proofs.stalls.Stalls.held_by.Goals as goal

pub returns : goal.returns
returns c =
    let a = c.self.inside in
    let e = c.args.entry.now in
    let told_from : ℕ → ℕ → Option Rule = λ start cycle. lowest_rule (λ r. breaks (config_of a.checker) start e.cycle r a.past.items (entry cycle e.command)) in
    let earlier : c.saturating_sub.result ≡ e.cycle - 1 = omega (arith, c.saturating_sub.ensures) in
    c.lowest.ensures.lowest a.past.items c.self.invariant.passed
    ∙ ap₂ told_from c.self.invariant.start earlier
    ∙ ap (λ (s : Stalled). held_by s.config s.past e) c.self.view_is
