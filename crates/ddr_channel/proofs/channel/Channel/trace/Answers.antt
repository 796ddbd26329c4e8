-- The trace is refreshed, whatever the calls.
use Rattle.std.proofs.Common.{◌≡◌, List, sym, ap, subst, ◌∙◌}
use Rattle.ddr_trace.specs.declared.command.Entry.{Entry}
use Rattle.ddr_trace.specs.Legality.{IsRefreshed}
use Rattle.ddr_channel.specs.Kept.{Kept}
use Rattle.ddr_channel.proofs.InTimeLemmas.{refreshed_trace}
use Rattle.ddr_channel.proofs.channel.Channel.trace.Goals as goal

pub returns-clause-refreshed : goal.returns-clause-refreshed
returns-clause-refreshed c = λ keeps calls stands.
    let k = c.args.self.now in
    let kept = ap (λ (x : Kept). x.keeps) c.self.view_is ∙ keeps in
    let entries : k.trace ≡ c.entries.result.now = ap (λ (x : Kept). x.trace) (sym c.self.view_is) ∙ sym (c.entries.ensures.value kept) in
    subst (λ (es : List Entry). IsRefreshed k.config k.start k.now es) entries (refreshed_trace k calls stands)
