-- The trace is legal, as the channel kept it, and refreshed, whatever the calls.
use Rattle.std.proofs.Common.{◌≡◌, List, sym, ap, subst, ◌∙◌}
use Rattle.ddr_trace.specs.declared.command.Entry.{Entry}
use Rattle.ddr_trace.specs.Legality.{IsLegal, IsRefreshed}
use Rattle.ddr_channel.specs.Kept.{Kept}
use Rattle.ddr_channel.proofs.InTimeLemmas.{refreshed_trace}
use Rattle.ddr_channel.proofs.channel.Channel.into_trace.Goals as goal

pub returns-clause-legal : goal.returns-clause-legal
returns-clause-legal c = λ keeps.
    let a = c.self.inside in
    let b = a.legality.bus in
    let kept = ap (λ (x : Kept). x.keeps) c.self.view_is ∙ keeps in
    let started = subst (λ n. IsLegal a.config n b.now b.trace) (sym c.start-start.ensures) c.self.invariant.sound.legal in
    let ended = subst (λ n. IsLegal a.config c.start-start.result n b.trace) (sym c.now-end.ensures.value) started in
    let taken = subst (λ (es : List Entry). IsLegal a.config c.start-start.result c.now-end.result es) (sym (c.into_entries.ensures.value kept)) ended in
    subst (λ (k : Kept). IsLegal k.config c.start-start.result c.now-end.result c.into_entries.result.items) c.self.view_is taken

pub returns-clause-refreshed : goal.returns-clause-refreshed
returns-clause-refreshed c = λ keeps calls stands.
    let k = c.args.self in
    let kept = ap (λ (x : Kept). x.keeps) c.self.view_is ∙ keeps in
    let start : k.start ≡ c.start-start.result = ap (λ (x : Kept). x.start) (sym c.self.view_is) ∙ sym c.start-start.ensures in
    let now : k.now ≡ c.now-end.result = ap (λ (x : Kept). x.now) (sym c.self.view_is) ∙ sym c.now-end.ensures.value in
    let entries : k.trace ≡ c.into_entries.result.items = ap (λ (x : Kept). x.trace) (sym c.self.view_is) ∙ sym (c.into_entries.ensures.value kept) in
    let started = subst (λ n. IsRefreshed k.config n k.now k.trace) start (refreshed_trace k calls stands) in
    let ended = subst (λ n. IsRefreshed k.config c.start-start.result n k.trace) now started in
    subst (λ (es : List Entry). IsRefreshed k.config c.start-start.result c.now-end.result es) entries ended
