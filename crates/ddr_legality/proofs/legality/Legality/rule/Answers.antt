-- A command is legal exactly where the longer trace is.
use Rattle.std.proofs.Common.{◌+◌, refl, sym, ◌∙◌}
use Rattle.std.proofs.lemmas.Bool.{false≢true}
use Rattle.ddr_trace.specs.Commands.{entry}
use Rattle.ddr_legality.proofs.LegalLemmas.{IsLegal-append, keeps_from_none, none_from_longer}
use Rattle.ddr_legality.proofs.legality.Legality.rule.Goals as goal

pub returns-in-None-clause-longer : goal.returns-in-None-clause-longer
returns-in-None-clause-longer c =
    let a = c.self.inside in
    let e = entry a.now c.args.command in
    let told = c.broken_by.ensures.lowest a.past.items c.self.invariant.issued in
    let keeps = keeps_from_none a.issued.config a.issued.start (a.now + 1) a.past.items e (sym told ∙ c.in-None.is) in
    rw (← c.self.view_is)
    (λ _. IsLegal-append a.issued.config a.issued.start (a.now + 1) a.past.items e c.self.invariant.legal keeps, λ _. refl)

pub returns-in-Some-clause-longer : goal.returns-in-Some-clause-longer
returns-in-Some-clause-longer c =
    let a = c.self.inside in
    let e = entry a.now c.args.command in
    let told = c.broken_by.ensures.lowest a.past.items c.self.invariant.issued in
    rw (← c.self.view_is)
    (λ no. absurd (false≢true no), λ legal. absurd (none_from_longer a.issued.config a.issued.start (a.now + 1) a.past.items e c.in-Some.rule legal (sym told ∙ c.in-Some.is)))
