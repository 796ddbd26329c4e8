-- A legal command breaks no rule, and the longer trace is legal.
use Rattle.std.proofs.Common.{◌≡◌, ◌+◌, true, Option, Some, None, is_none, refl, sym, ◌∙◌}
use Rattle.ddr_trace.specs.declared.rule.Rule.{Rule}
use Rattle.ddr_trace.specs.Commands.{entry}
use Rattle.ddr_legality.proofs.LegalLemmas.{IsLegal-append, keeps_from_none}
use Rattle.ddr_legality.proofs.legality.Legality.may.Goals as goal

none_is : (o : Option Rule) → is_none o ≡ true → o ≡ None
none_is None is = refl
none_is (Some r) is = cc

pub returns-then-is_legal-clause-lowest : goal.returns-then-is_legal-clause-lowest
returns-then-is_legal-clause-lowest c =
    let a = c.self.inside in
    rw (← c.self.view_is) (none_is _ (sym (c.is_legal.ensures a.past.items c.self.invariant.issued) ∙ c.if-is_legal.true))

pub returns-then-is_legal-clause-longer : goal.returns-then-is_legal-clause-longer
returns-then-is_legal-clause-longer c =
    let a = c.self.inside in
    let e = entry a.now c.args.command in
    let none = none_is _ (sym (c.is_legal.ensures a.past.items c.self.invariant.issued) ∙ c.if-is_legal.true) in
    let keeps = keeps_from_none a.issued.config a.issued.start (a.now + 1) a.past.items e none in
    rw (← c.self.view_is)
    (λ _. IsLegal-append a.issued.config a.issued.start (a.now + 1) a.past.items e c.self.invariant.legal keeps, λ _. refl)
