-- The last change, at its place.
use Rattle.std.proofs.Common.{◌≡◌, drop, Some, subst, sym, ◌∙◌}
use Rattle.std.specs.Prelude.{slice_get}
use Rattle.std.proofs.lemmas.List.{take_rest}
use Rattle.ddr_evidence.specs.Places.{IsLast, IsLastChangeAt, changes_at}
use Rattle.ddr_evidence.proofs.BackLemmas.{bank_started, last_started, some_started}
use Rattle.ddr_evidence.proofs.bank.history_from.Goals as goal

pub returns-in-Some-clause-bank : goal.returns-in-Some-clause-bank
returns-in-Some-clause-bank c =
    rw take_rest at c.walk-seen.ensures.bank ∙ bank_started c.args.command.now c.args.history.now c.args.from c.requires.starts

pub returns-in-None-clause-bank : goal.returns-in-None-clause-bank
returns-in-None-clause-bank c =
    rw take_rest at c.walk-seen.ensures.bank ∙ bank_started c.args.command.now c.args.history.now c.args.from c.requires.starts

pub returns-in-None-clause-changed : goal.returns-in-None-clause-changed
returns-in-None-clause-changed c =
    let last = rw take_rest at c.walk-seen.ensures.changed in
    some_started c.args.command.now c.args.history.now c.args.from c.requires.starts
    (subst (IsLastChangeAt c.args.command.now (drop c.args.from c.args.history.now)) c.in-None.is last)

pub returns-in-Some-clause-changed : goal.returns-in-Some-clause-changed
returns-in-Some-clause-changed c =
    let rest = rw take_rest at c.walk-seen.ensures.changed in
    let last = subst (IsLastChangeAt c.args.command.now (drop c.args.from c.args.history.now)) c.in-Some.is rest in
    let started = last_started c.args.command.now c.args.history.now c.args.from c.in-Some.place c.requires.starts last in (
      subst (λ n. slice_get c.args.history.now n ≡ Some c.placed.result.entry) (sym c.placed.ensures.place) c.placed.ensures.entry,
      subst (IsLast (changes_at c.args.command.now c.args.history.now)) (sym c.placed.ensures.place) started,
    )
