-- One more debt.
use Rattle.std.proofs.Common.{◌≡◌, ◌≤◌, subst, arith, All}
use Rattle.std.proofs.lemmas.List.{take_all}
use Rattle.std.proofs.lemmas.List.Elements.{All-more}
use Rattle.ddr_refresh.specs.Refreshes.{Refreshes, after_ticks, debt_of}
use Rattle.ddr_arbiter.proofs.quiet.steady_until.Goals as goal

pub loop-debt-preserved : goal.loop-debt-preserved
loop-debt-preserved c = λ count before.
    let steady = λ (r : Refreshes). debt_of (after_ticks count r) ≡ debt_of r in
    let few : count ≤ c.steady.result = omega (arith, before, c.min-end.ensures, c.saturating_add-in-loop-debt.ensures, c.saturating_add.ensures) in
    All-more steady c.args.debts.now c.loop-debt.debt-index c.debt-item.result c.loop-debt-test.true
    (c.loop-debt.invariant count (omega (arith, before, c.min-end.ensures)))
    (subst steady c.debt-item.is (c.steady.ensures.steady count few))

pub returns : goal.returns
returns c = λ count before.
    subst (All (λ r. debt_of (after_ticks count r) ≡ debt_of r)) (take_all c.loop-debt.debt-index c.args.debts.now c.loop-debt-test.false) (c.loop-debt.invariant count before)
