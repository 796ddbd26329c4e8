-- Some refreshes fall due in the cycles.
use Rattle.std.proofs.Common.{ap, arith}
use Rattle.ddr_refresh.specs.Refreshes.{Refreshes}
use Rattle.ddr_refresh.proofs.PassLemmas.{pass_sound}
use Rattle.ddr_refresh.proofs.debt.Debt.pass.Goals as goal

pub invariant_of-self-2 : goal.invariant_of-self-2
invariant_of-self-2 c = rw (c.from-until_due.ensures, c.from-refi.ensures) (pass_sound c.self.inside c.args.count c.self.invariant (omega (arith, c.if-count-until_due.false)) (omega (arith, c.requires, ap (λ (r : Refreshes). r.ticks) c.self.view_is)))
