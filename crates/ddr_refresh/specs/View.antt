-- What the fields of a debt stand for.
use Rattle.std.specs.Prelude.{◌≡◌, ℕ, ◌+◌, ◌*◌, ◌≤◌}
use Rattle.ddr_timing.specs.declared.units.TheConstants.{CLOCK_STOP}
use Rattle.ddr_refresh.specs.declared.debt.Debt.TheInside.{Inside}
use Rattle.ddr_refresh.specs.Refreshes.{Refreshes, due_by, next_due}

abbrev pub refreshes : Inside → Refreshes
refreshes a = record { refi = a.refi; postpone = a.postpone; ticks = a.ticks; issued = a.issued }

pub record IsSound (a : Inside) : Type 0 where
  pub interval : 1 ≤ a.refi
  pub clock : a.ticks ≤ CLOCK_STOP
  pub due : a.due ≡ due_by a.ticks a.refi
  pub until : a.ticks + a.until_due ≡ next_due (refreshes a)
  pub running : 1 ≤ a.until_due
  pub issued_are_due : a.issued ≤ a.due
