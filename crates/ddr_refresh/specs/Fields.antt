-- The fields of a debt, from what they stand for, so that a debt can be copied. The proof is part of no promise.
use Rattle.std.proofs.Common.{◌≡◌, ◌-◌, sym, ap, ◌∙◌}
use Rattle.std.proofs.Math.Nat.{add-sub_cancel_left}
use Rattle.ddr_refresh.specs.declared.debt.Debt.TheInside.{Inside}
use Rattle.ddr_refresh.specs.Refreshes.{Refreshes, due_by, next_due}
use Rattle.ddr_refresh.specs.View.{refreshes, IsSound}

abbrev pub fields : Refreshes → Inside
fields r = record {
  refi = r.refi;
  postpone = r.postpone;
  ticks = r.ticks;
  until_due = next_due r - r.ticks;
  due = due_by r.ticks r.refi;
  issued = r.issued;
}

pub fields-refreshes : (a : Inside) → IsSound a → fields (refreshes a) ≡ a
fields-refreshes a sound =
    let until = sym (ap (λ n. n - a.ticks) sound.until) ∙ add-sub_cancel_left a.ticks a.until_due in
    let due = sym sound.due in
    λ i. record { refi = a.refi; postpone = a.postpone; ticks = a.ticks; until_due = until i; due = due i; issued = a.issued }
