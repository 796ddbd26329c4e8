-- The refreshes of a rank: how many fell due, how many were issued, and when one can't be put off.
use Rattle.std.specs.Prelude.{ℕ, ◌+◌, ◌-◌, ◌*◌, ◌/◌, ◌≤◌, ◌↔◌, Bool, ◌&&◌, ◌||◌, nat_lt, nat_le}
use Rattle.ddr_timing.specs.declared.timing.Timing.{Timing}
use Rattle.ddr_timing.specs.declared.units.TheConstants.{CLOCK_STOP}

pub record Refreshes : Type 0 where
  -- the clocks in which one REF falls due
  pub refi : ℕ
  -- how many REFs may be put off while requests are pending
  pub postpone : ℕ
  -- how many cycles were ticked, the first one among them
  pub ticks : ℕ
  -- how many REFs were issued
  pub issued : ℕ

-- before the first cycle
abbrev pub opened : Timing → Refreshes
opened timing = record { refi = timing.refi; postpone = timing.postpone; ticks = 0; issued = 0 }

-- how many REFs fell due in so many cycles: one per REFI (JESD79-4, average refresh interval), counted from the
-- first cycle, in which none does
abbrev pub due_by : ℕ → ℕ → ℕ
due_by ticks refi = (ticks - 1) / refi

-- the tick in which the first REF falls due that isn't due yet
abbrev pub next_due : Refreshes → ℕ
next_due r = r.refi * (due_by r.ticks r.refi + 1) + 1

-- how many REFs are due and not issued
abbrev pub debt_of : Refreshes → ℕ
debt_of r = due_by r.ticks r.refi - r.issued

-- the rank owes more REFs than may be put off, or it owes one and nothing is pending
abbrev pub is_forced : Bool → Refreshes → Bool
is_forced nothing_pending r = nat_lt r.postpone (debt_of r) || (nothing_pending && nat_le 1 (debt_of r))

abbrev pub after_tick : Refreshes → Refreshes
after_tick r = record r { ticks = r.ticks + 1 }

-- after so many cycles
abbrev pub after_ticks : ℕ → Refreshes → Refreshes
after_ticks count r = record r { ticks = r.ticks + count }

abbrev pub after_issue : Refreshes → Refreshes
after_issue r = record r { issued = r.issued + 1 }

-- what holds of every rank's refreshes
pub record IsCounted (r : Refreshes) : Type 0 where
  pub interval : 1 ≤ r.refi
  pub clock : r.ticks ≤ CLOCK_STOP
  -- only what is due is issued
  pub issued_are_due : r.issued ≤ due_by r.ticks r.refi
  -- the k-th REF is due from the tick on that stands k REFIs behind the first
  pub kth_is_due : (k : ℕ) → (k ≤ due_by r.ticks r.refi) ↔ (k * r.refi ≤ r.ticks - 1)
