-- For how many rounds ports waited, by what they waited for.
use Rattle.std.specs.Prelude.{ℕ, zero, suc, List, fold}
use Rattle.ddr_statistics.specs.Noted.{raised}
use Rattle.ddr_world.specs.declared.event.Refusal.{Refusal}
use Rattle.ddr_world.specs.declared.event.Refusal.TheVariants.{WindowFull, Busy}
use Rattle.ddr_ledger.specs.declared.waited.Waited.{Waited}

abbrev pub no_wait : Waited
no_wait = record { window = 0; queue = 0 }

-- so many rounds more, in which the port's window was full
abbrev pub window_waited : ℕ → Waited → Waited
window_waited zero waited = waited
window_waited (suc more) waited = record waited { window = raised (suc more) waited.window }

-- one round more, in which the port's request was refused so
abbrev pub waited_for : Refusal → Waited → Waited
waited_for WindowFull waited = window_waited 1 waited
waited_for (Busy channel) waited = record waited { queue = raised 1 waited.queue }
waited_for _ waited = waited

-- two ports together, and several
abbrev pub both_waited : Waited → Waited → Waited
both_waited a b = record { window = raised b.window a.window; queue = raised b.queue a.queue }

abbrev pub all_waited : List Waited → Waited
all_waited waited = fold both_waited no_wait waited
