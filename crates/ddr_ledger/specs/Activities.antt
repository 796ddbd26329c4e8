-- What several channels did in their cycles.
use Rattle.std.specs.Prelude.{ℕ, zero, suc, List, fold}
use Rattle.ddr_statistics.specs.Noted.{raised}
use Rattle.ddr_ledger.specs.declared.activity.Activity.{Activity}
use Rattle.ddr_ledger.specs.declared.activity.Seen.{Seen}
use Rattle.ddr_ledger.specs.Ledgers.{Ledger, with_activity}

-- each of the first so many channels counts so many cycles more, from `now` on, behind each of which this was seen of it
abbrev pub all_acted : ℕ → ℕ → (ℕ → Seen) → ℕ → Ledger → Ledger
all_acted now cycles seen zero ledger = ledger
all_acted now cycles seen (suc c) ledger = with_activity c now cycles (seen c) (all_acted now cycles seen c ledger)

-- in how many cycles several channels drained writes, together
abbrev pub and_drains : ℕ → Activity → ℕ
and_drains all activity = raised activity.drains all

abbrev pub drains_together : List Activity → ℕ
drains_together activity = fold and_drains 0 activity
