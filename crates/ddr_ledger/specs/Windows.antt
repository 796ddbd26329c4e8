-- How many requests of a port were outstanding: accepted, and their replies not released.
use Rattle.std.specs.Prelude.{ℕ}
use Rattle.ddr_statistics.specs.Noted.{raised}
use Rattle.ddr_ledger.specs.declared.activity.Held.{Held}
use Rattle.ddr_ledger.specs.declared.times.Times.{Times}
use Rattle.ddr_ledger.specs.Ledgers.{Ledger, times_at, window_at}

-- Summed over the rounds, behind each of which they are looked at: a request is outstanding behind as many rounds as there are clocks from its
-- acceptance to the release of its reply. And at most.
abbrev pub outstanding_of : Times → ℕ → Held
outstanding_of times most = record { sum = raised times.writes.to_release.clocks times.reads.to_release.clocks; most = most }

abbrev pub outstanding_at : Ledger → ℕ → Held
outstanding_at ledger port = outstanding_of (times_at ledger port) (window_at ledger port)
