-- The times of a replay's requests, of all ports and of each.
use Rattle.std.specs.Prelude.{◌≡◌, ℕ, List, fold}
use Rattle.ddr_ledger.specs.declared.times.Latency.{Latency}
use Rattle.ddr_ledger.specs.declared.times.Times.{Times}
use Rattle.ddr_ledger.specs.Times.{count_of}
use Rattle.ddr_replay_counts.specs.Sums.{stopping_sum}

-- a number of each port's times, of all ports together
abbrev pub sum_over : (Times → ℕ) → List Times → ℕ
sum_over number ports = fold (λ sum times. stopping_sum sum (number times)) 0 ports

-- as many requests are timed in all as at the ports, and they took as many clocks
pub record IsSumOf (of : Times → Latency) (total : Times) (ports : List Times) : Type 0 where
  pub count : (of total).count ≡ sum_over (λ times. (of times).count) ports
  pub clocks : (of total).clocks ≡ sum_over (λ times. (of times).clocks) ports

-- The times of all requests are those of each port's: of all of them together, and of reads and of writes.
pub record TimesAgree (total : Times) (ports : List Times) : Type 0 where
  pub requests : count_of total ≡ sum_over count_of ports
  pub reads_to_issue : IsSumOf (λ times. times.reads.to_issue) total ports
  pub reads_to_release : IsSumOf (λ times. times.reads.to_release) total ports
  pub writes_to_issue : IsSumOf (λ times. times.writes.to_issue) total ports
  pub writes_to_release : IsSumOf (λ times. times.writes.to_release) total ports
