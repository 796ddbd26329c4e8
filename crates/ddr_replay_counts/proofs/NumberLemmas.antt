-- One of the numbers of times, as a request is timed.
use Rattle.std.proofs.Common.{◌≡◌, ℕ, Bool, true, false, cond, refl, arith}
use Rattle.ddr_address_map.specs.declared.request.Kind.{Kind}
use Rattle.ddr_address_map.specs.declared.request.Kind.TheVariants.{Read, Write}
use Rattle.ddr_statistics.specs.Noted.{raised}
use Rattle.ddr_ledger.specs.declared.times.Latency.{Latency}
use Rattle.ddr_ledger.specs.declared.times.Times.{Times}
use Rattle.ddr_ledger.specs.Times.{count_of, no_latency, no_times, with_kind, with_time}

-- each request of a kind adds to it, by its clocks from its acceptance to its command, and to the release of its reply
pub record IsTime (number : Times → ℕ) (of : Kind → Bool) (by : ℕ → ℕ → ℕ) : Type 0 where
  pub none_yet : number no_times ≡ 0
  pub timed : (kind : Kind) (to_issue to_release : ℕ) (times : Times)
      → number (with_kind kind to_issue to_release times) ≡ cond (of kind) (raised (by to_issue to_release) (number times)) (number times)

-- and one of those of a latency
pub record IsLatency (number : Latency → ℕ) (by : ℕ → ℕ) : Type 0 where
  pub none_yet : number no_latency ≡ 0
  pub timed : (clocks : ℕ) (latency : Latency) → number (with_time clocks latency) ≡ raised (by clocks) (number latency)

pub are_counted : IsLatency (λ latency. latency.count) (λ clocks. 1)
unfolding with_time
are_counted = record { none_yet = refl; timed = λ clocks latency. refl }

pub take_clocks : IsLatency (λ latency. latency.clocks) (λ clocks. clocks)
unfolding with_time
take_clocks = record { none_yet = refl; timed = λ clocks latency. refl }

abbrev of_reads : Kind → Bool
of_reads Read = true
of_reads Write = false

abbrev of_writes : Kind → Bool
of_writes Read = false
of_writes Write = true

module _ (number : Latency → ℕ) (by : ℕ → ℕ) (is : IsLatency number by) where
  reads_to_issue_timed : (kind : Kind) (to_issue to_release : ℕ) (times : Times)
      → number (with_kind kind to_issue to_release times).reads.to_issue
      ≡ cond (of_reads kind) (raised (by to_issue) (number times.reads.to_issue)) (number times.reads.to_issue)
  reads_to_issue_timed Read to_issue to_release times = is.timed to_issue times.reads.to_issue
  reads_to_issue_timed Write to_issue to_release times = refl

  reads_to_release_timed : (kind : Kind) (to_issue to_release : ℕ) (times : Times)
      → number (with_kind kind to_issue to_release times).reads.to_release
      ≡ cond (of_reads kind) (raised (by to_release) (number times.reads.to_release)) (number times.reads.to_release)
  reads_to_release_timed Read to_issue to_release times = is.timed to_release times.reads.to_release
  reads_to_release_timed Write to_issue to_release times = refl

  writes_to_issue_timed : (kind : Kind) (to_issue to_release : ℕ) (times : Times)
      → number (with_kind kind to_issue to_release times).writes.to_issue
      ≡ cond (of_writes kind) (raised (by to_issue) (number times.writes.to_issue)) (number times.writes.to_issue)
  writes_to_issue_timed Read to_issue to_release times = refl
  writes_to_issue_timed Write to_issue to_release times = is.timed to_issue times.writes.to_issue

  writes_to_release_timed : (kind : Kind) (to_issue to_release : ℕ) (times : Times)
      → number (with_kind kind to_issue to_release times).writes.to_release
      ≡ cond (of_writes kind) (raised (by to_release) (number times.writes.to_release)) (number times.writes.to_release)
  writes_to_release_timed Read to_issue to_release times = refl
  writes_to_release_timed Write to_issue to_release times = is.timed to_release times.writes.to_release

  pub reads_to_issue : IsTime (λ times. number times.reads.to_issue) of_reads (λ to_issue to_release. by to_issue)
  reads_to_issue = record { none_yet = is.none_yet; timed = reads_to_issue_timed }

  pub reads_to_release : IsTime (λ times. number times.reads.to_release) of_reads (λ to_issue to_release. by to_release)
  reads_to_release = record { none_yet = is.none_yet; timed = reads_to_release_timed }

  pub writes_to_issue : IsTime (λ times. number times.writes.to_issue) of_writes (λ to_issue to_release. by to_issue)
  writes_to_issue = record { none_yet = is.none_yet; timed = writes_to_issue_timed }

  pub writes_to_release : IsTime (λ times. number times.writes.to_release) of_writes (λ to_issue to_release. by to_release)
  writes_to_release = record { none_yet = is.none_yet; timed = writes_to_release_timed }

-- all requests, of both kinds

one_read : (reads writes : ℕ) → raised writes (raised 1 reads) ≡ raised 1 (raised writes reads)
one_read reads writes = omega arith

one_write : (reads writes : ℕ) → raised (raised 1 writes) reads ≡ raised 1 (raised writes reads)
one_write reads writes = omega arith

count_timed : (kind : Kind) (to_issue to_release : ℕ) (times : Times)
    → count_of (with_kind kind to_issue to_release times) ≡ raised 1 (count_of times)
unfolding with_time
count_timed Read to_issue to_release times = one_read times.reads.to_release.count times.writes.to_release.count
count_timed Write to_issue to_release times = one_write times.reads.to_release.count times.writes.to_release.count

pub requests_counted : IsTime count_of (λ kind. true) (λ to_issue to_release. 1)
requests_counted = record { none_yet = refl; timed = count_timed }
