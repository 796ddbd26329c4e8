-- How long requests take, in clocks.
use Rattle.std.specs.Prelude.{ℕ, ◌+◌, ◌-◌, ◌*◌, ◌^◌, ◌==◌, nat_lt, max, min, if◌then◌else◌, replicate, slice_index, slice_set, List, [], ◌∷◌}
use Rattle.std.specs.Int.{leading_zeros, w64}
use Rattle.ddr_address_map.specs.declared.request.Kind.TheVariants.{Read, Write}
use Rattle.ddr_address_map.specs.declared.request.Kind.{Kind}
use Rattle.ddr_statistics.specs.Noted.{raised}
use Rattle.ddr_ledger.specs.declared.times.TheConstants.{BUCKETS}
use Rattle.ddr_ledger.specs.declared.times.Accepted.{Accepted}
use Rattle.ddr_ledger.specs.declared.times.Latency.{Latency}
use Rattle.ddr_ledger.specs.declared.times.Times.{Times}
use Rattle.ddr_ledger.specs.declared.times.Waits.{Waits}

abbrev pub no_latency : Latency
no_latency = record { count = 0; clocks = 0; least = 0; most = 0; histogram = replicate BUCKETS 0 }

abbrev pub no_times : Times
no_times = let none : Waits = record { to_issue = no_latency; to_release = no_latency } in record { reads = none; writes = none }

-- how many binary digits a number has, at most 32: its class in a histogram
abbrev pub bucket_of : ℕ → ℕ
bucket_of clocks = min (64 - leading_zeros w64 clocks) (BUCKETS - 1)

abbrev pub with_bucket : ℕ → List ℕ → List ℕ
with_bucket bucket histogram = slice_set histogram bucket (raised 1 (slice_index histogram bucket))

abbrev pub least_of : Latency → ℕ → ℕ
least_of latency clocks = if latency.count == 0 then clocks else min latency.least clocks

-- one request more, which took so many clocks
unfoldable pub with_time : ℕ → Latency → Latency
with_time clocks latency = record {
  count = raised 1 latency.count;
  clocks = raised clocks latency.clocks;
  least = least_of latency clocks;
  most = max latency.most clocks;
  histogram = with_bucket (bucket_of clocks) latency.histogram;
}

-- The upper end of the first class with which enough requests are counted, of the classes from this one on, before which so many
-- are.
abbrev pub bound_from : ℕ → ℕ → ℕ → List ℕ → ℕ
bound_from wanted seen bucket [] = 2 ^ bucket - 1
bound_from wanted seen bucket (count ∷ more) =
    if nat_lt (100 * (seen + count)) wanted then bound_from wanted (seen + count) (bucket + 1) more else 2 ^ bucket - 1

-- a number of clocks that so many in a hundred requests don't pass, as the histogram tells it
abbrev pub bound_of : ℕ → Latency → ℕ
bound_of percent latency = bound_from (percent * latency.count) 0 0 latency.histogram

abbrev pub with_took : ℕ → ℕ → Waits → Waits
with_took to_issue to_release waits = record {
  to_issue = with_time to_issue waits.to_issue;
  to_release = with_time to_release waits.to_release;
}

abbrev pub with_kind : Kind → ℕ → ℕ → Times → Times
with_kind Read to_issue to_release times = record times { reads = with_took to_issue to_release times.reads }
with_kind Write to_issue to_release times = record times { writes = with_took to_issue to_release times.writes }

-- how many requests were noted
abbrev pub count_of : Times → ℕ
count_of times = raised times.writes.to_release.count times.reads.to_release.count

-- one request more, which was accepted so, issued in this cycle, and whose reply is released in this round
unfoldable pub timed : Accepted → ℕ → ℕ → Times → Times
timed accepted issued round times = with_kind accepted.ask.kind (issued - accepted.round) (round - accepted.round) times
