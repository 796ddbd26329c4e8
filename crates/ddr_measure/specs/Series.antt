-- The text of the numbers of intervals: comma-separated values.
use Rattle.std.specs.Prelude.{ℕ, zero, suc, ◌*◌, List, [], ◌∷◌, ◌++◌, codes, count_by, length}
use Rattle.std.specs.Fmt.{decimal}
use Rattle.ddr_timing.specs.declared.units.TheConstants.{LINE_BYTES}
use Rattle.ddr_measure.specs.Distributions.{bound_of}
use Rattle.ddr_measure.specs.Groups.{distribution_of, holds}
use Rattle.ddr_measure.specs.Intervals.{Interval, count_of, interval_at}
use Rattle.ddr_measure.specs.Text.{mean_at, thousandths}
use Rattle.ddr_measure.specs.declared.distribution.Distribution.{Distribution}
use Rattle.ddr_measure.specs.declared.group.Group.TheVariants.{Reads, Writes, Hits, Misses, Conflicts}
use Rattle.ddr_measure.specs.declared.span.Span.TheVariants.{AcceptedToDone}
use Rattle.ddr_measure.specs.declared.timed.Timed.{Timed}

-- how many reads and writes they are, and of how many bytes
unfoldable pub kinds_fields : List Timed → List ℕ
kinds_fields requests = decimal (count_by (holds Reads) requests) ++ (codes "," ++ (decimal (count_by (holds Writes) requests) ++ (codes "," ++ decimal (LINE_BYTES * length requests))))

-- how many of them found their row open, their bank idle, or another row open
unfoldable pub rows_fields : List Timed → List ℕ
rows_fields requests = decimal (count_by (holds Hits) requests) ++ (codes "," ++ (decimal (count_by (holds Misses) requests) ++ (codes "," ++ decimal (count_by (holds Conflicts) requests))))

-- how long reads took, on the mean and nearly all of them
unfoldable pub reads_fields : Distribution → List ℕ
reads_fields spread = thousandths (mean_at 1000 spread) ++ (codes "," ++ decimal (bound_of 990 spread))

-- its first cycle stands first
unfoldable pub interval_line : ℕ → Interval → List ℕ
interval_line cycle interval =
    decimal cycle ++ (codes "," ++ (kinds_fields interval.requests ++ (codes "," ++ (rows_fields interval.requests ++ (codes "," ++ (decimal interval.busy ++ (codes ","
    ++ (reads_fields (distribution_of Reads AcceptedToDone interval.requests) ++ 10 ∷ []))))))))

-- a line of each of the first intervals, so many of them
abbrev pub interval_lines : ℕ → List Timed → ℕ → List ℕ
interval_lines every requests zero = []
interval_lines every requests (suc at) = interval_lines every requests at ++ interval_line (every * at) (interval_at every requests at)

abbrev pub series_head : List ℕ
series_head = codes "cycle,reads,writes,bytes,hits,misses,conflicts,busy_clocks,read_mean,read_p99_at_most" ++ 10 ∷ []

-- a line that names the columns, and a line of each interval of so many cycles
unfoldable pub series_text : ℕ → List Timed → List ℕ
series_text every requests = series_head ++ interval_lines every requests (count_of every requests)
