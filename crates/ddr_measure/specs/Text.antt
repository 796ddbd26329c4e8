-- The text of the numbers of some requests: a TOML document.
use Rattle.std.specs.Prelude.{ℕ, ◌+◌, ◌*◌, ◌/◌, ◌%◌, ◌==◌, if◌then◌else◌, List, [], ◌∷◌, ◌++◌, codes, flat_map, Option, Some, None}
use Rattle.std.specs.Fmt.{decimal}
use Rattle.ddr_statistics.specs.Text.{line}
use Rattle.ddr_measure.specs.Distributions.{bound_of, first_of, last_of}
use Rattle.ddr_measure.specs.Groups as groups
use Rattle.ddr_measure.specs.Spans as spans
use Rattle.ddr_measure.specs.Usages.{elapsed, peak_of, quotient, share_of, speed_of, usage_of}
use Rattle.ddr_measure.specs.declared.distribution.Distribution.{Distribution}
use Rattle.ddr_measure.specs.declared.group.Group.{Group}
use Rattle.ddr_measure.specs.declared.group.Group.TheVariants.{Reads, Writes, Hits, Misses, Conflicts}
use Rattle.ddr_measure.specs.declared.span.Span.{Span}
use Rattle.ddr_measure.specs.declared.span.Span.TheVariants.{ArrivedToAccepted, AcceptedToIssued, IssuedToDone, AcceptedToDone, DoneToReleased, ArrivedToReleased}
use Rattle.ddr_measure.specs.declared.timed.Timed.{Timed}
use Rattle.ddr_measure.specs.declared.usage.Usage.{Usage}

-- a number of thousandths, with three digits behind the point
unfoldable pub thousandths : ℕ → List ℕ
thousandths number = decimal (number / 1000) ++ (codes "." ++ (decimal (number / 100 % 10) ++ (decimal (number / 10 % 10) ++ decimal (number % 10))))

unfoldable pub usage_lines : Usage → List ℕ
usage_lines usage = line (codes "requests = ") usage.requests (line (codes "clocks = ") (elapsed usage) [])

unfoldable pub share_lines : ℕ → Usage → List ℕ
share_lines channels usage = codes "bus_share = " ++ (thousandths (share_of channels usage) ++ 10 ∷ [])

abbrev pub speed_lines : ℕ → Option ℕ → Usage → List ℕ
speed_lines channels (Some clock) usage =
    line (codes "bytes_per_second = ") (speed_of clock usage) (line (codes "peak_bytes_per_second = ") (peak_of channels clock) [])
speed_lines channels None usage = []

unfoldable pub counts_lines : Distribution → List ℕ
counts_lines spread =
    line (codes "count = ") spread.count
    (line (codes "clocks = ") spread.sum
    (line (codes "least = ") spread.least
    (line (codes "most = ") spread.most [])))

-- the mean, of which each clock counts for so many
abbrev pub mean_at : ℕ → Distribution → ℕ
mean_at scale spread = quotient (scale * spread.sum) spread.count

-- a clock of so many picoseconds is a thousandth of as many nanoseconds
unfoldable pub nanoseconds_line : Option ℕ → Distribution → List ℕ
nanoseconds_line (Some clock) spread = codes "mean_nanoseconds = " ++ (thousandths (mean_at clock spread) ++ 10 ∷ [])
nanoseconds_line None spread = []

unfoldable pub mean_lines : Option ℕ → Distribution → List ℕ
mean_lines clock spread = (codes "mean = " ++ (thousandths (mean_at 1000 spread) ++ 10 ∷ [])) ++ nanoseconds_line clock spread

-- bounds that so many in a thousand don't pass
unfoldable pub bounds_lines : Distribution → List ℕ
bounds_lines spread =
    line (codes "p50_at_most = ") (bound_of 500 spread)
    (line (codes "p90_at_most = ") (bound_of 900 spread)
    (line (codes "p99_at_most = ") (bound_of 990 spread)
    (line (codes "p999_at_most = ") (bound_of 999 spread) [])))

-- of a class that has some: its least and its greatest number, and how many it has
unfoldable pub class_line : ℕ → ℕ → List ℕ
class_line class count =
    if count == 0 then []
    else codes "  [" ++ (decimal (first_of class) ++ (codes ", " ++ (decimal (last_of class) ++ (codes ", " ++ (decimal count ++ (codes "]," ++ 10 ∷ []))))))

-- those of the classes from this one on
abbrev pub class_lines : ℕ → List ℕ → List ℕ
class_lines class [] = []
class_lines class (count ∷ more) = class_line class count ++ class_lines (class + 1) more

unfoldable pub classes_text : List ℕ → List ℕ
classes_text classes = (codes "histogram = [" ++ 10 ∷ []) ++ class_lines 0 classes ++ (codes "]" ++ 10 ∷ [])

-- the table of a group and a span
unfoldable pub span_table : Option ℕ → Group → Span → Distribution → List ℕ
span_table clock group span spread =
    10 ∷ (codes "[" ++ (groups.name_of group ++ (codes "." ++ (spans.name_of span ++ (codes "]" ++ 10 ∷ [])))))
    ++ counts_lines spread ++ mean_lines clock spread ++ bounds_lines spread ++ classes_text spread.classes

abbrev pub all_spans : List Span
all_spans = ArrivedToAccepted ∷ AcceptedToIssued ∷ IssuedToDone ∷ AcceptedToDone ∷ DoneToReleased ∷ ArrivedToReleased ∷ []

abbrev pub all_groups : List Group
all_groups = Reads ∷ Writes ∷ Hits ∷ Misses ∷ Conflicts ∷ []

-- those of a group, of these spans, and of these groups
abbrev pub group_tables : Option ℕ → Group → List Span → List Timed → List ℕ
group_tables clock group spans requests = flat_map (λ span. span_table clock group span (groups.distribution_of group span requests)) spans

abbrev pub groups_tables : Option ℕ → List Group → List Timed → List ℕ
groups_tables clock groups requests = flat_map (λ group. group_tables clock group all_spans requests) groups

-- all of it, of a memory of so many channels, whose clock has so many picoseconds, if that is known
unfoldable pub measured_text : ℕ → Option ℕ → List Timed → List ℕ
measured_text channels clock requests =
    let usage = usage_of requests in
    usage_lines usage ++ share_lines channels usage ++ speed_lines channels clock usage ++ groups_tables clock all_groups requests
