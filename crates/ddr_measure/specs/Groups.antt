-- Which requests are looked at together, and how long they took.
use Rattle.std.specs.Prelude.{ℕ, Bool, true, false, if◌then◌else◌, List, codes, fold}
use Rattle.ddr_address_map.specs.declared.request.Kind.{Kind}
use Rattle.ddr_address_map.specs.declared.request.Kind.TheVariants.{Read, Write}
use Rattle.ddr_statistics.specs.Visits.{is_conflict, is_hit, is_miss}
use Rattle.ddr_measure.specs.Distributions.{no_distribution, with_value}
use Rattle.ddr_measure.specs.Spans.{clocks_of}
use Rattle.ddr_measure.specs.declared.distribution.Distribution.{Distribution}
use Rattle.ddr_measure.specs.declared.group.Group.{Group}
use Rattle.ddr_measure.specs.declared.group.Group.TheVariants.{Reads, Writes, Hits, Misses, Conflicts}
use Rattle.ddr_measure.specs.declared.span.Span.{Span}
use Rattle.ddr_measure.specs.declared.timed.Timed.{Timed}

abbrev pub is_read : Kind → Bool
is_read Read = true
is_read Write = false

abbrev pub is_write : Kind → Bool
is_write Read = false
is_write Write = true

abbrev pub holds : Group → Timed → Bool
holds Reads request = is_read request.kind
holds Writes request = is_write request.kind
holds Hits request = is_hit request.found
holds Misses request = is_miss request.found
holds Conflicts request = is_conflict request.found

abbrev pub name_of : Group → List ℕ
name_of Reads = codes "read"
name_of Writes = codes "write"
name_of Hits = codes "hit"
name_of Misses = codes "miss"
name_of Conflicts = codes "conflict"

-- one request more, which is noted if it is one of them
abbrev pub noted : Group → Span → Distribution → Timed → Distribution
noted group span spread request = if holds group request then with_value (clocks_of span request) spread else spread

-- how long those of these requests took
abbrev pub distribution_of : Group → Span → List Timed → Distribution
distribution_of group span requests = fold (noted group span) no_distribution requests
