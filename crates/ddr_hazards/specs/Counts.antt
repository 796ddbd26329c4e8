-- A number for each kind of request.
use Rattle.std.specs.Prelude.{ℕ, if◌then◌else◌}
use Rattle.ddr_address_map.specs.declared.request.Kind.{Kind}
use Rattle.ddr_address_map.specs.declared.request.Kind.TheVariants.{Read, Write}
use Rattle.ddr_hazards.specs.declared.counts.KindCounts.{KindCounts}
use Rattle.ddr_hazards.specs.PendingList.{is_same_kind}

abbrev pub count_of : KindCounts → Kind → ℕ
count_of counts Read = counts.reads
count_of counts Write = counts.writes

-- what a request of the one kind adds to the count of the other: 1 where they are the same
abbrev pub one_of : Kind → Kind → ℕ
one_of kind other = if is_same_kind kind other then 1 else 0
