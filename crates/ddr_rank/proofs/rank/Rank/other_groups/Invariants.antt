use Rattle.std.proofs.Common.{◌≡◌, ◌==◌, if◌then◌else◌, None}
use Rattle.ddr_rank.specs.Latest.{latest_among}
use Rattle.ddr_rank.specs.Readiness.{group_at, last_of}
use Rattle.ddr_rank.proofs.rank.Rank.other_groups.Given as goal

abbrev pub invariant-loop-other : goal.invariant-loop-other
invariant-loop-other l =
    l.last ≡ latest_among (λ g. if g == l.group then None else last_of l.kind (group_at l.self g)) l.other
