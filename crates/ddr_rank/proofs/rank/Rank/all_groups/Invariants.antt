use Rattle.std.proofs.Common.{◌≡◌}
use Rattle.ddr_rank.specs.Latest.{latest_among}
use Rattle.ddr_rank.specs.Readiness.{group_at, last_of}
use Rattle.ddr_rank.proofs.rank.Rank.all_groups.Given as goal

abbrev pub invariant-loop-group : goal.invariant-loop-group
invariant-loop-group l = l.last ≡ latest_among (λ g. last_of l.kind (group_at l.self g)) l.group
