use Rattle.std.proofs.Common.{◌≡◌, ◌==◌, if◌then◌else◌, None}
use Rattle.ddr_rank.specs.Latest.{latest_among}
use Rattle.ddr_rank.specs.Readiness.{bank_at}
use Rattle.ddr_rank.proofs.rank.Rank.other_banks.Given as goal

abbrev pub invariant-loop-other : goal.invariant-loop-other
invariant-loop-other l =
    l.last ≡ latest_among (λ b. if b == l.bank then None else (bank_at l.self l.group b).last.activate) l.other
