use Rattle.std.proofs.Common.{◌≡◌, slice_index_or}
use Rattle.ddr_rank.specs.Latest.{latest_among}
use Rattle.ddr_rank.specs.Readiness.{idle}
use Rattle.ddr_rank.proofs.rank.Rank.any_precharge.Given as goal

abbrev pub invariant-loop-bank : goal.invariant-loop-bank
invariant-loop-bank l =
    l.last ≡ latest_among (λ i. (slice_index_or l.bank-items i idle).precharge) l.bank-index
