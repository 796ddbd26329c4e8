use Rattle.std.proofs.Common.{◌≡◌, slice_index_or}
use Rattle.ddr_statistics.specs.Debts.{most_of}
use Rattle.ddr_statistics.specs.Noted.{no_activity}
use Rattle.ddr_statistics.proofs.background.latest_until.Given as goal

abbrev pub invariant-loop-number : goal.invariant-loop-number
invariant-loop-number l = l.latest ≡ most_of (λ n. (slice_index_or l.banks n no_activity).until) l.number
