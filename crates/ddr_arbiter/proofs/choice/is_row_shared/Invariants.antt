use Rattle.std.proofs.Common.{◌≡◌, false, not, ◌&&◌, eqb}
use Rattle.std.specs.List.{list_any, range_with_len}
use Rattle.ddr_arbiter.specs.Choice.{share_row}
use Rattle.ddr_arbiter.proofs.choice.is_row_shared.Given as goal

abbrev pub invariant-loop-other : goal.invariant-loop-other
invariant-loop-other l = list_any (λ other. not (eqb other l.place) && share_row l.pending.waiting l.place other) (range_with_len 0 l.other) ≡ false
