-- So many boxes are made, and the room for them all stays.
use Rattle.std.proofs.Common.{◌≡◌, ◌≤◌, vec_len, vec_capacity}
use Rattle.ddr_reorder.proofs.reorder.Reorder.open.Given as goal

abbrev pub invariant-loop : goal.invariant-loop
invariant-loop l = (vec_len l.spares ≡ l.counter) × (l.window ≤ vec_capacity l.spares)
