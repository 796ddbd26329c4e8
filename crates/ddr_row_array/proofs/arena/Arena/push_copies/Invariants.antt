use Rattle.std.proofs.Common.{◌≡◌, ◌+◌, ◌≤◌, ◌++◌, length, replicate}
use Rattle.ddr_row_array.proofs.arena.Arena.push_copies.Given as goal

abbrev pub invariant-loop-left : goal.invariant-loop-left
invariant-loop-left g l = record {
  items : l.self.items ++ replicate l.left l.item ≡ l.fn.self.items ++ replicate l.fn.count l.item;
  capacity : l.self.capacity ≡ l.fn.self.capacity;
  room : length l.self.items + l.left ≤ l.self.capacity;
}

abbrev pub decreases-loop-left : goal.decreases-loop-left
decreases-loop-left g l = l.left
