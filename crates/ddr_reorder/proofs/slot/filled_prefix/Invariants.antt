-- So many slots have their lines.
use Rattle.std.proofs.Common.{◌≤◌}
use Rattle.std.specs.List.{prefix_len}
use Rattle.ddr_reorder.specs.View.{has_line}
use Rattle.ddr_reorder.proofs.slot.filled_prefix.Given as goal

abbrev pub invariant-loop-index : goal.invariant-loop-index
invariant-loop-index l = l.index ≤ prefix_len has_line l.slots.items
