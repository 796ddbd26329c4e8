use Rattle.std.proofs.Common.{◌≡◌, take}
use Rattle.ddr_trace.specs.Banks.{bank_behind}
use Rattle.ddr_draw.proofs.starts.bank_behind.Given as goal

abbrev pub invariant-loop-entry : goal.invariant-loop-entry
invariant-loop-entry l = l.bank ≡ bank_behind l.command (take l.entry-index l.entries)
