use Rattle.std.proofs.Common.{take, string_bytes}
use Rattle.ddr_explain.specs.Table.{IsTable}
use Rattle.ddr_explain.proofs.table.lines_text.Given as goal

abbrev pub invariant-loop-fault : goal.invariant-loop-fault
invariant-loop-fault l = IsTable l.config l.start l.end l.entries (take l.fault-index l.faults) (string_bytes l.text)
