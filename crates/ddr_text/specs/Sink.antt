-- How writing fails.
use Rattle.std.specs.Prelude.{Bool, true, false}
use Rattle.ddr_text.specs.declared.fault.Fault.{Fault}
use Rattle.ddr_text.specs.declared.fault.Fault.TheVariants as faults

-- a writer that may fail is at fault itself, and one over memory was refused memory
abbrev pub write_fault : Bool → Fault
write_fault true = faults.Write
write_fault false = faults.OutOfMemory
