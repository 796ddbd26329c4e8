-- Every fault of a trace. Each entry is judged behind its whole history, entries at fault among it.
use Rattle.std.specs.Prelude.{ℕ, ◌+◌, List, length, map, filter, flat_map, take, Option, Some, None}
use Rattle.std.specs.List.{range_with_len}
use Rattle.ddr_timing.specs.declared.config.Config.{Config}
use Rattle.ddr_trace.specs.declared.checker.Fault.{Fault}
use Rattle.ddr_trace.specs.declared.command.Entry.{Entry}
use Rattle.ddr_trace.specs.declared.rule.Rule.{Rule}
use Rattle.ddr_trace.specs.declared.rule.TheConstants.Rule.{ALL}
use Rattle.ddr_trace.specs.Legality.{breaks_at}

-- a rule that is broken at a place
abbrev pub fault_at : ℕ → Rule → Fault
fault_at place r = record { place = place; rule = r }

-- the faults at a place, in the order of the rules
abbrev pub faults_at : Config → ℕ → ℕ → List Entry → ℕ → List Fault
faults_at c start end entries place = map (fault_at place) (filter (breaks_at c start end entries place) ALL)

-- those of every place, in the order of the places; the last place is the trace's end
unfoldable pub all_faults : Config → ℕ → ℕ → List Entry → List Fault
all_faults c start end entries = flat_map (faults_at c start end entries) (range_with_len 0 (length entries + 1))

-- of all faults the first ones, if so many are asked for
abbrev pub told_of : Option ℕ → List Fault → List Fault
told_of None faults = faults
told_of (Some most) faults = take most faults
