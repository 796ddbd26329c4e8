use Rattle.std.proofs.Common.{◌≡◌, ◌++◌, map, take}
use Rattle.std.specs.List.{filter_map}
use Rattle.toml.specs.View.{table_view}
use Rattle.ddr_findings.specs.Faults.{key_fault, told}
use Rattle.ddr_findings.proofs.faults.add_key_faults.Given as goal

abbrev pub invariant-loop-key : goal.invariant-loop-key
invariant-loop-key l =
    map told l.faults.items ≡ map told l.initial.faults.items ++ filter_map (key_fault (table_view l.table)) (take l.key-index l.key-items)
