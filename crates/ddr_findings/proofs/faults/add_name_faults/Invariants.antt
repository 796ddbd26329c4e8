use Rattle.std.proofs.Common.{◌≡◌, ◌++◌, length, map, take}
use Rattle.std.specs.List.{filter_map}
use Rattle.toml.specs.View.{table_view}
use Rattle.ddr_findings.specs.Faults.{name_fault, names_of, told}
use Rattle.ddr_findings.proofs.faults.add_name_faults.Given as goal

abbrev pub invariant-loop-name : goal.invariant-loop-name
invariant-loop-name l = record {
  can_next : (goal.iterator-loop-name).can_next l.name-iterator;
  is_finite : (goal.iterator-loop-name).is_finite l.name-iterator;
  so_far : map told l.faults.items ≡ map told l.initial.faults.items ++ filter_map (name_fault (table_view l.table)) (take (length l.yielded) (names_of (table_view l.table)));
}
