use Rattle.std.proofs.Common.{◌≡◌, ◌++◌, map, take, option_map}
use Rattle.std.specs.List.{filter_map}
use Rattle.ddr_findings.specs.Faults.{related, told}
use Rattle.ddr_findings.proofs.faults.add_relations.Given as goal

abbrev pub invariant-loop-found : goal.invariant-loop-found
invariant-loop-found l =
    map told l.faults.items ≡ map told l.initial.faults.items ++ filter_map (option_map related) (take l.found-index l.found-items)
