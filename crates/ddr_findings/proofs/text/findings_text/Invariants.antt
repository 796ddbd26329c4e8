use Rattle.std.proofs.Common.{◌≡◌, ◌++◌, map, take, string_bytes}
use Rattle.std.specs.Prelude.{flat_map}
use Rattle.ddr_findings.specs.Faults.{told}
use Rattle.ddr_findings.specs.Texts.{fault_text, warning_text}
use Rattle.ddr_findings.proofs.text.findings_text.Given as goal

abbrev pub invariant-loop-fault : goal.invariant-loop-fault
invariant-loop-fault l = string_bytes l.text ≡ flat_map fault_text (map told (take l.fault-index l.fault-items))

abbrev pub invariant-loop-warning : goal.invariant-loop-warning
invariant-loop-warning l =
    string_bytes l.text ≡ flat_map fault_text (map told l.findings.faults.items) ++ flat_map warning_text (take l.warning-index l.warning-items)
