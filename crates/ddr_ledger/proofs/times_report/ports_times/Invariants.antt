use Rattle.std.proofs.Common.{◌≡◌, ◌++◌, drop, string_bytes}
use Rattle.ddr_ledger.specs.TimesReport.{ports_times}
use Rattle.ddr_ledger.proofs.times_report.ports_times.Given as goal

abbrev pub invariant-loop-port : goal.invariant-loop-port
invariant-loop-port l = string_bytes l.text ++ ports_times l.port-counter (drop l.port-counter l.ports) ≡ ports_times 0 l.ports
