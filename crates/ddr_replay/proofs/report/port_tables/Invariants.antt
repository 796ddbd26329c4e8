use Rattle.std.proofs.Common.{◌≡◌, ◌++◌, drop, string_bytes}
use Rattle.ddr_replay.specs.Report.{port_tables}
use Rattle.ddr_replay.proofs.report.port_tables.Given as goal

abbrev pub invariant-loop-port : goal.invariant-loop-port
invariant-loop-port l = string_bytes l.text ++ port_tables l.cycles l.port (drop l.port l.requests) l.ledger ≡ port_tables l.cycles 0 l.requests l.ledger
