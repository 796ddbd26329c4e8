use Rattle.std.proofs.Common.{◌≡◌, ◌+◌, ◌++◌, drop}
use Rattle.std.specs.Prelude.{string_bytes}
use Rattle.ddr_capture.specs.Report.{lines_from}
use Rattle.ddr_capture.proofs.report.report.Given as goal

abbrev pub invariant-loop-at : goal.invariant-loop-at
invariant-loop-at l = string_bytes l.text ++ lines_from l.form.format (l.first + l.at) (drop l.at l.verdicts) ≡ lines_from l.form.format l.first l.verdicts
