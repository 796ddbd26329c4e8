use Rattle.std.proofs.Common.{ℕ, List}
use Rattle.ddr_timing.specs.declared.config.Config.{Config}
use Rattle.ddr_judge.specs.Judged.{HasJudged}
use Rattle.ddr_judge.specs.Records.{Record}
use Rattle.ddr_capture.specs.Report.{AreVerdicts}
use Rattle.ddr_capture.proofs.report.verdicts.Given as goal

abbrev pub invariant-loop-at : goal.invariant-loop-at
invariant-loop-at l = (config : Config) (start : ℕ) (records : List Record) → HasJudged l.judge config start records → AreVerdicts config start l.end records l.first l.at l.verdicts.items
