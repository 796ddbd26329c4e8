use Rattle.std.proofs.Common.{◌≤◌, Some, refl, arith}
use Rattle.ddr_judge.specs.Records.{end_behind}
use Rattle.ddr_capture.proofs.ReadLemmas.{end_said}
use Rattle.ddr_capture.proofs.reading.Reading.take_end.Goals as goal

pub returns-clause-said : goal.returns-clause-said
returns-clause-said c = λ config start read has.
    let behind : end_behind start read.records ≤ c.args.cycle = omega (arith, c.end.ensures.behind config start read.records has.judged, c.if-cycle-end.false) in (
      record { records = read.records; end = Some c.args.cycle },
      record { judged = has.judged; ended = refl; behind = behind },
      end_said start c.args.line c.args.cycle read behind,
      omega arith,
    )
