use Rattle.ddr_capture.proofs.LineLemmas.{stands_fault, stands_more}
use Rattle.ddr_capture.proofs.capture.take_text.Goals as goal

pub returns-in-Ok-clause-said : goal.returns-in-Ok-clause-said
returns-in-Ok-clause-said c = λ config start read a b d f line same has so_far found other is.
    let step = c.in-Ok.ensures.said config start read has in (
      step.0,
      step.1,
      step.3,
      stands_more c.args.reading.now.form config start c.args.count read a b d f line step.0 so_far found other (rw (same, is) at step.2),
    )

pub returns-in-Err-clause-said : goal.returns-in-Err-clause-said
returns-in-Err-clause-said c = λ config start read a b d f line same has so_far found other is.
    stands_fault c.args.reading.now.form config start c.args.count read a b d f line c.in-Err.fault so_far found other (rw (same, is) at (c.in-Err.ensures.said config start read has)) c.in-Err.ensures.refused
