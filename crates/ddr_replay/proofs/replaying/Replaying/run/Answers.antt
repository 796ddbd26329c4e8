-- Where lines that are left are looked at, nothing more is written.
use Rattle.std.proofs.Common.{Err, ap, refl, ◌∙◌}
use Rattle.ddr_stream.specs.Waiting.{all_in}
use Rattle.ddr_text.specs.declared.fault.Fault.{Fault}
use Rattle.ddr_text.specs.declared.fault.Fault.TheVariants as faults
use Rattle.ddr_replay.proofs.AheadLemmas.{same_fault}
use Rattle.ddr_replay.proofs.RunLemmas.{cut_again}
use Rattle.ddr_replay.proofs.replaying.Replaying.run.Goals as goal

pub returns-in-Err-clause-begun : goal.returns-in-Err-clause-begun
returns-in-Err-clause-begun g c =
    cut_again c.args.self.now.config c.args.self.now c.in-Err.fault c.first_fault.result (g.W.Write.contents c.args.writer.now) (g.W.Write.contents c.make_rounds.new.writer) (all_in c.args.self.now.stream (g.R.Read.remaining c.args.reader.now))
    c.first_fault.ensures.write c.in-Err.ensures.begun

pub returns-in-Err-clause-idle : goal.returns-in-Err-clause-idle
returns-in-Err-clause-idle g c = λ at_end.
    let idle = c.make_rounds.ensures.idle at_end in
    (idle.0, λ write. idle.1 (c.in-Err.is ∙ ap (λ (f : Fault). Err f) (c.first_fault.ensures.unwritten (same_fault (Err c.first_fault.result) c.first_fault.result faults.Write refl write))))

pub returns-in-Err-clause-taken : goal.returns-in-Err-clause-taken
returns-in-Err-clause-taken g c = λ write.
    c.make_rounds.ensures.taken (c.in-Err.is ∙ ap (λ (f : Fault). Err f) (c.first_fault.ensures.unwritten (same_fault (Err c.first_fault.result) c.first_fault.result faults.Write refl write)))
