-- A fault of the run is told where no line that is left is at fault, else that line's.
use Rattle.std.proofs.Common.{◌≡◌, Result, Ok, IfSome, sym, subst, ◌∙◌}
use Rattle.ddr_text.specs.declared.fault.Fault.{Fault}
use Rattle.ddr_stream.specs.Waiting.{All, IsSaidFault, all_in}
use Rattle.ddr_replay.specs.Ahead.{IsEnded}
use Rattle.ddr_replay.specs.View.{Replay}
use Rattle.ddr_replay.proofs.AheadLemmas.{ended_first, ended_other, ended_run, line_writes_nothing, run_writes_nothing}
use Rattle.ddr_replay.proofs.replaying.Replaying.first_fault.Goals.{in-Ok, in-Err}
use Rattle.ddr_replay.proofs.replaying.Replaying.first_fault.Goals as goal

pub returns-then-not-is_of_run-clause-ended : goal.returns-then-not-is_of_run-clause-ended
returns-then-not-is_of_run-clause-ended g c = λ config left old all stopped.
    ended_other config left old c.args.fault all (all_in c.args.self.now.stream (g.R.Read.remaining c.args.reader.now)) (sym c.is_of_run.ensures ∙ c.if-not-is_of_run.true) c.requires stopped

pub returns-clause-ended : goal.returns-clause-ended
returns-clause-ended g c = λ config left old all stopped.
    let more = g.R.Read.remaining c.args.reader.now in
    let rest = all_in c.args.self.now.stream more in
    let own = sym c.is_of_run.ensures ∙ c.if-not-is_of_run.false in
    elim c.match-skip_all.branch [
      | in-Ok w ↦
          subst (λ (f : Fault). IsEnded config left old f all) (sym w.result-is)
          (ended_run config left old c.args.fault all rest stopped
          (subst (λ (r : Replay). IfSome (all_in r.stream more) (λ (said : Result All Fault). (every : All) × (said ≡ Ok every))) c.self.view_is w.in-Ok.ensures.sound))
      | in-Err w ↦
          subst (λ (f : Fault). IsEnded config left old f all) (sym w.result-is)
          (ended_first config left old c.args.fault w.in-Err.first all rest own stopped
          (subst (λ (r : Replay). IsSaidFault w.in-Err.first (all_in r.stream more)) c.self.view_is w.in-Err.ensures.fault))
    ]

pub returns-clause-write : goal.returns-clause-write
returns-clause-write g c = λ write.
    let own = sym c.is_of_run.ensures ∙ c.if-not-is_of_run.false in
    absurd (run_writes_nothing c.args.fault own write)

pub returns-clause-unwritten : goal.returns-clause-unwritten
returns-clause-unwritten g c = λ write. elim c.match-skip_all.branch [
  | in-Ok w ↦ sym w.result-is ∙ write
  | in-Err w ↦ absurd (line_writes_nothing w.in-Err.first w.in-Err.ensures.kind (sym w.result-is ∙ write))
]
