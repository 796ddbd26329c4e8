use Rattle.std.proofs.Common.{◌≡◌, IfErr, IsTrue, refl, sym, subst, ◌∙◌}
use Rattle.ddr_channel.specs.Room.{wants_memory}
use Rattle.std.proofs.lemmas.Bool.{false≢true}
use Rattle.ddr_arbiter.specs.declared.choice.Choice.TheVariants.{Nothing}
use Rattle.ddr_channel.specs.Choice.{choice_of}
use Rattle.ddr_channel.specs.Cycle.{at_choice}
use Rattle.ddr_channel.specs.Kept as kept
use Rattle.ddr_workers.specs.declared.worker.Cause.TheVariants.{OutOfMemory}
use Rattle.ddr_workers.specs.Worker.{WorkerState, IsSameWorker, WantedMemory}
use Rattle.ddr_workers.specs.WorkerView.{HasTried, state_of}
use Rattle.ddr_workers.proofs.WorkerLemmas.{whole_cycled, whole_uncycled, same_channel, cycle_begins, idle_after, on_err_of, wanted_at}
use Rattle.ddr_workers.proofs.worker.Worker.step.Goals.{in-Ok, in-Err}
use Rattle.ddr_workers.proofs.worker.Worker.step.Goals as goal

pub invariant_of-self : goal.invariant_of-self
invariant_of-self c =
    let w = state_of c.self.inside in
    elim c.match-cycle.branch [
      | in-Ok b ↦ whole_cycled w c.cycle.new.self c.self.invariant (subst HasTried (sym c.self.view_is) c.requires) (λ idle. false≢true (sym c.if-is_empty.false ∙ c.is_empty.ensures.1 idle)) c.cycle.ensures.config b.in-Ok.ensures.ok b.in-Ok.ensures.stands
      | in-Err b ↦ whole_uncycled w c.cycle.new.self c.self.invariant b.in-Err.ensures.err
    ]

pub returns-clause-same : goal.returns-clause-same
returns-clause-same c =
    let w = state_of c.self.inside in
    subst (λ (v : WorkerState). IsSameWorker v (record w { channel = c.cycle.new.self })) c.self.view_is
    (same_channel w c.cycle.new.self w.held w.requests w.noted c.cycle.ensures.config (cycle_begins w.channel c.cycle.new.self c.cycle.result c.cycle.ensures.ok c.cycle.ensures.err) c.cycle.ensures.room.keeps refl)

pub returns-clause-memory : goal.returns-clause-memory
returns-clause-memory c =
    elim c.match-cycle.branch [
      | in-Ok b ↦ subst (λ r. IfErr r (λ cause. cause ≡ OutOfMemory → choice_of (at_choice (kept.state_of c.cycle.new.self)) ≡ Nothing → ⊥)) (sym b.result-is) tt
      | in-Err b ↦ subst (λ r. IfErr r (λ cause. cause ≡ OutOfMemory → choice_of (at_choice (kept.state_of c.cycle.new.self)) ≡ Nothing → ⊥)) (sym b.result-is)
          (λ memory. idle_after c.self.inside.channel c.cycle.new.self c.cycle.result b.in-Err.error b.in-Err.is c.cycle.ensures.err c.cycle.ensures.idle (sym b.from.ensures ∙ memory))
    ]

pub returns-clause-wanted : goal.returns-clause-wanted
returns-clause-wanted c =
    elim c.match-cycle.branch [
      | in-Ok b ↦ subst (λ r. IfErr r (λ cause. cause ≡ OutOfMemory → WantedMemory c.cycle.new.self)) (sym b.result-is) tt
      | in-Err b ↦ subst (λ r. IfErr r (λ cause. cause ≡ OutOfMemory → WantedMemory c.cycle.new.self)) (sym b.result-is)
          (λ memory. record {
            before = c.self.inside.channel;
            same = sym (on_err_of (kept.state_of c.cycle.new.self ≡ kept.state_of c.self.inside.channel) c.cycle.result b.in-Err.error b.in-Err.is c.cycle.ensures.err);
            wanted = wanted_at (IsTrue (wants_memory c.self.inside.channel)) c.cycle.result b.in-Err.error b.in-Err.is c.cycle.ensures.memory (sym b.from.ensures ∙ memory);
          })
    ]
