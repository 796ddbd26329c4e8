use Rattle.std.proofs.Common.{sym, ap, subst, ◌∙◌}
use Rattle.ddr_channel.specs.Choice.{choice_of}
use Rattle.ddr_channel.specs.Cycle.{at_choice}
use Rattle.ddr_channel.specs.Kept as kept
use Rattle.ddr_workers.specs.Worker.{WantedMemory, WorkerState}
use Rattle.ddr_workers.proofs.worker.Worker.run.Goals as goal

pub returns-in-Err-clause-memory : goal.returns-in-Err-clause-memory
returns-in-Err-clause-memory g c = λ memory nothing. c.in-Err.ensures.memory (sym c.stopped-in-Err.ensures.cause ∙ memory)
    (ap (λ (w : WorkerState). choice_of (at_choice (kept.state_of w.channel))) (sym c.stopped-in-Err.ensures.worker) ∙ nothing)

pub returns-in-Err-clause-wanted : goal.returns-in-Err-clause-wanted
returns-in-Err-clause-wanted g c = λ memory. subst (λ (w : WorkerState). WantedMemory w.channel) (sym c.stopped-in-Err.ensures.worker) (c.in-Err.ensures.wanted (sym c.stopped-in-Err.ensures.cause ∙ memory))
