use Rattle.std.proofs.Common.{sym, subst}
use Rattle.ddr_workers.specs.Judged.{JudgedTrace}
use Rattle.ddr_workers.specs.Worker.{WorkerState, HasNothing, IsWorkDone}
use Rattle.ddr_workers.specs.WorkerView.{state_of}
use Rattle.ddr_workers.proofs.EndLemmas.{work_done}
use Rattle.ddr_workers.proofs.EndedLemmas.{worker_ended}
use Rattle.ddr_workers.proofs.worker.Worker.into_end.Goals as goal

pub returns-clause-done : goal.returns-clause-done
returns-clause-done c =
    let a = c.self.inside in
    let left : JudgedTrace = c.into_commands.result in
    subst (λ (w : WorkerState). IsWorkDone w.channel.config (record { id = a.id; number = a.number; config = c.config.result.now; requests = a.requests; completions = a.completions.items; trace = left.trace; kept = left.kept; fault = left.fault })) c.self.view_is
    (work_done (state_of a) c.config.result.now left.trace left.kept left.fault c.self.invariant (subst HasNothing (sym c.self.view_is) c.requires) c.channel_promise.ensures c.into_commands.ensures.trace c.into_commands.ensures.legal)

pub invariant_of-result : goal.invariant_of-result
invariant_of-result c =
    let a = c.self.inside in
    let left : JudgedTrace = c.into_commands.result in
    worker_ended (state_of a) c.config.result.now left.trace left.kept left.fault c.self.invariant c.config.ensures c.into_commands.ensures.kept c.into_commands.ensures.judged
    (work_done (state_of a) c.config.result.now left.trace left.kept left.fault c.self.invariant (subst HasNothing (sym c.self.view_is) c.requires) c.channel_promise.ensures c.into_commands.ensures.trace c.into_commands.ensures.legal)
