use Rattle.std.proofs.Common.{sym, ◌∙◌}
use Rattle.ddr_workers.specs.WorkerView.{state_of}
use Rattle.ddr_workers.proofs.WorkerLemmas.{whole_held, none_of}
use Rattle.ddr_workers.proofs.worker.Worker.hold.Goals as goal

pub invariant_of-self : goal.invariant_of-self
invariant_of-self c =
    whole_held (state_of c.self.inside) c.pop_done.new.self c.pop_done.result c.self.invariant (none_of c.self.inside.held (sym c.is_some.ensures ∙ c.if-is_some.false))
    c.pop_done.ensures.first c.pop_done.ensures.rest c.pop_done.ensures.config c.pop_done.ensures.right c.pop_done.ensures.stands
