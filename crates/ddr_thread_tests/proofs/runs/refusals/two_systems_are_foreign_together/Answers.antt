use Rattle.std.proofs.Common.{List, take, drop, sym, ◌∙◌, subst}
use Rattle.ddr_workers.specs.Closing.{AreOfOneOpen}
use Rattle.ddr_workers.specs.Port.{PortEnded}
use Rattle.ddr_workers.specs.Worker.{WorkerEnded}
use Rattle.ddr_thread_tests.proofs.runs.refusals.two_systems_are_foreign_together.Goals as goal

pub close_in_order-requires : goal.close_in_order-requires
close_in_order-requires g c =
    let ports = sym c.in_ok-back.ensures.ports ∙ c.in_ok-first.ensures.ports in
    let workers = sym c.in_ok-back.ensures.workers ∙ c.in_ok-first.ensures.workers in
    subst (λ (ends : List PortEnded × List WorkerEnded). AreOfOneOpen 7 ends.0 ends.1) (λ i. (take 2 (ports i), take 2 (workers i))) c.in_ok-own.ensures.one

pub close_in_order-requires-2 : goal.close_in_order-requires-2
close_in_order-requires-2 g c =
    let ports = sym c.in_ok-back.ensures.ports ∙ c.in_ok-first.ensures.ports in
    let workers = sym c.in_ok-back.ensures.workers ∙ c.in_ok-first.ensures.workers in
    subst (λ (ends : List PortEnded × List WorkerEnded). AreOfOneOpen 8 ends.0 ends.1) (λ i. (drop 2 (ports i), drop 2 (workers i))) c.in_ok-other.ensures.one
