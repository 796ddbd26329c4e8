use Rattle.std.proofs.Common.{◌≡◌, rules, List, ◌∷◌, [], sym, subst}
use Rattle.ddr_workers.specs.Closing.{AreOfOneOpen}
use Rattle.ddr_workers.specs.Port.{PortEnded}
use Rattle.ddr_workers.specs.Worker.{WorkerEnded}
use Rattle.ddr_thread_tests.proofs.runs.refusals.close_without_first.Goals as goal

pub close-requires : goal.close-requires
close-requires g c =
    let ports : c.in_ok-ports.ports.items ≡ c.args.second ∷ [] = search rules in
    let workers : c.in_ok-workers.workers.items ≡ c.args.first_work ∷ c.args.second_work ∷ [] = search rules in
    subst (λ (ends : List PortEnded × List WorkerEnded). AreOfOneOpen 7 ends.0 ends.1) (λ i. (sym ports i, sym workers i)) c.requires
