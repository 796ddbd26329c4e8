use Rattle.std.proofs.Common.{◌≡◌, rules, ◌∷◌, [], inl, inr, refl}
use Rattle.ddr_system_samples.proofs.OneOpen.{among}
use Rattle.ddr_thread_tests.proofs.RunLemmas.{of_another}
use Rattle.ddr_thread_tests.proofs.runs.refusals.the_workers_of_another_system_are_foreign.Goals as goal

pub cause_of-requires : goal.cause_of-requires
cause_of-requires g c =
    let all = c.in_ok-first in
    let others = c.in_ok-first_work in
    let ports : c.in_ok-ports.ports.items ≡ all.first ∷ all.second ∷ [] = search rules in
    let workers : c.in_ok-workers.workers.items ≡ others.first_work ∷ others.second_work ∷ [] = search rules in
    among 7 all.first all.second _ _ all.ensures.one _ _ _ _ ports workers
    (λ own. inl refl, (λ own. inr refl, tt)) (λ own. absurd (of_another others.first_work.id others.ensures.work_id.0 own), (λ own. absurd (of_another others.second_work.id others.ensures.work_id.1 own), tt))
