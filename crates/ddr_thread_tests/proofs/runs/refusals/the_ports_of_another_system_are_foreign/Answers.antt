use Rattle.std.proofs.Common.{◌≡◌, rules, ◌∷◌, [], inl, inr, refl}
use Rattle.ddr_system_samples.proofs.OneOpen.{among}
use Rattle.ddr_thread_tests.proofs.RunLemmas.{of_another}
use Rattle.ddr_thread_tests.proofs.runs.refusals.the_ports_of_another_system_are_foreign.Goals as goal

pub cause_of-requires : goal.cause_of-requires
cause_of-requires g c =
    let all = c.in_ok-first_work in
    let others = c.in_ok-first in
    let ports : c.in_ok-ports.ports.items ≡ others.first ∷ others.second ∷ [] = search rules in
    let workers : c.in_ok-workers.workers.items ≡ all.first_work ∷ all.second_work ∷ [] = search rules in
    among 7 _ _ all.first_work all.second_work all.ensures.one _ _ _ _ ports workers
    (λ own. absurd (of_another others.first.id others.ensures.id.0 own), (λ own. absurd (of_another others.second.id others.ensures.id.1 own), tt)) (λ own. inl refl, (λ own. inr refl, tt))
