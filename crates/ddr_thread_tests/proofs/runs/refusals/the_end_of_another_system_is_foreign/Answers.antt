use Rattle.std.proofs.Common.{◌≡◌, rules, ◌∷◌, [], inl, inr, refl}
use Rattle.ddr_system_samples.proofs.OneOpen.{among}
use Rattle.ddr_thread_tests.proofs.RunLemmas.{of_another}
use Rattle.ddr_thread_tests.proofs.runs.refusals.the_end_of_another_system_is_foreign.Goals as goal

pub cause_of-requires : goal.cause_of-requires
cause_of-requires g c =
    let all = c.in_ok-first in
    let other = c.in_ok-other.other in
    let ports : c.in_ok-ports.ports.items ≡ all.first ∷ all.second ∷ other ∷ [] = search rules in
    let workers : c.in_ok-workers.workers.items ≡ all.first_work ∷ all.second_work ∷ [] = search rules in
    among 7 all.first all.second all.first_work all.second_work all.ensures.one _ _ _ _ ports workers
    (λ own. inl refl, (λ own. inr refl, (λ own. absurd (of_another other.id c.in_ok-other.ensures.id.1 own), tt))) (λ own. inl refl, (λ own. inr refl, tt))
