use Rattle.std.proofs.Common.{◌≡◌, rules, ◌∷◌, [], inl, inr, refl}
use Rattle.ddr_system_samples.proofs.OneOpen.{among}
use Rattle.ddr_thread_tests.proofs.runs.refusals.the_end_of_a_port_is_missing.Goals as goal

pub cause_of-requires : goal.cause_of-requires
cause_of-requires g c =
    let all = c.in_ok-second in
    let ports : c.in_ok-ports.ports.items ≡ all.second ∷ [] = search rules in
    let workers : c.in_ok-workers.workers.items ≡ all.first_work ∷ all.second_work ∷ [] = search rules in
    among 7 _ all.second all.first_work all.second_work all.ensures.one _ _ _ _ ports workers (λ own. inr refl, tt) (λ own. inl refl, (λ own. inr refl, tt))
