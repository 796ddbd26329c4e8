use Rattle.std.proofs.Common.{◌≡◌, rules, ◌∷◌, [], inl, inr, refl}
use Rattle.ddr_system_samples.proofs.OneOpen.{among}
use Rattle.ddr_thread_tests.proofs.RunLemmas.{of_another}
use Rattle.ddr_thread_tests.proofs.runs.refusals.close_both.Goals as goal

pub close-requires : goal.close-requires
close-requires g c =
    let own = c.args.own in
    let other = c.args.other in
    let ports : c.in_ok-ports.ports.items ≡ own.0 ∷ own.1 ∷ other.0 ∷ other.1 ∷ [] = search rules in
    let workers : c.in_ok-workers.workers.items ≡ own.2 ∷ own.3 ∷ other.2 ∷ other.3 ∷ [] = search rules in
    among 7 own.0 own.1 own.2 own.3 c.requires.own _ _ _ _ ports workers
    (λ mine. inl refl, (λ mine. inr refl, (λ mine. absurd (of_another other.0.id c.requires.id.0 mine), (λ mine. absurd (of_another other.1.id c.requires.id.1 mine), tt))))
    (λ mine. inl refl, (λ mine. inr refl, (λ mine. absurd (of_another other.2.id c.requires.work_id.0 mine), (λ mine. absurd (of_another other.3.id c.requires.work_id.1 mine), tt))))
