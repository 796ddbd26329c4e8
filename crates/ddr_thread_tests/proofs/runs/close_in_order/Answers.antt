use Rattle.std.proofs.Common.{◌≡◌, rules, ◌∷◌, [], inl, inr, refl}
use Rattle.ddr_system_samples.proofs.OneOpen.{among}
use Rattle.ddr_thread_tests.proofs.runs.close_in_order.Goals as goal

pub close-requires : goal.close-requires
close-requires g c =
    let ends = c.args.ends in
    let ports : c.in_ok-ports.ports.items ≡ ends.0 ∷ ends.1 ∷ [] = search rules in
    let workers : c.in_ok-workers.workers.items ≡ ends.2 ∷ ends.3 ∷ [] = search rules in
    among c.args.id ends.0 ends.1 ends.2 ends.3 c.requires _ _ _ _ ports workers (λ own. inl refl, (λ own. inr refl, tt)) (λ own. inl refl, (λ own. inr refl, tt))
