use Rattle.std.proofs.Common.{◌≡◌, rules, ◌∷◌, [], inl, inr, refl}
use Rattle.ddr_system_samples.proofs.OneOpen.{among}
use Rattle.ddr_thread_tests.proofs.runs.closing.close_in_reverse.Goals as goal

pub close-requires : goal.close-requires
close-requires g c =
    let ends = c.args.ends in
    let ports : c.in_ok-ports.ports.items ≡ ends.1 ∷ ends.0 ∷ [] = search rules in
    let workers : c.in_ok-workers.workers.items ≡ ends.3 ∷ ends.2 ∷ [] = search rules in
    among c.args.id ends.0 ends.1 ends.2 ends.3 c.requires _ _ _ _ ports workers (λ own. inr refl, (λ own. inl refl, tt)) (λ own. inr refl, (λ own. inl refl, tt))
