use Rattle.std.proofs.Common.{inl, inr, refl}
use Rattle.ddr_system_samples.proofs.OneOpen.{among}
use Rattle.ddr_memory_tests.proofs.system.close_ends.Goals as goal

pub close_again-requires : goal.close_again-requires
close_again-requires g c =
    let ends = c.args.ends in
    among 7 ends.0 ends.1 ends.2 ends.3 c.requires _ _ _ _ c.in_ok-ports.ensures c.in_ok-workers.ensures (λ own. inl refl, (λ own. inr refl, tt)) (λ own. inl refl, (λ own. inr refl, tt))
