use Rattle.std.proofs.Common.{◌++◌, ◌∷◌, [], inl, inr, refl, ap}
use Rattle.ddr_system_samples.proofs.OneOpen.{among}
use Rattle.ddr_thread_tests.proofs.runs.refusals.what_came_back_is_closed.Goals as goal

pub close_without_first-requires : goal.close_without_first-requires
close_without_first-requires g c =
    let all = c.in_ok-first in
    among 7 all.first all.second all.first_work all.second_work all.ensures.one _ _ (all.second ∷ []) (all.first_work ∷ all.second_work ∷ []) refl refl (λ own. inr refl, tt) (λ own. inl refl, (λ own. inr refl, tt))

pub close_with_first-requires : goal.close_with_first-requires
close_with_first-requires g c =
    let all = c.in_ok-first in
    among 7 all.first all.second all.first_work all.second_work all.ensures.one _ _ (all.second ∷ all.first ∷ []) (all.first_work ∷ all.second_work ∷ []) (ap (λ l. l ++ all.first ∷ []) c.in_ok-back.ensures.ports) c.in_ok-back.ensures.workers
    (λ own. inr refl, (λ own. inl refl, tt)) (λ own. inl refl, (λ own. inr refl, tt))
