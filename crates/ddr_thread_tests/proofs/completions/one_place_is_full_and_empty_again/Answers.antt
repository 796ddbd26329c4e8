use Rattle.std.proofs.Common.{refl}
use Rattle.ddr_thread_tests.proofs.TwoSideLemmas.{still_sides}
use Rattle.ddr_thread_tests.proofs.completions.one_place_is_full_and_empty_again.Goals as goal

pub join_both-requires : goal.join_both-requires
join_both-requires g c =
    let all = c.in_ok-first in
    still_sides _ _ _ all.ensures.sides c.hand_over.new.side all.second c.hand_over.new.take c.hand_over.ensures.who (λ _. all.second.who) c.hand_over.ensures.take _ refl
