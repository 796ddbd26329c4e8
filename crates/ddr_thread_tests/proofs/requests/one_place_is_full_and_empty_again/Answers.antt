use Rattle.std.proofs.Common.{refl}
use Rattle.ddr_thread_tests.proofs.TwoSideLemmas.{still_sides}
use Rattle.ddr_thread_tests.proofs.requests.one_place_is_full_and_empty_again.Goals as goal

pub end_both-requires-clause-sides : goal.end_both-requires-clause-sides
end_both-requires-clause-sides g c =
    let all = c.in_ok-first in
    still_sides _ _ _ all.ensures.sides c.hand_over.new.side all.second c.hand_over.new.take c.hand_over.ensures.who (λ _. all.second.who) c.hand_over.ensures.take _ refl
