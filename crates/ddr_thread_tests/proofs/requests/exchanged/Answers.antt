use Rattle.std.proofs.Common.{◌≡◌, rules, ◌∷◌, []}
use Rattle.ddr_thread_tests.proofs.TwoSideLemmas.{still_sides}
use Rattle.ddr_thread_tests.proofs.requests.exchanged.Goals as goal

pub join-left-requires : goal.join-left-requires
join-left-requires g c =
    let first = c.join-pushed.result.0.0.0 in
    let second = c.join-pushed.result.0.1.0 in
    let puts : c.in_ok-puts.puts.items ≡ first ∷ second ∷ [] = search rules in
    still_sides _ _ _ c.requires.sides first second _ c.join-pushed.ensures.first.0 c.join-pushed.ensures.first.1 c.join-pushed.ensures.second _ puts
