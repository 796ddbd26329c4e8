use Rattle.std.proofs.Common.{◌≡◌, rules, ◌∷◌, []}
use Rattle.ddr_thread_tests.proofs.TwoSideLemmas.{still_sides}
use Rattle.ddr_thread_tests.proofs.requests.end_both.Goals as goal

pub join-requires : goal.join-requires
join-requires g c =
    let puts : c.in_ok-puts.puts.items ≡ c.end.new.self ∷ c.end-2.new.self ∷ [] = search rules in
    still_sides _ _ _ c.requires.sides c.end.new.self c.end-2.new.self _ c.end.ensures.who c.end-2.ensures.who (λ _. c.args.take.who) _ puts
