use Rattle.std.proofs.Common.{◌≡◌, rules, ◌∷◌, [], sym, subst}
use Rattle.ddr_workers.specs.Sides.{AreSides}
use Rattle.ddr_thread_tests.proofs.completions.join_both.Goals as goal

pub join-left-requires : goal.join-left-requires
join-left-requires g c =
    let puts : c.in_ok-puts.puts.items ≡ c.args.first ∷ c.args.second ∷ [] = search rules in
    subst (λ l. AreSides l c.args.take) (sym puts) c.requires
