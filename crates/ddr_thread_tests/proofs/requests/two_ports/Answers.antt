use Rattle.std.proofs.Common.{◌≡◌, rules, ◌∷◌, [], subst, ap}
use Rattle.ddr_workers.specs.Requests.{has_end}
use Rattle.ddr_workers.specs.declared.requests.Route.{Route}
use Rattle.ddr_workers.specs.Sides.{AreOpened}
use Rattle.ddr_thread_tests.proofs.TwoSideLemmas.{new_sources, new_purposes, nothing_put}
use Rattle.ddr_thread_tests.proofs.requests.two_ports.Goals as goal

pub returns : goal.returns
returns c =
    let items : c.in_ok-puts.puts.items ≡ c.in_ok-first.first ∷ c.in_ok-second.second ∷ [] = search rules in
    let config = c.args.config.now in
    let opened = subst (λ l. AreOpened {S = Route} (record { geometry = config.geometry; channel = 0 }) config.limits.intake config.limits.ports l c.in_ok-puts.take) items c.in_ok-puts.ensures in
    let put = nothing_put _ _ _ _ _ _ opened in
    record {
      ports = new_sources _ _ _ _ _ _ opened;
      first = (new_purposes _ _ _ _ _ _ opened).0;
      second = (new_purposes _ _ _ _ _ _ opened).1;
      before_end = (ap has_end put.0, ap has_end put.1);
      sides = opened.sides;
    }
