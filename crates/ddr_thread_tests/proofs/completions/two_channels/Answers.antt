use Rattle.std.proofs.Common.{◌≡◌, rules, ◌∷◌, [], subst}
use Rattle.ddr_workers.specs.declared.completions.Delivery.{Delivery}
use Rattle.ddr_workers.specs.Sides.{AreOpened}
use Rattle.ddr_thread_tests.proofs.TwoSideLemmas.{new_sources, new_purposes}
use Rattle.ddr_thread_tests.proofs.completions.two_channels.Goals as goal

pub returns : goal.returns
returns c =
    let items : c.in_ok-puts.puts.items ≡ c.in_ok-first.first ∷ c.in_ok-second.second ∷ [] = search rules in
    let config = c.args.config.now in
    let opened = subst (λ l. AreOpened {S = Delivery} (record { geometry = config.geometry; port = 1 }) config.limits.window config.geometry.channels l c.in_ok-puts.take) items c.in_ok-puts.ensures in
    record {
      channels = new_sources _ _ _ _ _ _ opened;
      first = (new_purposes _ _ _ _ _ _ opened).0;
      second = (new_purposes _ _ _ _ _ _ opened).1;
      sides = opened.sides;
    }
