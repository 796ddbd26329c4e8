-- Each port's side is asked, and the first with something to collect ends the search.
use Rattle.std.proofs.Common.{◌≡◌, [], rules}
use Rattle.std.proofs.lemmas.Iterator.{YieldsList-from_slice, cases_from_all}
use Rattle.ddr_world.specs.State.{PortSide}
use Rattle.ddr_world.proofs.AllLemmas.{all_decides}
use Rattle.ddr_world.proofs.world.World.are_ports_collected.Goals as goal

pub returns : goal.returns
returns c =
    let xs = c.args.self.now.ports in
    let none = λ (side : PortSide). side.completions ≡ [] in
    all_decides none c.all.result xs
    (cases_from_all _ _ c.all.result none (λ side. none side → ⊥) c.all.ensures.ran (YieldsList-from_slice xs cc) (λ x q k. search rules) (λ x q k. search rules))
