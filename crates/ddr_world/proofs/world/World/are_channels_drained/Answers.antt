-- Each channel's side is asked, and the first that is not drained ends the search.
use Rattle.std.proofs.Common.{rules}
use Rattle.std.proofs.lemmas.Iterator.{YieldsList-from_slice, cases_from_all}
use Rattle.ddr_world.specs.Kept.{side_of}
use Rattle.ddr_world.specs.State.{IsChannelDrained}
use Rattle.ddr_world.proofs.AllLemmas.{all_decides}
use Rattle.ddr_world.proofs.world.World.are_channels_drained.Goals as goal

pub returns : goal.returns
returns c =
    let xs = c.args.self.now.channels in
    all_decides (λ side. IsChannelDrained (side_of side)) c.all.result xs
    (cases_from_all _ _ c.all.result (λ side. IsChannelDrained (side_of side)) (λ side. IsChannelDrained (side_of side) → ⊥) c.all.ensures.ran (YieldsList-from_slice xs cc) (λ x q k. search rules) (λ x q k. search rules))
