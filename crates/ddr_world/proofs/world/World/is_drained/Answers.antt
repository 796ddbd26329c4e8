-- The ports are drained and the channels are.
use Rattle.ddr_world.proofs.OpenLemmas.{sides_drained, drained_sides}
use Rattle.ddr_world.proofs.world.World.is_drained.Goals as goal

pub returns-then-are_ports_drained : goal.returns-then-are_ports_drained
returns-then-are_ports_drained c =
    let channels = c.args.self.now.channels in (
      λ told. record { ports = c.are_ports_drained.ensures.0 c.if-are_ports_drained.true; channels = sides_drained channels (c.are_channels_drained.ensures.0 told) },
      λ drained. c.are_channels_drained.ensures.1 (drained_sides channels drained.channels),
    )
