-- A core that was opened has the ports and channels of its configuration.
use Rattle.ddr_world.proofs.OpenLemmas.{whole_opened}
use Rattle.ddr_world.proofs.world.World.open_as.Goals as goal

pub invariant_of-result : goal.invariant_of-result
invariant_of-result c =
    whole_opened (record { config = c.args.config.now; keeps = c.args.keeps; ports = c.in_ok-open_ports.field-0; channels = c.in_ok-open_channels.field-0 })
    c.args.first_cycle c.args.first_number c.in_ok-open_ports.ensures c.in_ok-open_channels.ensures.state c.in_ok-open_channels.ensures.opened
