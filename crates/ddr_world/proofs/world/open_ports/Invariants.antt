use Rattle.std.proofs.Common.{◌≡◌, map}
use Rattle.std.specs.List.{range_with_len}
use Rattle.ddr_world.specs.State.{opened_port}
use Rattle.ddr_world.proofs.world.open_ports.Given as goal

abbrev pub invariant-loop-port : goal.invariant-loop-port
invariant-loop-port l = l.ports.items ≡ map (opened_port l.config l.first) (range_with_len 0 l.port)
