use Rattle.ddr_run.proofs.OutcomeLemmas.{new_ports}
use Rattle.ddr_tests.proofs.commands.stopping.stop_from.Goals as goal

pub run_all-requires-clause-numbers : goal.run_all-requires-clause-numbers
run_all-requires-clause-numbers g c κs outlives =
    new_ports c.in_ok-config.config c.args.first_cycle 0 c.in_ok-ports.ports.items c.in_ok-ports.workers.items c.in_ok-ports.ensures.opened
