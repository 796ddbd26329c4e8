use Rattle.ddr_workers.specs.Lanes.{lists}
use Rattle.ddr_workers.proofs.OpenLemmas.{port_rows, port_takes, worker_rows, worker_takes, opened}
use Rattle.ddr_workers.proofs.system.open_as.Goals as goal

pub open_ports-requires-clause-row : goal.open_ports-requires-clause-row
open_ports-requires-clause-row c = port_rows c.args.config.now (lists c.in_ok-port_rows.port_rows.items) c.in_ok-port_rows.worker_takes.items c.in_ok-port_rows.ensures

pub open_ports-requires-clause-take : goal.open_ports-requires-clause-take
open_ports-requires-clause-take c = port_takes c.args.config.now (lists c.in_ok-worker_rows.worker_rows.items) c.in_ok-worker_rows.port_takes.items c.in_ok-worker_rows.ensures

pub open_workers-requires-clause-row : goal.open_workers-requires-clause-row
open_workers-requires-clause-row c = worker_rows c.args.config.now (lists c.in_ok-worker_rows.worker_rows.items) c.in_ok-worker_rows.port_takes.items c.in_ok-worker_rows.ensures

pub open_workers-requires-clause-take : goal.open_workers-requires-clause-take
open_workers-requires-clause-take c = worker_takes c.args.config.now (lists c.in_ok-port_rows.port_rows.items) c.in_ok-port_rows.worker_takes.items c.in_ok-port_rows.ensures

pub returns-clause-opened : goal.returns-clause-opened
returns-clause-opened c =
    opened c.args.config.now c.args.first_cycle c.args.id (lists c.in_ok-port_rows.port_rows.items) c.in_ok-port_rows.worker_takes.items (lists c.in_ok-worker_rows.worker_rows.items) c.in_ok-worker_rows.port_takes.items
    c.in_ok-ports.ports.items c.in_ok-workers.workers.items c.in_ok-port_rows.ensures c.in_ok-worker_rows.ensures c.in_ok-ports.ensures c.in_ok-workers.ensures.new
