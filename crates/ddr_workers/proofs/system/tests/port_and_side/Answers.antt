use Rattle.std.proofs.Common.{◌≡◌, ◌<◌, List, length, get_or, slice_get, ap, arith}
use Rattle.std.specs.Global.{Vec}
use Rattle.std.proofs.lemmas.List.{length-map}
use Rattle.ddr_timing.specs.declared.config.Config.{Config}
use Rattle.ddr_address_map.specs.Requests.{Completion}
use Rattle.ddr_workers.specs.declared.completions.Delivery.{Delivery}
use Rattle.ddr_workers.specs.Lanes.{AreLanes, lists}
use Rattle.ddr_workers.specs.Open.{IsNewDonePut, IsWorkerRow}
use Rattle.ddr_workers.specs.Sides.{PutSide, TakeSide}
use Rattle.ddr_workers.proofs.LaneLemmas.{removed, first_row}
use Rattle.ddr_workers.proofs.OpenLemmas.{port_rows, port_takes, worker_rows}
use Rattle.ddr_workers.proofs.system.tests.port_and_side.Goals as goal

-- the side on which channel 0 pushes for port 0
first_side : (config : Config) (rows : List (Vec (PutSide Delivery Completion))) (takes : List (TakeSide Delivery Completion)) (row : Vec (PutSide Delivery Completion)) (side : PutSide Delivery Completion)
    → AreLanes (λ port. record { geometry = config.geometry; port = port }) config.limits.window config.geometry.channels config.limits.ports (lists rows) takes
    → row ≡ get_or rows 0 row → side ≡ get_or row.items 0 side → IsNewDonePut config.geometry 0 0 side
first_side config rows takes row side lanes row_is side_is =
    let some : 0 < length rows = omega (arith, length-map rows (λ (r : Vec (PutSide Delivery Completion)). r.items), lanes.rows_are, config.geometry.channels_range) in
    let is = removed rows row some row_is in
    let new = (first_row (IsWorkerRow config.geometry config.limits.ports) 0 rows row is (worker_rows config (lists rows) takes lanes)).0 in
    let some' : 0 < length row.items = omega (arith, new.ports_are, config.limits.ports_range) in
    new.side 0 side (ap (λ xs. slice_get xs 0) (removed row.items side some' side_is))

pub open_ports-requires-clause-row : goal.open_ports-requires-clause-row
open_ports-requires-clause-row c = port_rows c.args.config.now (lists c.in_ok-port_rows.port_rows.items) _ c.in_ok-port_rows.ensures

pub open_ports-requires-clause-take : goal.open_ports-requires-clause-take
open_ports-requires-clause-take c = port_takes c.args.config.now (lists c.in_ok-worker_rows.worker_rows.items) c.in_ok-worker_rows.port_takes.items c.in_ok-worker_rows.ensures

pub returns-clause-source : goal.returns-clause-source
returns-clause-source c = (first_side c.args.config.now c.in_ok-worker_rows.worker_rows.items c.in_ok-worker_rows.port_takes.items c.remove-row.result c.remove-side.result c.in_ok-worker_rows.ensures c.remove-row.ensures.value c.remove-side.ensures.value).source

pub returns-clause-delivery : goal.returns-clause-delivery
returns-clause-delivery c = (first_side c.args.config.now c.in_ok-worker_rows.worker_rows.items c.in_ok-worker_rows.port_takes.items c.remove-row.result c.remove-side.result c.in_ok-worker_rows.ensures c.remove-row.ensures.value c.remove-side.ensures.value).delivery
