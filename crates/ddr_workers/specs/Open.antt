-- What `open` makes: ports and workers at the two ends of the same queues.
use Rattle.std.specs.Prelude.{◌≡◌, ℕ, Bool, false, List, [], All, length, replicate, Some, None, slice_get}
use Rattle.ddr_timing.specs.declared.config.Config.{Config}
use Rattle.ddr_timing.specs.declared.geometry.Geometry.{Geometry}
use Rattle.ddr_address_map.specs.Requests.{Completion}
use Rattle.ddr_channel.specs.Kept.{state_of}
use Rattle.ddr_channel.specs.State.{opened}
use Rattle.ddr_ports.specs.State as core
use Rattle.ddr_workers.specs.declared.completions.Delivery.{Delivery}
use Rattle.ddr_world.specs.declared.item.Item.{Item}
use Rattle.ddr_workers.specs.declared.requests.Route.{Route}
use Rattle.ddr_workers.specs.Port.{PortState}
use Rattle.ddr_workers.specs.Sides.{PutSide, TakeSide, new_put}
use Rattle.ddr_workers.specs.Worker.{WorkerState}

-- a port before its first request
abbrev pub new_port : Config → ℕ → ℕ → List (PutSide Route Item) → TakeSide Delivery Completion → PortState
new_port config id port requests completions = record {
  id = id;
  core = core.opened config port 0;
  taken = 0;
  requests = requests;
  completions = completions;
  ended = 0;
  broken = false;
}

-- the side of a port that leads to a channel, before its first push
pub record IsNewPut (geometry : Geometry) (port channel : ℕ) (side : PutSide Route Item) : Type 0 where
  pub source : side.who.source ≡ port
  pub route : side.who.queue.purpose ≡ record { geometry = geometry; channel = channel }
  pub put : side.put ≡ []

-- the side of a channel that leads to a port, before its first push
pub record IsNewDonePut (geometry : Geometry) (channel port : ℕ) (side : PutSide Delivery Completion) : Type 0 where
  pub source : side.who.source ≡ channel
  pub delivery : side.who.queue.purpose ≡ record { geometry = geometry; port = port }
  pub put : side.put ≡ []

-- a worker before its first turn, whose channel's clock begins so
pub record IsNewWorker (config : Config) (first id number : ℕ) (completions : List (PutSide Delivery Completion)) (requests : TakeSide Route Item) (w : WorkerState) : Type 0 where
  pub id_is : w.id ≡ id
  pub number_is : w.number ≡ number
  pub channel : state_of w.channel ≡ opened config first
  pub requests_are : w.requests ≡ requests
  pub completions_are : w.completions ≡ completions
  pub held : w.held ≡ None
  pub noted : w.noted ≡ replicate (length completions) false

-- the sides of a port, one to each channel
pub record IsPortRow (geometry : Geometry) (port : ℕ) (sides : List (PutSide Route Item)) : Type 0 where
  pub channels : length sides ≡ geometry.channels
  pub side : (c : ℕ) (side : PutSide Route Item) → slice_get sides c ≡ Some side → IsNewPut geometry port c side

-- the port is a new one over these sides
abbrev pub IsPortOf : Config → ℕ → ℕ → List (PutSide Route Item) → TakeSide Delivery Completion → PortState → Type 0
IsPortOf config id port sides take p = p ≡ new_port config id port sides take

-- the sides of a worker, one to each port, and that from which it takes
pub record IsWorkerRow (geometry : Geometry) (ports channel : ℕ) (sides : List (PutSide Delivery Completion)) : Type 0 where
  pub ports_are : length sides ≡ ports
  pub side : (p : ℕ) (side : PutSide Delivery Completion) → slice_get sides p ≡ Some side → IsNewDonePut geometry channel p side

pub record IsWorkerTake (geometry : Geometry) (ports channel : ℕ) (take : TakeSide Route Item) : Type 0 where
  pub route : take.who.queue.purpose ≡ record { geometry = geometry; channel = channel }
  pub ports_are : take.who.count ≡ ports
  pub took : take.took ≡ []

-- The queue is a new one for this, of so many items at most, with so many put sides
pub record IsNewQueue {S T : Type 0} (aim : S) (most sides_made : ℕ) (take : TakeSide S T) : Type 0 where
  pub purpose : take.who.queue.purpose ≡ aim
  pub capacity : take.who.queue.capacity ≡ most
  pub count : take.who.count ≡ sides_made
  pub queue_sides : take.who.queue.sides ≡ sides_made
  pub took : take.took ≡ []
  pub empty : take.empty ≡ 0

-- Ports and workers before the first call: the queues are new ones, each has a port at one end and a worker at the other,
-- and the channels' clocks begin with this cycle.
pub record IsOpenedAt (config : Config) (first id : ℕ) (ports : List PortState) (workers : List WorkerState) : Type 0 where
  pub ports_are : length ports ≡ config.limits.ports
  pub workers_are : length workers ≡ config.geometry.channels
  pub port : (p : ℕ) (port : PortState) → slice_get ports p ≡ Some port → port ≡ new_port config id p port.requests port.completions
  pub worker : (c : ℕ) (w : WorkerState) → slice_get workers c ≡ Some w → IsNewWorker config first id c w.completions w.requests w
  -- a port has a put side for each channel, and no more
  pub sides : (p : ℕ) (port : PortState) → slice_get ports p ≡ Some port → length port.requests ≡ config.geometry.channels
  -- a worker has a put side for each port, and no more
  pub done_sides : (c : ℕ) (w : WorkerState) → slice_get workers c ≡ Some w → length w.completions ≡ config.limits.ports
  -- of each channel's queue the worker has the take side, and each port the put side of its number
  pub intake : (c : ℕ) (w : WorkerState) → slice_get workers c ≡ Some w → IsNewQueue (record { geometry = config.geometry; channel = c }) config.limits.intake config.limits.ports w.requests
  pub requests : (p c : ℕ) (port : PortState) (w : WorkerState) → slice_get ports p ≡ Some port → slice_get workers c ≡ Some w → slice_get port.requests c ≡ Some (new_put w.requests.who.queue p)
  -- of each port's queue the port has the take side, and each worker the put side of its channel
  pub window : (p : ℕ) (port : PortState) → slice_get ports p ≡ Some port → IsNewQueue (record { geometry = config.geometry; port = p }) config.limits.window config.geometry.channels port.completions
  pub completions : (p c : ℕ) (port : PortState) (w : WorkerState) → slice_get ports p ≡ Some port → slice_get workers c ≡ Some w → slice_get w.completions p ≡ Some (new_put port.completions.who.queue c)

-- whether their channels keep their traces
abbrev pub KeepTraces : Bool → List WorkerState → Type 0
KeepTraces keeps workers = All (λ w. w.channel.keeps ≡ keeps) workers

-- the same, with clocks that begin at 0
abbrev pub IsOpened : Config → ℕ → List PortState → List WorkerState → Type 0
IsOpened config id ports workers = IsOpenedAt config 0 id ports workers
