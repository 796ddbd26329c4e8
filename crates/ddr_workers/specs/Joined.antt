-- How the queues of a system are joined: ends in order and room for their sides, the sides of all queues of one kind, queue by
-- queue, and what the joining of each tells.
use Rattle.std.specs.Prelude.{◌≡◌, ℕ, ◌<◌, true, List, [], length, Some, slice_get, vec_capacity}
use Rattle.std.specs.Global.{Vec}
use Rattle.ddr_address_map.specs.Requests.{Completion}
use Rattle.ddr_workers.specs.declared.closing.Room.{Room}
use Rattle.ddr_workers.specs.declared.completions.Delivery.{Delivery}
use Rattle.ddr_world.specs.declared.item.Item.{Item}
use Rattle.ddr_workers.specs.declared.requests.Route.{Route}
use Rattle.ddr_workers.specs.Closing.{AreOpposite}
use Rattle.ddr_workers.specs.Completions as completions
use Rattle.ddr_workers.specs.Gathered.{nothing_of}
use Rattle.ddr_workers.specs.Port.{PortEnded}
use Rattle.ddr_workers.specs.Requests as requests
use Rattle.ddr_workers.specs.Requests.{has_end, of_port}
use Rattle.ddr_workers.specs.Sides.{PutSide, TakeSide}
use Rattle.ddr_workers.specs.Worker.{WorkerEnded}

-- nothing yet, with room for so many
pub record HasRoomFor {X : Type 0} (count : ℕ) (v : Vec X) : Type 0 where
  pub empty : v.items ≡ []
  pub room : vec_capacity v ≡ count

pub record IsRoomFor (ports workers : ℕ) (room : Room) : Type 0 where
  pub port_sides : room.ports ≡ nothing_of ports workers
  pub worker_sides : room.workers ≡ nothing_of workers ports
  pub accepted : HasRoomFor ports room.accepted
  pub taken : HasRoomFor ports room.taken
  pub traces : HasRoomFor workers room.traces
  pub faults : HasRoomFor workers room.faults

-- Ports and workers in the order of their numbers, from one call of `open`
pub record AreReady (ports : List PortEnded) (workers : List WorkerEnded) : Type 0 where
  pub port : (p : ℕ) (e : PortEnded) → slice_get ports p ≡ Some e → e.port ≡ p
  pub worker : (c : ℕ) (w : WorkerEnded) → slice_get workers c ≡ Some w → w.number ≡ c
  pub channels : (p : ℕ) (e : PortEnded) → slice_get ports p ≡ Some e → length e.requests ≡ length workers
  pub ports_are : (c : ℕ) (w : WorkerEnded) → slice_get workers c ≡ Some w → length w.completions ≡ length ports
  -- a port's queue has a put side for each channel
  pub windows : (p : ℕ) (e : PortEnded) → slice_get ports p ≡ Some e → e.completions.who.count ≡ length workers
  pub opposite : (p c : ℕ) (e : PortEnded) (w : WorkerEnded) → slice_get ports p ≡ Some e → slice_get workers c ≡ Some w → AreOpposite e w

-- of each queue: its put sides and its take side
abbrev pub OfEach : {X Y : Type 0} → (List X → Y → Type 0) → List (List X) → List Y → Type 0
OfEach P rows ys = (q : ℕ) (row : List _) (y : _) → slice_get rows q ≡ Some row → slice_get ys q ≡ Some y → P row y

-- the same of the first queues, so many of them
abbrev pub BelowEach : {X Y : Type 0} → (List X → Y → Type 0) → ℕ → List (List X) → List Y → Type 0
BelowEach P n rows ys = (q : ℕ) (row : List _) (y : _) → q < n → slice_get rows q ≡ Some row → slice_get ys q ≡ Some y → P row y

-- a request queue was joined, which left these items: none, where every port's End was taken
pub record IsIntakeJoined (puts : List (PutSide Route Item)) (take : TakeSide Route Item) : Type 0 where
  pub left : List Item
  pub told : requests.IsLeft puts take left
  pub ended : ((p : ℕ) → p < take.who.count → has_end (of_port p take.took) ≡ true) → left ≡ []

-- a completion queue was joined, which left these completions
pub record IsWindowJoined (puts : List (PutSide Delivery Completion)) (take : TakeSide Delivery Completion) : Type 0 where
  pub left : List Completion
  pub told : completions.IsLeft puts take left
