-- What holds of ports and workers once their queues were joined: each port got the right reply to each of its requests,
-- once.
use Rattle.std.specs.Prelude.{◌≡◌, ℕ, ◌<◌, ◌==◌, List, [], ◌∷◌, ◌++◌, All, length, take, filter, Some, slice_get}
use Rattle.std.specs.Option.{option_map_or}
use Rattle.ddr_address_map.specs.Requests as records
use Rattle.ddr_address_map.specs.Requests.{Completion}
use Rattle.ddr_world.specs.Promise as core
use Rattle.ddr_workers.specs.declared.completions.Delivery.{Delivery}
use Rattle.ddr_world.specs.declared.item.Item.{Item}
use Rattle.ddr_workers.specs.declared.requests.Route.{Route}
use Rattle.ddr_workers.specs.Completions.{of_channel, source_of}
use Rattle.ddr_workers.specs.Ended.{IsEnded, IsWorkerEnded}
use Rattle.ddr_workers.specs.Port.{PortEnded, reply_of}
use Rattle.ddr_workers.specs.Requests.{of_port}
use Rattle.ddr_workers.specs.Sides.{PutSide}
use Rattle.ddr_workers.specs.Worker.{WorkerEnded, requests_of}

-- Ports and workers in the order of their numbers, each of whose queues was joined: of each port and channel, what one
-- side took, with what was left, is what the other side pushed. In the request queues nothing was left.
pub record AreJoined (ports : List PortEnded) (workers : List WorkerEnded) (left : ℕ → List Completion) : Type 0 where
  pub port : (p : ℕ) (e : PortEnded) → slice_get ports p ≡ Some e → (e.port ≡ p) × IsEnded e
  pub worker : (c : ℕ) (w : WorkerEnded) → slice_get workers c ≡ Some w → (w.number ≡ c) × IsWorkerEnded w
  pub channels : (p : ℕ) (e : PortEnded) → slice_get ports p ≡ Some e → length e.requests ≡ length workers
  pub ports_are : (c : ℕ) (w : WorkerEnded) → slice_get workers c ≡ Some w → length w.completions ≡ length ports
  pub requests : (p c : ℕ) (e : PortEnded) (w : WorkerEnded) (side : PutSide Route Item) → slice_get ports p ≡ Some e → slice_get workers c ≡ Some w
      → slice_get e.requests c ≡ Some side → of_port p w.requests.took ≡ side.put
  pub completions : (p c : ℕ) (e : PortEnded) (w : WorkerEnded) (side : PutSide Delivery Completion) → slice_get ports p ≡ Some e → slice_get workers c ≡ Some w
      → slice_get w.completions p ≡ Some side → of_channel e.completions.who.queue.purpose c (e.completions.took ++ left p) ≡ side.put
  pub delivered : (p : ℕ) (e : PortEnded) → slice_get ports p ≡ Some e → All (λ d. source_of e.completions.who.queue.purpose d < length workers) (e.completions.took ++ left p)

-- the acceptance list of a channel: the requests that its worker took, in order
abbrev pub accepted_by : List WorkerEnded → ℕ → List records.Request
accepted_by workers c = option_map_or (λ w. requests_of w.requests.took) (slice_get workers c) []

-- The number is that of one request, and one completion came for it: the right reply, by the requests accepted before it.
pub record IsReplied (accepted : ℕ → List records.Request) (p : ℕ) (dones : List Completion) (n : ℕ) : Type 0 where
  pub channel : ℕ
  pub place : ℕ
  pub request : records.Request
  pub there : slice_get (accepted channel) place ≡ Some request
  pub port : request.port ≡ p
  pub number : request.number ≡ n
  pub done : Completion
  pub once : filter (λ d. d.number == n) dones ≡ done ∷ []
  pub reply : reply_of done ≡ core.reply_of (take place (accepted channel)) request

-- What a port got, by the acceptance lists
pub record GotAll (accepted : ℕ → List records.Request) (p : ℕ) (e : PortEnded) : Type 0 where
  -- a request of the port is numbered below those that it gave up, and no other has its number
  pub numbered : (c place : ℕ) (r : records.Request) → slice_get (accepted c) place ≡ Some r → r.port ≡ p → r.number < e.taken
  pub one : (c d place other : ℕ) (r q : records.Request) → slice_get (accepted c) place ≡ Some r → slice_get (accepted d) other ≡ Some q → r.port ≡ p → q.port ≡ p
      → r.number ≡ q.number → (c ≡ d) × (place ≡ other)
  pub replied : (n : ℕ) → n < e.taken → IsReplied accepted p e.completions.took n
