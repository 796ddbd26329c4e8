-- The closing of a system: which ends it takes, what each refusal means, and what it gives.
use Rattle.std.specs.Prelude.{◌≡◌, ℕ, ◌==◌, Bool, true, false, not, ◌||◌, List, [], ◌∷◌, length, map, filter, flat_map, Option, Some, IfSome, IsPermutation, slice_get}
use Rattle.std.specs.List.{list_any, list_all, range_with_len}
use Rattle.ddr_address_map.specs.Requests as records
use Rattle.ddr_trace.specs.declared.checker.Fault.{Fault}
use Rattle.ddr_trace.specs.Traces.{Recorded}
use Rattle.ddr_workers.specs.declared.closing.CloseError.{CloseError}
use Rattle.ddr_workers.specs.declared.closing.CloseError.TheVariants.{Foreign, Missing, OutOfMemory}
use Rattle.ddr_workers.specs.declared.closing.Ends.{Ends}
use Rattle.ddr_workers.specs.Headline.{AreJoined, GotAll, accepted_by}
use Rattle.ddr_workers.specs.Judged.{IsJudged}
use Rattle.ddr_workers.specs.Port.{PortState, PortEnded, IsEndOfPort}
use Rattle.ddr_workers.specs.Sides.{put_id}
use Rattle.ddr_workers.specs.Worker.{WorkerState, WorkerEnded, IsEndOf, IsWorkDone, requests_of}

-- Of the channel's queue the worker has the take side and the port the put side of its number, and of the port's queue the
-- other way round.
pub record AreOpposite (e : PortEnded) (w : WorkerEnded) : Type 0 where
  pub requests : slice_get (map (λ side. side.who) e.requests) w.number ≡ Some (put_id w.requests.who e.port)
  pub completions : slice_get (map (λ side. side.who) w.completions) e.port ≡ Some (put_id e.completions.who w.number)
  -- the port's queue has a put side for each channel that the port leads to
  pub channels : e.completions.who.count ≡ length e.requests

-- The ends that carry this id come from one call of `open`: any port and any worker of it are at the two ends of the same queues.
abbrev pub AreOfOneOpen : ℕ → List PortEnded → List WorkerEnded → Type 0
AreOfOneOpen id ports workers =
    (k m : ℕ) (e : PortEnded) (w : WorkerEnded) → slice_get ports k ≡ Some e → slice_get workers m ≡ Some w → e.id ≡ id → w.id ≡ id → AreOpposite e w

-- each end is that of the port, or of the worker, of its number
pub record AreEndsOf (ports : List PortState) (workers : List WorkerState) (port_ends : List PortEnded) (worker_ends : List WorkerEnded) : Type 0 where
  pub port : (k : ℕ) (e : PortEnded) → slice_get port_ends k ≡ Some e → (s : PortState) × (slice_get ports e.port ≡ Some s) × IsEndOfPort s e
  pub worker : (k : ℕ) (w : WorkerEnded) → slice_get worker_ends k ≡ Some w → (s : WorkerState) × (slice_get workers w.number ≡ Some s) × IsEndOf s w

-- place by place the elements of two lists belong together so
abbrev pub AreMatched : {X Y : Type 0} → (X → Y → Type 0) → List X → List Y → Type 0
AreMatched R [] [] = Unit {0}
AreMatched R (x ∷ xs) (y ∷ ys) = R x y × AreMatched R xs ys
AreMatched R xs ys = ⊥

-- the ends are those of all ports and of all workers, in their order
pub record AreAllEnds (ports : List PortState) (workers : List WorkerState) (port_ends : List PortEnded) (worker_ends : List WorkerEnded) : Type 0 where
  pub port : AreMatched IsEndOfPort ports port_ends
  pub worker : AreMatched IsEndOf workers worker_ends

-- refusals

-- one of them has this number
abbrev pub has_number : {X : Type 0} → (X → ℕ) → ℕ → List X → Bool
has_number key n xs = list_any (λ x. key x == n) xs

-- two of them have the same number
abbrev pub has_twice : {X : Type 0} → (X → ℕ) → List X → Bool
has_twice key [] = false
has_twice key (x ∷ xs) = has_number key (key x) xs || has_twice key xs

-- each number below the count is that of one of them
abbrev pub has_each : {X : Type 0} → (X → ℕ) → ℕ → List X → Bool
has_each key count xs = list_all (λ n. has_number key n xs) (range_with_len 0 count)

abbrev pub port_of : PortEnded → ℕ
port_of e = e.port

abbrev pub channel_of : WorkerEnded → ℕ
channel_of w = w.number

-- an end carries another id, or a port or a channel stands twice
abbrev pub is_foreign : ℕ → List PortEnded → List WorkerEnded → Bool
is_foreign id ports workers =
    list_any (λ e. not (e.id == id)) ports || (list_any (λ w. not (w.id == id)) workers || (has_twice port_of ports || has_twice channel_of workers))

-- there is no port's end or no worker's, or a port leads to a channel that has no end, or a channel to a port that has none
abbrev pub is_missing : List PortEnded → List WorkerEnded → Bool
is_missing ports workers =
    length ports == 0 || (length workers == 0 || (list_any (λ e. not (has_each channel_of (length e.requests) workers)) ports
    || list_any (λ w. not (has_each port_of (length w.completions) ports)) workers))

-- The ends may be closed together, and no refusal but want of memory applies.
pub record AreComplete (id : ℕ) (ports : List PortEnded) (workers : List WorkerEnded) : Type 0 where
  pub one : AreOfOneOpen id ports workers
  pub own : is_foreign id ports workers ≡ false
  pub whole : is_missing ports workers ≡ false

-- all ends come back as they were
pub record AreBack (ports : List PortEnded) (workers : List WorkerEnded) (ends : Ends) : Type 0 where
  pub ports_are : ends.ports.items ≡ ports
  pub workers_are : ends.workers.items ≡ workers

-- The ends are not closed, for this cause: the first that applies
abbrev pub IsNotClosed : ℕ → List PortEnded → List WorkerEnded → CloseError → Type 0
IsNotClosed id ports workers (Foreign ends) = (is_foreign id ports workers ≡ true) × AreBack ports workers ends
IsNotClosed id ports workers (Missing ends) = (is_foreign id ports workers ≡ false) × (is_missing ports workers ≡ true) × AreBack ports workers ends
IsNotClosed id ports workers (OutOfMemory ends) = (is_foreign id ports workers ≡ false) × (is_missing ports workers ≡ false) × AreBack ports workers ends

-- what is given

-- the requests of a port that were accepted, channel by channel
abbrev pub accepted_of : List WorkerEnded → ℕ → List records.Request
accepted_of workers p = flat_map (λ w. filter (λ r. r.port == p) (requests_of w.requests.took)) workers

-- of each port how many of its requests were accepted and how many replies it gave up, and of each channel the trace, where it was
-- kept, and its first fault
pub record Left : Type 0 where
  pub accepted : List ℕ
  pub taken : List ℕ
  pub traces : List (Option Recorded)
  pub faults : List (Option Fault)

-- What is given where every queue of ports and workers was joined, which stand in the order of their numbers
pub record IsEmptied (ports : List PortEnded) (workers : List WorkerEnded) (left : Left) : Type 0 where
  -- what each side took is what the opposite sides pushed, and nothing is left
  pub joined : AreJoined ports workers (λ p. [])
  -- each port got the right reply to each of its requests, once
  pub got : (p : ℕ) (e : PortEnded) → slice_get ports p ≡ Some e → GotAll (accepted_by workers) p e
  -- each worker admitted, answered and traced rightly under the configuration of its channel: its trace is legal and refreshed
  pub work : (c : ℕ) (w : WorkerEnded) → slice_get workers c ≡ Some w → IsWorkDone w.config w
  -- as many requests of each port were accepted as replies were given up
  pub accepted : left.accepted ≡ map (λ p. length (accepted_of workers p)) (range_with_len 0 (length ports))
  pub taken : left.taken ≡ map (λ e. e.taken) ports
  pub same : left.accepted ≡ left.taken
  -- of each channel its trace, where it was kept, and what its judge says of it
  pub traces : left.traces ≡ map (λ w. w.kept) workers
  pub kept : (c : ℕ) (w : WorkerEnded) → slice_get workers c ≡ Some w → IfSome w.kept (λ t. t ≡ w.trace)
  pub faults : left.faults ≡ map (λ w. w.fault) workers
  pub judged : (c : ℕ) (w : WorkerEnded) → slice_get workers c ≡ Some w → IsJudged w.config w.trace w.fault

-- No end is refused, and every queue was joined
pub record IsClosed (id : ℕ) (ports : List PortEnded) (workers : List WorkerEnded) (left : Left) : Type 0 where
  pub own : is_foreign id ports workers ≡ false
  pub whole : is_missing ports workers ≡ false
  -- the ends in the order of their numbers
  pub by_port : List PortEnded
  pub by_channel : List WorkerEnded
  pub ports_are : IsPermutation ports by_port
  pub workers_are : IsPermutation workers by_channel
  pub emptied : IsEmptied by_port by_channel left
