-- All ports and workers of a run in threads: what each seat holds before, and what it holds afterwards.
use Rattle.std.specs.Prelude.{◌≡◌, ℕ, ◌+◌, List, [], ◌∷◌, ◌++◌, map, Option, Some, None, Result, Ok, Err, slice_get, string_bytes}
use Rattle.std.specs.List.{filter_map, fold}
use Rattle.ddr_workers.specs.declared.worker.Cause.{Cause}
use Rattle.ddr_workers.specs.declared.worker.Cause.TheVariants as causes
use Rattle.ddr_workers.specs.declared.worker.Stopped.{Stopped}
use Rattle.ddr_workers.specs.Closing.{AreMatched}
use Rattle.ddr_workers.specs.Port.{PortState, IsEndOfPort}
use Rattle.ddr_timing.specs.declared.units.TheConstants.{CLOCK_STOP}
use Rattle.ddr_workers.specs.Worker.{WorkerState, WorkerEnded, IsEndOf, IsSameWorker}
use Rattle.ddr_run.specs.declared.flag.Stop.{Stop}
use Rattle.ddr_run.specs.declared.flag.Stop.TheVariants as stops
use Rattle.ddr_run.specs.declared.hosting.Hosted.{Hosted}
use Rattle.ddr_run.specs.declared.threads.Seat.{Seat}
use Rattle.ddr_run.specs.declared.threads.Seat.TheVariants as seats
use Rattle.ddr_run.specs.declared.threads.Ended.{Ended}
use Rattle.ddr_run.specs.Hosting.{AreAsked, IsNewPort, asks_of, replies_text}
use Rattle.ddr_text.specs.Script.{Instruction}

-- each port is a new one, with the number of its place
abbrev pub AreNewPorts : List PortState → Type 0
AreNewPorts ports = (k : ℕ) (p : PortState) → slice_get ports k ≡ Some p → IsNewPort k p

-- the seats of ports, whose numbers go on from this one
abbrev pub port_seats : ℕ → List PortState → List Seat
port_seats number [] = []
port_seats number (port ∷ more) = seats.Port number port ∷ port_seats (number + 1) more

-- the seats before any thread begins: those of the workers, and then those of the ports
abbrev pub seats_of : List PortState → List WorkerState → List Seat
seats_of ports workers = map seats.Worker workers ++ port_seats 0 ports

-- before its thread begins a seat holds a worker, or a new port with the seat's number
abbrev pub IsNewSeat : Seat → Type 0
IsNewSeat (seats.Port number port) = IsNewPort number port
IsNewSeat (seats.Worker worker) = Unit {0}
IsNewSeat (seats.PortEnd hosted) = ⊥
IsNewSeat (seats.WorkerEnd end) = ⊥
IsNewSeat (seats.Stopped stop) = ⊥

-- What a port's thread leaves: the port's end, after it was asked for what the script says, and the text of its replies
pub record IsHostedFrom (instructions : List Instruction) (port : PortState) (h : Hosted) : Type 0 where
  pub end : IsEndOfPort port h.end
  pub asked : AreAsked port.core.geometry h.end.port (asks_of h.end.port instructions) h.end
  pub text : string_bytes h.text ≡ replies_text h.end.port h.end.completions.took h.end.taken

-- why a worker's thread stopped: the clock of its channel is spent where that is said
abbrev pub HasLeft : WorkerState → Stop → Type 0
HasLeft worker stops.ClockSpent = (left : WorkerState) × IsSameWorker worker left × (left.channel.now ≡ CLOCK_STOP)
HasLeft worker stop = Unit {0}

-- what a thread leaves of its seat: the end of the port or of the worker that it held, unless it stopped before
abbrev pub Serves : List Instruction → Seat → Seat → Type 0
Serves instructions (seats.Port number port) (seats.PortEnd hosted) = IsHostedFrom instructions port hosted
Serves instructions (seats.Port number port) (seats.Stopped stop) = Unit {0}
Serves instructions (seats.Worker worker) (seats.WorkerEnd end) = IsEndOf worker end
Serves instructions (seats.Worker worker) (seats.Stopped stop) = HasLeft worker stop
Serves instructions before after = ⊥

-- why a worker's thread stopped
abbrev pub stop_of : Cause → Stop
stop_of causes.OutOfMemory = stops.OutOfMemory
stop_of causes.ClockSpent = stops.ClockSpent
stop_of causes.Told = stops.Told

-- the seat of a worker's thread, once the worker came to its end or stopped before
abbrev pub seat_after : Result WorkerEnded Stopped → Seat
seat_after (Ok end) = seats.WorkerEnd end
seat_after (Err left) = seats.Stopped (stop_of left.cause)

-- the end that a seat holds, or why its thread stopped before its end
abbrev pub hosted_in : Seat → Option Hosted
hosted_in (seats.PortEnd hosted) = Some hosted
hosted_in seat = None

abbrev pub ended_in : Seat → Option WorkerEnded
ended_in (seats.WorkerEnd end) = Some end
ended_in seat = None

abbrev pub stop_in : Seat → Option Stop
stop_in (seats.Stopped stop) = Some stop
stop_in seat = None

-- Why threads stopped, with one more: the first cause stays, but that a thread was told to stop gives way to the next.
abbrev pub cause_after : Option Stop → Stop → Option Stop
cause_after None stop = Some stop
cause_after (Some stops.Told) stop = Some stop
cause_after (Some stops.OutOfMemory) stop = Some stops.OutOfMemory
cause_after (Some stops.ClockSpent) stop = Some stops.ClockSpent
cause_after (Some stops.PortBroken) stop = Some stops.PortBroken
cause_after (Some stops.ThreadsRefused) stop = Some stops.ThreadsRefused

abbrev pub first_cause : List Stop → Option Stop
first_cause stops = fold cause_after None stops

-- Every thread came to its end: the ends of ports and of workers stand in the order of what they are the ends of.
pub record AreEnded (ports : List PortState) (workers : List WorkerState) (instructions : List Instruction) (e : Ended) : Type 0 where
  pub hosted : AreMatched (IsHostedFrom instructions) ports e.ports.items
  pub worked : AreMatched IsEndOf workers e.workers.items

-- A thread stopped before its end: what each left is there, in the order of seats, and why the first of them did that was
-- not told to is said, or else that they were told.
pub record HasStopped (ports : List PortState) (workers : List WorkerState) (instructions : List Instruction) (stop : Stop) : Type 0 where
  pub after : List Seat
  pub served : AreMatched (Serves instructions) (seats_of ports workers) after
  pub first : first_cause (filter_map stop_in after) ≡ Some stop
