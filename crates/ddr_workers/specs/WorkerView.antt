-- What the fields of a worker stand for, and what they keep.
use Rattle.std.specs.Prelude.{◌≡◌, ℕ, ◌+◌, ◌<◌, ◌≤◌, false, List, All, length, IfSome, Some, slice_get, slice_index_or}
use Rattle.std.specs.Option.{option_to_list}
use Rattle.ddr_timing.specs.declared.geometry.Geometry.{Geometry}
use Rattle.ddr_address_map.specs.Requests as records
use Rattle.ddr_address_map.specs.Requests.{Completion}
use Rattle.ddr_channel.specs.History.{Call, History, begun, run}
use Rattle.ddr_channel.specs.Kept.{Kept}
use Rattle.ddr_channel.specs.Promise.{StandsFor}
use Rattle.ddr_workers.specs.declared.completions.Delivery.{Delivery}
use Rattle.ddr_workers.specs.declared.requests.Route.{Route}
use Rattle.ddr_workers.specs.declared.worker.Worker.TheInside.{Inside}
use Rattle.ddr_workers.specs.declared.worker.WorkerEnd.TheInside as end_inside
use Rattle.ddr_workers.specs.Completions.{IsFrom}
use Rattle.ddr_workers.specs.Requests.{IsPlaced, has_end, of_port}
use Rattle.ddr_workers.specs.Sides.{PutSide}
use Rattle.ddr_workers.specs.Worker.{WorkerState, WorkerEnded, AreBusy, AreSent, refused_pushes, requests_of, unused_cycles}

abbrev pub state_of : Inside → WorkerState
state_of a = record {
  id = a.id;
  number = a.number;
  channel = a.channel;
  requests = a.requests;
  completions = a.completions.items;
  held = a.held;
  noted = a.noted.items;
}

abbrev pub ended_of : end_inside.Inside → WorkerEnded
ended_of a = record { id = a.id; number = a.number; config = a.config; requests = a.requests; completions = a.completions.items; trace = a.commands.trace; kept = a.commands.kept; fault = a.commands.fault }

-- what the calls since `open` make of the channel
abbrev pub history_of : Kept → List Call → History
history_of k calls = run k.config k.start calls

-- the side is this channel's, and leads to that port
pub record IsSideOf (geometry : Geometry) (number port : ℕ) (side : PutSide Delivery Completion) : Type 0 where
  pub source : side.who.source ≡ number
  pub delivery : side.who.queue.purpose ≡ record { geometry = geometry; port = port }

-- the request is of one of the ports, and of this channel
pub record IsTaken (route : Route) (ports : ℕ) (r : records.Request) : Type 0 where
  pub port : r.port < ports
  pub placed : IsPlaced route r

-- the completion is for one of the ports, and of this channel
pub record IsGiven (route : Route) (ports : ℕ) (d : Completion) : Type 0 where
  pub port : d.port < ports
  pub from : IsFrom (record { geometry = route.geometry; port = d.port }) route.channel d

-- how many cycles were made without work
abbrev pub unused_in : WorkerState → List Call → ℕ
unused_in w calls = unused_cycles (begun w.channel.config w.channel.start) calls

-- how many completions are done and not pushed
abbrev pub unsent : WorkerState → ℕ
unsent w = length w.channel.done + length (option_to_list w.held)

-- What the channel's calls were
pub record StandsAt (w : WorkerState) (calls : List Call) : Type 0 where
  pub stands : StandsFor w.channel calls
  pub busy : AreBusy (begun w.channel.config w.channel.start) calls
  pub admitted : (history_of w.channel calls).accepted ≡ requests_of w.requests.took
  pub sent : AreSent (history_of w.channel calls).popped (option_to_list w.held) w.completions
  -- each cycle without work has its refused push, and so has each completion that isn't pushed, but for the newest
  pub unused : unused_in w calls ≤ refused_pushes w.completions
  pub left : unused_in w calls + unsent w ≤ refused_pushes w.completions + 1

-- In this turn it has tried to push what was done, if anything was: now each completion that isn't pushed has its refused push
pub record HasTried (w : WorkerState) : Type 0 where
  pub calls : List Call
  pub at_work : StandsAt w calls
  pub tried : unused_in w calls + unsent w ≤ refused_pushes w.completions

-- What every worker keeps
pub record IsWhole (w : WorkerState) : Type 0 where
  pub calls : List Call
  pub at_work : StandsAt w calls
  pub route : w.requests.who.queue.purpose ≡ record { geometry = w.channel.config.geometry; channel = w.number }
  pub ports : w.requests.who.count ≡ length w.completions
  pub sides : (p : ℕ) (side : PutSide Delivery Completion) → slice_get w.completions p ≡ Some side → IsSideOf w.channel.config.geometry w.number p side
  pub taken : All (IsTaken w.requests.who.queue.purpose (length w.completions)) (requests_of w.requests.took)
  pub held : IfSome w.held (IsGiven w.requests.who.queue.purpose (length w.completions))
  pub noted_ports : length w.noted ≡ length w.completions
  pub noted : (p : ℕ) → p < length w.completions → slice_index_or w.noted p false ≡ has_end (of_port p w.requests.took)
