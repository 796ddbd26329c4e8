-- What contracts see of a worker, and what a worker did with the requests that it took.
use Rattle.std.specs.Prelude.{◌≡◌, ℕ, ◌+◌, ◌<◌, ◌≤◌, ◌==◌, if◌then◌else◌, Bool, true, List, [], ◌∷◌, ◌++◌, All, length, filter, map, sum_by, Option, Some, None, IsPermutation, IsTrue, slice_get}
use Rattle.std.specs.List.{range_with_len}
use Rattle.std.specs.Option.{is_some, option_to_list}
use Rattle.ddr_timing.specs.declared.config.Config.{Config}
use Rattle.ddr_trace.specs.declared.checker.Fault.{Fault}
use Rattle.ddr_trace.specs.Commands.{is_column}
use Rattle.ddr_trace.specs.Legality.{IsLegal, IsRefreshed}
use Rattle.ddr_trace.specs.Traces.{Recorded}
use Rattle.ddr_address_map.specs.Requests as records
use Rattle.ddr_address_map.specs.Requests.{Completion}
use Rattle.ddr_channel.specs.declared.channel.CycleError.{CycleError}
use Rattle.ddr_channel.specs.declared.channel.CycleError.TheVariants as cycle
use Rattle.ddr_channel.specs.History.{Call, Admit, Cycle, Pop, History, Owner, begun, after_call, run}
use Rattle.ddr_channel.specs.Kept.{Kept, state_of}
use Rattle.ddr_channel.specs.Promise.{KeepsPromise, right_answer, owned_entry}
use Rattle.ddr_channel.specs.Room.{wants_memory}
use Rattle.ddr_channel.specs.State.{State}
use Rattle.ddr_workers.specs.declared.completions.Delivery.{Delivery}
use Rattle.ddr_world.specs.declared.item.Item.{Item}
use Rattle.ddr_world.specs.declared.item.Item.TheVariants.{Request, End}
use Rattle.ddr_workers.specs.declared.requests.Route.{Route}
use Rattle.ddr_workers.specs.declared.worker.Cause.{Cause}
use Rattle.ddr_workers.specs.declared.worker.Cause.TheVariants.{ClockSpent, OutOfMemory}
use Rattle.ddr_workers.specs.Requests.{has_end, of_port}
use Rattle.ddr_workers.specs.Sides.{PutSide, TakeSide}

pub record WorkerState : Type 0 where
  -- by which call it was opened
  pub id : ℕ
  -- which channel it drives
  pub number : ℕ
  pub channel : Kept
  -- the side from which the ports' requests and Ends are popped
  pub requests : TakeSide Route Item
  -- of each port the side on which its completions are pushed
  pub completions : List (PutSide Delivery Completion)
  -- a completion that the channel gave out, and that is not pushed yet
  pub held : Option Completion
  -- of each port, whether its End came
  pub noted : List Bool

-- the requests among the items, in order
abbrev pub requests_of : List Item → List records.Request
requests_of [] = []
requests_of (Request r ∷ items) = r ∷ requests_of items
requests_of (End p ∷ items) = requests_of items

-- the completions for a port, in order
abbrev pub to_port : ℕ → List Completion → List Completion
to_port p dones = filter (λ d. d.port == p) dones

-- These completions, in this order, were pushed for their ports, but for those that are held
pub record AreSent (dones held : List Completion) (sides : List (PutSide Delivery Completion)) : Type 0 where
  pub sent : (p : ℕ) (side : PutSide Delivery Completion) → slice_get sides p ≡ Some side → to_port p dones ≡ side.put ++ to_port p held
  pub ports : All (λ d. d.port < length sides) dones

-- the channel holds no request and no completion
abbrev pub IsIdle : State → Type 0
IsIdle s = (s.pending ≡ []) × (s.flight ≡ []) × (s.done ≡ [])

-- Each cycle was made while the channel held something: its clock stood still while it held nothing
abbrev pub IsBusy : History → Call → Type 0
IsBusy h (Admit r) = Unit {0}
IsBusy h Cycle = IsIdle h.state → ⊥
IsBusy h Pop = Unit {0}

abbrev pub AreBusy : History → List Call → Type 0
AreBusy h [] = Unit {0}
AreBusy h (call ∷ calls) = IsBusy h call × AreBusy (after_call h call) calls

-- nothing is pending or in flight: all that the channel may hold are completions that are done
abbrev pub is_without_work : State → Bool
is_without_work s = length s.pending + length s.flight == 0

-- one for a cycle that was made so
abbrev pub unused : History → Call → ℕ
unused h (Admit r) = 0
unused h Cycle = if is_without_work h.state then 1 else 0
unused h Pop = 0

-- how many cycles were made while nothing was pending or in flight
abbrev pub unused_cycles : History → List Call → ℕ
unused_cycles h [] = 0
unused_cycles h (call ∷ calls) = unused h call + unused_cycles (after_call h call) calls

-- how many pushes found their queue full
abbrev pub refused_pushes : List (PutSide Delivery Completion) → ℕ
refused_pushes sides = sum_by (λ side. side.full) sides

-- What a worker has done is a history of its channel: the requests that it took were admitted, in order, and the
-- completions that the channel gave out were pushed, but for one that may be held. What the channel promises of
-- such a history holds: each request that was taken is held, pending or has its one completion, the right one.
pub record IsAtWork (w : WorkerState) : Type 0 where
  pub calls : List Call
  pub history : History
  pub made : history ≡ run w.channel.config w.channel.start calls
  pub busy : AreBusy (begun w.channel.config w.channel.start) calls
  -- the clock waits for no port: a cycle without work is made only as a push was refused
  pub unused : unused_cycles (begun w.channel.config w.channel.start) calls ≤ refused_pushes w.completions
  pub state : state_of w.channel ≡ history.state
  pub admitted : history.accepted ≡ requests_of w.requests.took
  pub sent : AreSent history.popped (option_to_list w.held) w.completions
  pub promise : KeepsPromise history

-- the cause for which a cycle was not made
abbrev pub cause_of : CycleError → Cause
cause_of cycle.ClockSpent = ClockSpent
cause_of cycle.OutOfMemory = OutOfMemory

-- a channel in this state wanted memory for its next cycle
pub record WantedMemory (k : Kept) : Type 0 where
  pub before : Kept
  pub same : state_of before ≡ state_of k
  pub wanted : IsTrue (wants_memory before)

-- It is still the worker of that channel, over the same queues.
pub record IsSameWorker (w w' : WorkerState) : Type 0 where
  pub id : w'.id ≡ w.id
  pub number : w'.number ≡ w.number
  pub config : w'.channel.config ≡ w.channel.config
  pub start : w'.channel.start ≡ w.channel.start
  pub keeps : w'.channel.keeps ≡ w.channel.keeps
  pub requests : w'.requests.who ≡ w.requests.who
  pub completions : map (λ side. side.who) w'.completions ≡ map (λ side. side.who) w.completions

-- Each port's End came, and nothing is held or left in the channel.
pub record HasNothing (w : WorkerState) : Type 0 where
  pub ends : (p : ℕ) → p < length w.completions → has_end (of_port p w.requests.took) ≡ true
  pub held : w.held ≡ None
  pub pending : w.channel.pending ≡ []
  pub flight : w.channel.flight ≡ []
  pub done : w.channel.done ≡ []

-- What a worker leaves at its end: the configuration and the commands of its channel, kept or not, what its judge says of them, and the
-- sides of its queues
pub record WorkerEnded : Type 0 where
  pub id : ℕ
  pub number : ℕ
  pub config : Config
  pub requests : TakeSide Route Item
  pub completions : List (PutSide Delivery Completion)
  pub trace : Recorded
  pub kept : Option Recorded
  pub fault : Option Fault

-- It is the end of that worker.
pub record IsEndOf (w : WorkerState) (e : WorkerEnded) : Type 0 where
  pub id : e.id ≡ w.id
  pub number : e.number ≡ w.number
  pub config : e.config ≡ w.channel.config
  pub start : e.trace.start ≡ w.channel.start
  -- the trace is handed out where the channel kept it
  pub keeps : is_some e.kept ≡ w.channel.keeps
  pub requests : e.requests.who ≡ w.requests.who
  pub completions : map (λ side. side.who) e.completions ≡ map (λ side. side.who) w.completions

-- By its end each port's End came, and each request that the worker took has its one completion.
pub record IsWorkDone (config : Config) (e : WorkerEnded) : Type 0 where
  pub ends : (p : ℕ) → p < length e.completions → has_end (of_port p e.requests.took) ≡ true
  -- each request owns one column command
  pub owners : List Owner
  pub each_once : IsPermutation (range_with_len 0 (length (requests_of e.requests.took))) (map (λ o. o.place) owners)
  -- the column commands of the trace are those, one each
  pub commands : map Some (filter (λ entry. is_column entry.command) e.trace.entries) ≡ map (owned_entry (requests_of e.requests.took)) owners
  -- the completions are the right answers to them, one each, and were pushed for their ports
  pub dones : List Completion
  pub answers : map Some dones ≡ map (right_answer config (requests_of e.requests.took)) owners
  pub sent : AreSent dones [] e.completions
  -- the trace is legal, and refreshed in time
  pub legal : IsLegal config e.trace.start e.trace.end e.trace.entries
  pub refreshed : IsRefreshed config e.trace.start e.trace.end e.trace.entries
  -- its channel's calls: by the scheduler's definition they admit these requests, and make this trace, these completions
  -- and this clock
  pub calls : List Call
  pub admitted : (run config e.trace.start calls).accepted ≡ requests_of e.requests.took
  pub popped : dones ≡ (run config e.trace.start calls).popped
  pub entries : e.trace.entries ≡ (run config e.trace.start calls).state.trace
  pub clock : e.trace.end ≡ (run config e.trace.start calls).state.now
  pub busy : AreBusy (begun config e.trace.start) calls
  pub unused : unused_cycles (begun config e.trace.start) calls ≤ refused_pushes e.completions
