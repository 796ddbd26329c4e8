-- What the rows of a replay tell of its requests.
use Rattle.std.specs.Prelude.{◌≡◌, ◌≤◌, ◌<◌, ℕ, ◌+◌, ◌==◌, true, List, filter, length, map, Some, slice_get}
use Rattle.std.specs.List.{range_with_len}
use Rattle.ddr_timing.specs.declared.config.Config.{Config}
use Rattle.ddr_latency.specs.Bound.{latency, leaves_room}
use Rattle.ddr_address_map.specs.Requests.{Request}
use Rattle.ddr_ports.specs.Asked.{echo_of}
use Rattle.ddr_channel.specs.Cycle.{service_time}
use Rattle.ddr_channel.specs.History as channel
use Rattle.ddr_channel.specs.History.{Owner}
use Rattle.ddr_world.specs.History.{Answered, Whereabouts, begun, run}
use Rattle.ddr_world.specs.Promise.{request_there}
use Rattle.ddr_world.specs.Record.{IsRecord}
use Rattle.ddr_core_deadline.specs.InCore.{calls_of}
use Rattle.ddr_stream.specs.Asks.{asked_by}
use Rattle.ddr_ledger.specs.declared.released.ReleasedRequest.{ReleasedRequest}
use Rattle.ddr_replay.specs.Runs.{Run}
use Rattle.ddr_replay_deadline.specs.InReplay.{replay_opening}
use Rattle.ddr_replay_deadline.specs.Waits.{acceptances, longest_wait}

-- what the calls that the events make of a channel make of it
abbrev pub channel_by : Config → List Answered → ℕ → channel.History
channel_by config events c = channel.run config 0 (calls_of c (begun (replay_opening config)) events)

-- By the events, the row is that of its port's request of its number, and tells when that was accepted and when it was served.
pub record IsRowOf (config : Config) (events : List Answered) (row : ReleasedRequest) : Type 0 where
  -- the channel of the request, and its place in the acceptance list
  pub at : Whereabouts
  pub sent : slice_get ((run (replay_opening config) events).sent row.port) row.number ≡ Some at
  pub request : Request
  pub there : request_there (run (replay_opening config) events) at ≡ Some request
  pub asked : request.echo ≡ echo_of (asked_by row.ask)
  pub port : request.port ≡ row.port
  pub number : request.number ≡ row.number
  -- the channel's queue accepted it at this clock
  pub accepted : slice_get (acceptances at.channel (begun (replay_opening config)) events) at.place ≡ Some row.accepted
  -- and its column command came in this cycle
  pub column : ℕ
  pub owner : Owner
  pub owned : slice_get (channel_by config events at.channel).owners column ≡ Some owner
  pub place : owner.place ≡ at.place
  pub issued : owner.cycle ≡ row.issued
  pub due : row.due ≡ row.issued + service_time config row.ask.kind

-- it was accepted, read or written, complete, and its reply was released, in that order
pub record IsInOrder (row : ReleasedRequest) : Type 0 where
  pub issued : row.accepted ≤ row.issued
  pub due : row.issued < row.due
  pub released : row.due ≤ row.released

-- from its acceptance to its completion it took fewer clocks than a request may wait in the queue and then take in the channel
abbrev pub IsRowInTime : Config → ReleasedRequest → Type 0
IsRowInTime config row = row.due < row.accepted + (longest_wait config + latency config)

pub record TellsRow (config : Config) (events : List Answered) (row : ReleasedRequest) : Type 0 where
  pub is_row : IsRowOf config events row
  pub in_order : IsInOrder row
  -- where each refresh interval leaves time to serve a request
  pub in_time : leaves_room config ≡ true → IsRowInTime config row

-- the rows of a port, in the order in which its replies were released
abbrev pub rows_of : ℕ → List ReleasedRequest → List ReleasedRequest
rows_of p rows = filter (λ row. row.port == p) rows

-- These events made the state of the run, each answered as it may be, and by them each row tells of a request.
pub record TellsRows (config : Config) (events : List Answered) (last : Run) : Type 0 where
  pub is_record : IsRecord (begun (replay_opening config)) events
  pub state : (run (replay_opening config) events).state ≡ last.state
  pub rows : (place : ℕ) (row : ReleasedRequest) → slice_get last.ledger.served place ≡ Some row → TellsRow config events row
  -- and where rows are kept, there is one of each request whose reply was released, in the order of their numbers
  pub whole : last.ledger.keeps ≡ true → (p : ℕ) → map (λ row. row.number) (rows_of p last.ledger.served) ≡ range_with_len 0 (length ((run (replay_opening config) events).taken p))
