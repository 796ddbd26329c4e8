-- The core's promise, over every record of events: which replies each port has a right to, and that it takes
-- the first of them, in order.
use Rattle.std.specs.Prelude.{◌≡◌, ◌≢◌, ℕ, ◌+◌, ◌/◌, ◌%◌, Bool, true, false, ◌&&◌, ◌==◌, ◌⊎◌, List, [], ◌∷◌, ◌++◌, length, take, map, fold, if◌then◌else◌, slice_get, slice_index, Option, Some, Err, IfOk, IfSome, IsErr}
use Rattle.std.specs.List.{All, range_with_len}
use Rattle.std.specs.Int.{bit_at}
use Rattle.std.specs.Option.{option_map, option_map_or}
use Rattle.ddr_timing.specs.declared.units.TheConstants.{LINE_BYTES}
use Rattle.ddr_trace.specs.declared.command.Command.{Command}
use Rattle.ddr_trace.specs.declared.command.Command.TheVariants as command
use Rattle.ddr_trace.specs.declared.command.Entry.{Entry}
use Rattle.ddr_trace.specs.Legality.{IsLegal, IsRefreshed}
use Rattle.ddr_address_map.specs.declared.request.Kind.{Kind}
use Rattle.ddr_address_map.specs.declared.request.Kind.TheVariants.{Read, Write}
use Rattle.ddr_address_map.specs.Map.{place_of}
use Rattle.ddr_address_map.specs.Requests.{Request, Completion}
use Rattle.ddr_channel.specs.Memory.{is_write_kind}
use Rattle.ddr_reorder.specs.Replies.{Answer}
use Rattle.ddr_reorder.specs.State.{awaits}
use Rattle.ddr_world.specs.declared.event.Refusal.TheVariants.{QueueFull}
use Rattle.ddr_world.specs.declared.item.Item.TheVariants as item
use Rattle.ddr_world.specs.Events.{Event, Cycle, Deliver}
use Rattle.ddr_world.specs.History.{Opening, Whereabouts, History, front_of}
use Rattle.ddr_world.specs.State.{PortSide, ChannelSide, State, IsDrained}
use Rattle.ddr_world.specs.Step.{step}

-- the request writes the byte of this address: it writes to the address's line, and the bit of its data mask is set
abbrev pub writes : Request → ℕ → Bool
writes r addr = is_write_kind r.echo.kind && addr / LINE_BYTES == r.echo.addr / LINE_BYTES && bit_at r.mask (addr % LINE_BYTES) == 1

-- the byte of an address after the requests, one after another, from a memory of zeros
abbrev pub byte_after : List Request → ℕ → ℕ
byte_after requests addr = fold (λ byte r. if writes r addr then slice_index r.line (addr % LINE_BYTES) else byte) 0 requests

-- the bytes from an address on
abbrev pub bytes_after : List Request → ℕ → ℕ → List ℕ
bytes_after requests addr len = map (byte_after requests) (range_with_len addr len)

-- for a read the bytes that the requests accepted earlier left, for a write none
abbrev pub bytes_for : Kind → List Request → ℕ → ℕ → List ℕ
bytes_for Read earlier addr len = bytes_after earlier addr len
bytes_for Write earlier addr len = []

-- the right reply to a request, by those accepted earlier on its channel
abbrev pub reply_of : List Request → Request → Answer
reply_of earlier r = record { number = r.number; echo = r.echo; bytes = bytes_for r.echo.kind earlier r.echo.addr r.echo.len }

-- the request that stands there in the acceptance list of the channel
abbrev pub request_there : History → Whereabouts → Option Request
request_there h w = slice_get (h.accepted w.channel) w.place

-- the right reply to it
abbrev pub reply_at : History → Whereabouts → Option Answer
reply_at h w = option_map (reply_of (take w.place (h.accepted w.channel))) (request_there h w)

-- the right replies to the port's accepted requests, in the order of their numbers
abbrev pub replies_of_port : History → ℕ → List (Option Answer)
replies_of_port h p = map (reply_at h) (h.sent p)

-- what a port has done so far: each accepted request is outstanding, or its reply was taken
pub record IsCounted (h : History) (p : ℕ) (side : PortSide) : Type 0 where
  pub accepted : side.accepted ≡ length (h.sent p)
  pub taken : side.taken ≡ length (h.taken p)
  pub outstanding : length (h.taken p) + length side.core.reorder.outstanding ≡ length (h.sent p)

-- the commands of the channel so far
abbrev pub trace_at : State → ℕ → List Entry
trace_at s c = option_map_or (λ side. side.channel.trace) (slice_get s.channels c) []

-- REF, and PREA before it: they serve no request
abbrev pub is_for_refresh : Command → Bool
is_for_refresh (command.Refresh rank) = true
is_for_refresh (command.PreAll rank) = true
is_for_refresh _ = false

-- a refresh or a precharge of all banks stands behind the commands, or nothing does
abbrev pub AddsRefresh : List Entry → List Entry → Type 0
AddsRefresh before after = (after ≡ before) ⊎ ((e : Entry) × (is_for_refresh e.command ≡ true) × (after ≡ before ++ e ∷ []))

-- a cycle of the channel that only goes on refreshing: all is drained as before
pub record IsIdleCycle (before : State) (c : ℕ) (after : State) : Type 0 where
  pub drained : IsDrained after
  pub trace : AddsRefresh (trace_at before c) (trace_at after c)
  pub ports : after.ports ≡ before.ports
  pub others : (other : ℕ) → other ≢ c → slice_get after.channels other ≡ slice_get before.channels other

-- the event is refused, whatever it asks for; a cycle may still be made, which only goes on refreshing
abbrev pub IsOver : State → Event → Type 0
IsOver s (Cycle c) = IfOk (step s (Cycle c)) (λ m. IsIdleCycle s c m.state)
IsOver s event = IsErr (step s event)

-- after orderly close: each port took all its replies, each channel admitted all that was accepted, and nothing more comes
pub record IsFinished (h : History) : Type 0 where
  pub taken : (p : ℕ) → map Some (h.taken p) ≡ replies_of_port h p
  pub admitted : (c : ℕ) → h.admitted c ≡ h.accepted c
  pub over : (event : Event) → IsOver h.state event

-- no request waits in the queue, and nothing is in the channel
pub record IsServedOut (side : ChannelSide) : Type 0 where
  pub requests : (i : ℕ) (r : Request) → slice_get side.requests i ≢ Some (item.Request r)
  pub pending : side.channel.pending ≡ []
  pub flight : side.channel.flight ≡ []
  pub done : side.channel.done ≡ []

-- of the requests nothing is left on the way: in no queue and in no channel. An End may still be queued.
pub record IsIdle (s : State) : Type 0 where
  pub ports : All (λ side. side.completions ≡ []) s.ports
  pub channels : All IsServedOut s.channels

pub record KeepsPromise (o : Opening) (h : History) : Type 0 where
  -- the port's requests have the numbers from the first one on, in the order of acceptance
  pub numbered : (p : ℕ) → map (option_map (λ a. a.number)) (replies_of_port h p) ≡ map Some (range_with_len o.number (length (h.sent p)))
  -- each request of the acceptance list of a channel stands in the list of its port, under its number
  pub each_once : (c place : ℕ) (r : Request) → slice_get (h.accepted c) place ≡ Some r
      → (k : ℕ) × (r.number ≡ o.number + k) × (slice_get (h.sent r.port) k ≡ Some (record { channel = c; place = place }))
  -- and it stands in the list of the channel that its address names
  pub placed : (c place : ℕ) (r : Request) → slice_get (h.accepted c) place ≡ Some r → option_map (λ q. q.channel) (place_of o.config.geometry r.echo.addr) ≡ Some c
  -- each port took the first of its replies, in order and each once
  pub taken : (p : ℕ) → map Some (h.taken p) ≡ take (length (h.taken p)) (replies_of_port h p)
  -- the reply that it is lent is the next one
  pub lent : (p : ℕ) → IfSome (front_of h.state p) (λ a. slice_get (replies_of_port h p) (length (h.taken p)) ≡ Some (Some a))
  pub counted : (p : ℕ) (side : PortSide) → slice_get h.state.ports p ≡ Some side → IsCounted h p side
  -- each channel admitted the first requests of its acceptance list
  pub admitted : (c : ℕ) → h.admitted c ≡ take (length (h.admitted c)) (h.accepted c)
  -- each channel has the configuration and the first cycle that the core was opened with
  pub opened : (c : ℕ) (side : ChannelSide) → slice_get h.state.channels c ≡ Some side → (side.channel.config ≡ o.config) × (side.channel.start ≡ o.cycle)
  pub legal : (c : ℕ) (side : ChannelSide) → slice_get h.state.channels c ≡ Some side
      → IsLegal side.channel.config side.channel.start side.channel.now side.channel.trace
  -- and each is refreshed in time
  pub refreshed : (c : ℕ) (side : ChannelSide) → slice_get h.state.channels c ≡ Some side
      → IsRefreshed side.channel.config side.channel.start side.channel.now side.channel.trace
  -- a completion that is done finds room on the queue of its port
  pub fits : (c : ℕ) → step h.state (Deliver c) ≢ Err QueueFull
  -- and the port waits for it
  pub awaited : (p : ℕ) (side : PortSide) (d : Completion) → slice_get h.state.ports p ≡ Some side → slice_get side.completions 0 ≡ Some d
      → awaits side.core.reorder d.number d.echo ≡ true
  -- where no number is outstanding, no request is left on the way
  pub idle : All (λ side. length side.core.reorder.outstanding ≡ 0) h.state.ports → IsIdle h.state
  -- where nothing is outstanding, queued or in a channel, and every End was taken, all is done
  pub finished : IsDrained h.state → IsFinished h
