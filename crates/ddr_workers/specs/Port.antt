-- What contracts see of a port that runs beside others, and what each of its calls makes of it.
use Rattle.std.specs.Prelude.{◌≡◌, ℕ, zero, suc, ◌+◌, ◌-◌, ◌≤◌, ◌<◌, ◌==◌, Bool, true, false, if◌then◌else◌, List, length, filter, map, Option, Some, None, IfSome, slice_get}
use Rattle.std.specs.Option.{option_map}
use Rattle.ddr_address_map.specs.Requests as records
use Rattle.ddr_address_map.specs.Requests.{Completion}
use Rattle.ddr_reorder.specs.declared.reply.Service.{Service}
use Rattle.ddr_reorder.specs.Replies.{Answer, lent_bytes}
use Rattle.ddr_reorder.specs.State.{awaits}
use Rattle.ddr_ports.specs.Asked.{Asked}
use Rattle.ddr_ports.specs.State as core
use Rattle.ddr_ports.specs.State.{request_at, service_of}
use Rattle.ddr_workers.specs.declared.completions.Delivery.{Delivery}
use Rattle.ddr_workers.specs.declared.port.PollAnswer.{PollAnswer}
use Rattle.ddr_workers.specs.declared.port.PollAnswer.TheVariants.{Filled, Empty}
use Rattle.ddr_workers.specs.declared.refusal.SubmitError.{SubmitError}
use Rattle.ddr_workers.specs.declared.refusal.SubmitError.TheVariants as submit
use Rattle.ddr_workers.specs.declared.refusal.PollError.{PollError}
use Rattle.ddr_workers.specs.declared.refusal.PollError.TheVariants as poll
use Rattle.ddr_workers.specs.declared.refusal.FinishError.{FinishError}
use Rattle.ddr_workers.specs.declared.refusal.FinishError.TheVariants as finish
use Rattle.ddr_world.specs.declared.item.Item.{Item}
use Rattle.ddr_world.specs.declared.item.Item.TheVariants.{Request, End}
use Rattle.ddr_workers.specs.declared.requests.Route.{Route}
use Rattle.ddr_workers.specs.Completions.{IsNext, WasEmpty}
use Rattle.ddr_workers.specs.Requests.{WasFull}
use Rattle.ddr_workers.specs.Sides.{PutSide, TakeSide, after_push, after_full, after_pop, after_empty, changed_at}

pub record PortState : Type 0 where
  -- by which call it was opened
  pub id : ℕ
  -- its number, the memory's shape, the outstanding numbers, and whether it is finished
  pub core : core.PortState
  -- how many replies were given up
  pub taken : ℕ
  -- of each channel the side on which requests and the End are pushed
  pub requests : List (PutSide Route Item)
  -- the side from which completions are popped
  pub completions : TakeSide Delivery Completion
  -- the Ends are pushed on so many channels, from channel 0 on
  pub ended : ℕ
  -- a completion came that the port did not wait for
  pub broken : Bool

-- what the port got: the completions that it popped, in order
abbrev pub got : PortState → List Completion
got s = s.completions.took

-- the side of one channel changes
abbrev pub with_side : ℕ → (PutSide Route Item → PutSide Route Item) → PortState → PortState
with_side channel change s = record s { requests = changed_at channel change s.requests }

-- There was a moment at which the queue to the channel was full
abbrev pub WasBusy : PortState → ℕ → Type 0
WasBusy s channel = IfSome (slice_get s.requests channel) WasFull

-- submit

-- why a request is refused before its queue is asked, if there is a cause: the first that applies
abbrev pub refusal_of : PortState → Asked → Option SubmitError
refusal_of s asked = if s.broken then Some submit.Broken else option_map submit.Refused (core.refusal_of s.core asked)

-- the request was pushed on the queue of its channel
abbrev pub after_submit : Asked → records.Request → PortState → PortState
after_submit asked made s =
    with_side made.place.channel (λ side. after_push side (Request made)) (record s { core = core.after_prepare s.core asked })

-- nothing was pushed, since the queue of this channel was full
abbrev pub after_busy : ℕ → PortState → PortState
after_busy channel s = with_side channel after_full s

pub record IsSubmitted (s s' : PortState) (asked : Asked) (number : ℕ) : Type 0 where
  pub allowed : refusal_of s asked ≡ None
  pub made : records.Request
  pub made_is : request_at s.core asked ≡ Some made
  pub number_is : number ≡ s.core.reorder.next
  pub state : s' ≡ after_submit asked made s

pub record IsTurnedAway (s s' : PortState) (asked : Asked) (channel : ℕ) : Type 0 where
  pub allowed : refusal_of s asked ≡ None
  pub made : records.Request
  pub made_is : request_at s.core asked ≡ Some made
  pub channel_is : channel ≡ made.place.channel
  pub full : WasBusy s channel
  pub state : s' ≡ after_busy channel s

abbrev pub IsNotSubmitted : PortState → PortState → Asked → SubmitError → Type 0
IsNotSubmitted s s' asked (submit.Busy channel) = IsTurnedAway s s' asked channel
IsNotSubmitted s s' asked cause = (refusal_of s asked ≡ Some cause) × (s' ≡ s)

-- poll

abbrev pub popped : Completion → PortState → PortState
popped done s = record s { completions = after_pop s.completions done }

abbrev pub after_filled : Completion → PortState → PortState
after_filled done s = record (popped done s) { core = core.after_fill done s.core }

abbrev pub after_stray : Completion → PortState → PortState
after_stray done s = record (popped done s) { broken = true }

abbrev pub after_nothing : PortState → PortState
after_nothing s = record s { completions = after_empty s.completions }

-- a completion came, and the port waited for it
pub record IsFilled (s s' : PortState) (number : ℕ) : Type 0 where
  pub working : s.broken ≡ false
  pub done : Completion
  pub next : IsNext s.completions done
  pub number_is : number ≡ done.number
  pub awaited : awaits s.core.reorder done.number done.echo ≡ true
  pub state : s' ≡ after_filled done s

-- a completion came, and the port did not wait for it
pub record IsStray (s s' : PortState) : Type 0 where
  pub working : s.broken ≡ false
  pub done : Completion
  pub next : IsNext s.completions done
  pub unawaited : awaits s.core.reorder done.number done.echo ≡ false
  pub state : s' ≡ after_stray done s

-- there was a moment at which the queue was empty
pub record IsNothing (s s' : PortState) : Type 0 where
  pub working : s.broken ≡ false
  pub empty : WasEmpty s.completions
  pub state : s' ≡ after_nothing s

abbrev pub IsPolled : PortState → PortState → PollAnswer → Type 0
IsPolled s s' (Filled number) = IsFilled s s' number
IsPolled s s' Empty = IsNothing s s'

abbrev pub IsNotPolled : PortState → PortState → PollError → Type 0
IsNotPolled s s' poll.Broken = (s.broken ≡ true) × (s' ≡ s)
IsNotPolled s s' poll.Stray = IsStray s s'

-- front and nth

-- the first completion with this number
abbrev pub first_with : ℕ → List Completion → Option Completion
first_with number dones = slice_get (filter (λ d. d.number == number) dones) 0

-- the reply that a completion is: its number, its echo, and the bytes asked for
abbrev pub reply_of : Completion → Answer
reply_of done = record { number = done.number; echo = done.echo; bytes = lent_bytes done.echo done.line }

-- the reply is that of the first completion with its number that the port got
abbrev pub IsOfFirst : PortState → Answer → Type 0
IsOfFirst s answer = option_map reply_of (first_with answer.number (got s)) ≡ Some answer

-- and so are the cycles in which its request was served
abbrev pub IsServiceOfFirst : PortState → ℕ → Service → Type 0
IsServiceOfFirst s number v = option_map service_of (first_with number (got s)) ≡ Some v

-- release

abbrev pub after_release : PortState → PortState
after_release s = record s { core = core.after_release s.core; taken = s.taken + 1 }

-- finish

-- the port prepares no more requests
abbrev pub finished : PortState → PortState
finished s = record s { core = core.after_finish s.core }

-- the End was pushed on the first channel that had none
abbrev pub after_end : PortState → PortState
after_end s = record (with_side s.ended (λ side. after_push side (End side.who.source)) s) { ended = s.ended + 1 }

-- so many Ends were pushed, one after another
abbrev pub after_ends : ℕ → PortState → PortState
after_ends zero s = s
after_ends (suc n) s = after_end (after_ends n s)

-- What a finished port leaves: its number, how many replies it gave up, and its sides
pub record PortEnded : Type 0 where
  pub id : ℕ
  pub port : ℕ
  pub taken : ℕ
  pub requests : List (PutSide Route Item)
  pub completions : TakeSide Delivery Completion

abbrev pub end_of : PortState → PortEnded
end_of s = record { id = s.id; port = s.core.port; taken = s.taken; requests = s.requests; completions = s.completions }

-- nothing is outstanding, and the End was pushed on every channel that had none
pub record IsFinished (s : PortState) (e : PortEnded) : Type 0 where
  pub working : s.broken ≡ false
  pub nothing : length s.core.reorder.outstanding ≡ 0
  pub left : e ≡ end_of (after_ends (length s.requests - s.ended) (finished s))

-- the Ends of the channels below this one were pushed, and then its queue was full
pub record IsHeldUp (s s' : PortState) (channel : ℕ) : Type 0 where
  pub begun : s.ended ≤ channel
  pub there : channel < length s.requests
  pub full : WasBusy (after_ends (channel - s.ended) s) channel
  pub state : s' ≡ after_busy channel (after_ends (channel - s.ended) s)

abbrev pub IsNotFinished : PortState → PortState → FinishError → Type 0
IsNotFinished s s' finish.Broken = (s.broken ≡ true) × (s' ≡ s)
IsNotFinished s s' finish.NotEmpty = (s.broken ≡ false) × (length s.core.reorder.outstanding == 0 ≡ false) × (s' ≡ s)
IsNotFinished s s' (finish.Busy channel) = (s.broken ≡ false) × (length s.core.reorder.outstanding ≡ 0) × IsHeldUp (finished s) s' channel

-- It is still the port of that number, over the same queues.
pub record IsSamePort (s s' : PortState) : Type 0 where
  pub id : s'.id ≡ s.id
  pub port : s'.core.port ≡ s.core.port
  pub requests : map (λ side. side.who) s'.requests ≡ map (λ side. side.who) s.requests
  pub completions : s'.completions.who ≡ s.completions.who

-- It is the end of that port.
pub record IsEndOfPort (s : PortState) (e : PortEnded) : Type 0 where
  pub id : e.id ≡ s.id
  pub port : e.port ≡ s.core.port
  pub requests : map (λ side. side.who) e.requests ≡ map (λ side. side.who) s.requests
  pub completions : e.completions.who ≡ s.completions.who
