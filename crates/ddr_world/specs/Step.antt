-- What an event makes of the core: the state after it with its outcome, or why it is not made.
use Rattle.std.specs.Prelude.{◌≡◌, ℕ, ◌+◌, ◌==◌, ◌||◌, not, true, false, if◌then◌else◌, [], ◌∷◌, ◌++◌, length, drop, slice_get, slice_set, Result, Ok, Err, unwrap_or}
use Rattle.std.specs.Option.{option_map_or}
use Rattle.ddr_timing.specs.declared.units.TheConstants.{CLOCK_STOP}
use Rattle.ddr_address_map.specs.declared.request.Kind.TheVariants.{Read, Write}
use Rattle.ddr_address_map.specs.Requests.{Request, Completion}
use Rattle.ddr_reorder.specs.Replies.{front_number}
use Rattle.ddr_reorder.specs.State.{awaits}
use Rattle.ddr_ports.specs.Asked.{Asked}
use Rattle.ddr_ports.specs.State as port_state
use Rattle.ddr_ports.specs.State.{refusal_of, request_at, after_prepare, after_fill, after_finish}
use Rattle.ddr_channel.specs.Cycle.{after_cycle}
use Rattle.ddr_channel.specs.State.{after_pop, is_queue_full}
use Rattle.ddr_world.specs.declared.event.Outcome.{Outcome}
use Rattle.ddr_world.specs.declared.event.Outcome.TheVariants as outcome
use Rattle.ddr_world.specs.declared.event.Refusal.{Refusal}
use Rattle.ddr_world.specs.declared.event.Refusal.TheVariants as refusal
use Rattle.ddr_world.specs.declared.item.Item.{Item}
use Rattle.ddr_world.specs.declared.item.Item.TheVariants as item
use Rattle.ddr_world.specs.Events.{Event, Submit, Take, Cycle, Deliver, Collect, Release, End}
use Rattle.ddr_world.specs.Items.{channel_after, noted_after}
use Rattle.ddr_world.specs.Refusals.{refusal_from}
use Rattle.ddr_world.specs.State.{PortSide, ChannelSide, State, is_busy, is_completion_queue_full}

-- an event that is made
pub record Made : Type 0 where
  pub state : State
  pub outcome : Outcome

abbrev pub Step : Type 0
Step = Result Made Refusal

abbrev pub made : State → Outcome → Step
made s o = Ok (record { state = s; outcome = o })

abbrev pub with_port : ℕ → PortSide → State → State
with_port p side s = record s { ports = slice_set s.ports p side }

abbrev pub with_channel : ℕ → ChannelSide → State → State
with_channel c side s = record s { channels = slice_set s.channels c side }

-- at the port or the channel of that number, if there is one
abbrev pub at_port : State → ℕ → (PortSide → Step) → Step
at_port s p step = option_map_or step (slice_get s.ports p) (Err refusal.NoSuch)

abbrev pub at_channel : State → ℕ → (ChannelSide → Step) → Step
at_channel s c step = option_map_or step (slice_get s.channels c) (Err refusal.NoSuch)

-- where an event changes one channel alone
abbrev pub change_channel : State → ℕ → Outcome → Result ChannelSide Refusal → Step
change_channel s c o (Ok side) = made (with_channel c side s) o
change_channel s c o (Err cause) = Err cause

-- what waits in the queue of a channel, with one item more
abbrev pub queued : Item → ChannelSide → ChannelSide
queued it side = record side { requests = side.requests ++ it ∷ [] }

-- refused by its name; or for want of memory, where it would be made
abbrev pub IsRefusedFor : {X : Type 0} → Refusal → Result X Refusal → Type 0
IsRefusedFor cause (Ok side) = cause ≡ refusal.OutOfMemory
IsRefusedFor cause (Err name) = cause ≡ name

-- Submit: the port prepares the request and pushes it on the queue of its channel

abbrev pub after_submit : Asked → PortSide → PortSide
after_submit asked side = record side { core = after_prepare side.core asked; accepted = side.accepted + 1 }

-- on the queue of its channel
abbrev pub push_on : State → ℕ → PortSide → Asked → Request → ChannelSide → Step
push_on s p port asked r side =
    if is_busy side then Err (refusal.Busy r.place.channel)
    else made (with_channel r.place.channel (queued (item.Request r) side) (with_port p (after_submit asked port) s)) (outcome.Accepted r.number)

abbrev pub push_request : State → ℕ → PortSide → Asked → Request → Step
push_request s p port asked r = at_channel s r.place.channel (push_on s p port asked r)

abbrev pub submit_by : State → ℕ → Asked → PortSide → Step
submit_by s p asked port =
    option_map_or (λ cause. Err (refusal_from cause)) (refusal_of port.core asked)
    (option_map_or (push_request s p port asked) (request_at port.core asked) (Err refusal.OutOfRange))

abbrev pub submit : State → ℕ → Asked → Step
submit s p asked = at_port s p (submit_by s p asked)

-- Take: the channel pops an item, where both its queues have a free place

abbrev pub after_take : Item → ChannelSide → ChannelSide
after_take it side = record side { requests = drop 1 side.requests; channel = channel_after it side.channel; noted = noted_after it side.noted }

abbrev pub taken : ChannelSide → Result ChannelSide Refusal
taken side = option_map_or
    (λ it. if is_queue_full side.channel Read || is_queue_full side.channel Write then Err refusal.QueueFull else Ok (after_take it side))
    (slice_get side.requests 0) (Err refusal.Nothing)

abbrev pub take : State → ℕ → Step
take s c = at_channel s c (λ side. change_channel s c outcome.Taken (taken side))

-- Cycle: the channel makes a cycle

abbrev pub cycled : ChannelSide → Result ChannelSide Refusal
cycled side = if side.channel.now == CLOCK_STOP then Err refusal.ClockSpent else Ok (record side { channel = after_cycle side.channel })

abbrev pub cycle : State → ℕ → Step
cycle s c = at_channel s c (λ side. change_channel s c outcome.Cycled (cycled side))

-- Deliver: the channel pushes its oldest completion on the queue of the port that it is for

abbrev pub sent : ChannelSide → ChannelSide
sent side = record side { channel = after_pop side.channel }

abbrev pub after_deliver : Completion → PortSide → PortSide
after_deliver d port = record port { completions = port.completions ++ d ∷ [] }

-- on the queue of its port
abbrev pub deliver_to : State → ℕ → ChannelSide → Completion → PortSide → Step
deliver_to s c side d port =
    if is_completion_queue_full port then Err refusal.QueueFull
    else made (with_port d.port (after_deliver d port) (with_channel c (sent side) s)) outcome.Delivered

abbrev pub push_completion : State → ℕ → ChannelSide → Completion → Step
push_completion s c side d = option_map_or (deliver_to s c side d) (slice_get s.ports d.port) (Err refusal.QueueFull)

abbrev pub deliver_by : State → ℕ → ChannelSide → Step
deliver_by s c side = option_map_or (push_completion s c side) (slice_get side.channel.done 0) (Err refusal.Nothing)

abbrev pub deliver : State → ℕ → Step
deliver s c = at_channel s c (deliver_by s c)

-- Collect: the port pops a completion and puts its line in its place, where it waits for it

abbrev pub after_collect : Completion → PortSide → PortSide
after_collect d port = record port {
  core = if awaits port.core.reorder d.number d.echo then after_fill d port.core else port.core;
  completions = drop 1 port.completions;
}

abbrev pub collect_by : State → ℕ → PortSide → Step
collect_by s p port = option_map_or
    (λ d. made (with_port p (after_collect d port) s) (outcome.Collected d.number))
    (slice_get port.completions 0) (Err refusal.Nothing)

abbrev pub collect : State → ℕ → Step
collect s p = at_port s p (collect_by s p)

-- Release: the port gives up its oldest reply

abbrev pub after_release : PortSide → PortSide
after_release port = record port { core = port_state.after_release port.core; taken = port.taken + 1 }

abbrev pub release_by : State → ℕ → PortSide → Step
release_by s p port = option_map_or
    (λ number. made (with_port p (after_release port) s) (outcome.Released number))
    (front_number port.core.reorder) (Err refusal.Nothing)

abbrev pub release : State → ℕ → Step
release s p = at_port s p (release_by s p)

-- End: the port pushes its End on the queue of the channel, and is finished

abbrev pub after_end : ℕ → PortSide → PortSide
after_end c port = record port { core = after_finish port.core; pushed = slice_set port.pushed c true }

abbrev pub end_at : State → ℕ → ℕ → PortSide → ChannelSide → Step
end_at s p c port side =
    if not (length port.core.reorder.outstanding == 0) then Err refusal.NotEmpty
    else if unwrap_or (slice_get port.pushed c) false then Err refusal.Finished
    else if is_busy side then Err (refusal.Busy c)
    else made (with_channel c (queued (item.End p) side) (with_port p (after_end c port) s)) outcome.Ended

abbrev pub end : State → ℕ → ℕ → Step
end s p c = at_port s p (λ port. at_channel s c (end_at s p c port))

abbrev pub step : State → Event → Step
step s (Submit p asked) = submit s p asked
step s (Take c) = take s c
step s (Cycle c) = cycle s c
step s (Deliver c) = deliver s c
step s (Collect p) = collect s p
step s (Release p) = release s p
step s (End p c) = end s p c
