-- Each request that waits in a queue or is pending in a channel is of a port that there is.
use Rattle.std.proofs.Common.{◌≡◌, ◌<◌, ◌≤◌, ◌+◌, ℕ, zero, suc, Bool, true, false, cond, ◌||◌, List, [], ◌∷◌, drop, length, replicate, map, Option, Some, None, Ok, Err, refl, sym, ap, subst, arith}
use Rattle.std.specs.List.{AllByRecursion, range_with_len, slice_get, slice_set}
use Rattle.std.specs.Option.{option_map, option_map_or}
use Rattle.std.specs.Prelude.{◌==◌, not, unwrap_or}
use Rattle.ddr_timing.specs.declared.config.Config.{Config}
use Rattle.ddr_timing.specs.declared.units.TheConstants.{CLOCK_STOP}
use Rattle.ddr_address_map.specs.declared.place.Place.{Place}
use Rattle.ddr_address_map.specs.declared.request.Kind.TheVariants.{Read, Write}
use Rattle.ddr_address_map.specs.Map.{place_of}
use Rattle.ddr_address_map.specs.Requests.{Request, Completion}
use Rattle.ddr_hazards.specs.declared.waiting.Waiting.{Waiting}
use Rattle.ddr_arbiter.specs.declared.choice.Choice.{Choice}
use Rattle.ddr_arbiter.specs.declared.choice.Choice.TheVariants as choice
use Rattle.ddr_arbiter.specs.Laws.{command_of}
use Rattle.ddr_reorder.specs.Replies.{front_number}
use Rattle.ddr_reorder.specs.State.{awaits}
use Rattle.ddr_ports.specs.Asked.{Asked, first_address}
use Rattle.ddr_ports.specs.State.{PortState, refusal_of, request_at, request_with, after_fill}
use Rattle.ddr_ports.specs.declared.refusal.PortError.{PortError}
use Rattle.ddr_channel.specs.Choice.{choice_of}
use Rattle.ddr_channel.specs.Cycle.{after_cycle, at_choice, recorded, served_at, served_by}
use Rattle.ddr_channel.specs.State as channel_state
use Rattle.ddr_channel.specs.State.{is_queue_full}
use Rattle.ddr_channel.proofs.ListLemmas.{All-last, All-taken, at_recursion}
use Rattle.ddr_world.specs.declared.event.Outcome.TheVariants as outcome
use Rattle.ddr_world.specs.declared.event.Refusal.TheVariants as refusal
use Rattle.ddr_world.specs.declared.item.Item.{Item}
use Rattle.ddr_world.specs.declared.item.Item.TheVariants as item
use Rattle.ddr_world.specs.Events.{Event, Submit, Take, Cycle, Deliver, Collect, Release, End}
use Rattle.ddr_world.specs.Refusals.{refusal_from}
use Rattle.ddr_world.specs.State.{ChannelSide, PortSide, State, is_busy, is_completion_queue_full, opened, opened_channel, opened_port}
use Rattle.ddr_world.specs.Step.{Made, Step, made, with_port, with_channel, change_channel, queued, after_submit, push_on, push_request, submit_by, submit, after_take, taken, take, cycled, cycle, sent, after_deliver, deliver_to, push_completion, deliver_by, deliver, after_collect, collect_by, collect, after_release, release_by, release, after_end, at_channel, end_at, end, step}
use Rattle.ddr_rounds.specs.Rounds.{after, after_step, channel_served, items_of, made_state, repeated, until_refused}
use Rattle.ddr_rounds.proofs.StepCounts.{at_channel_has, at_port_has, either_has, maybe_has}

-- a request that waits in the queue of a channel, and one that is pending

abbrev pub IsItemOf : ℕ → Item → Type 0
IsItemOf ports (item.Request r) = r.port < ports
IsItemOf ports (item.End p) = Unit {0}

abbrev pub IsPendingOf : ℕ → Waiting → Type 0
IsPendingOf ports w = w.request.port < ports

pub record IsSideOf (ports : ℕ) (side : ChannelSide) : Type 0 where
  pub requests : AllByRecursion (IsItemOf ports) side.requests
  pub pending : AllByRecursion (IsPendingOf ports) side.channel.pending

-- each port has a number below this one, and each request on its way is of such a port
pub record AreOf (ports : ℕ) (s : State) : Type 0 where
  pub numbered : AllByRecursion (λ (port : PortSide). port.core.port < ports) s.ports
  pub sides : AllByRecursion (IsSideOf ports) s.channels

-- lists

all_set : {X : Type 0} (P : X → Type 0) (xs : List X) (i : ℕ) (x : X) → P x → AllByRecursion P xs → AllByRecursion P (slice_set xs i x)
all_set P [] i x is all = all
all_set P (y ∷ xs) zero x is all = (is, all.1)
all_set P (y ∷ xs) (suc i) x is all = (all.0, all_set P xs i x is all.1)

all_dropped : {X : Type 0} (P : X → Type 0) (xs : List X) → AllByRecursion P xs → AllByRecursion P (drop 1 xs)
all_dropped P [] all = all
all_dropped P (x ∷ xs) all = all.1

all_alike : {X : Type 0} (P : X → Type 0) (n : ℕ) (x : X) → P x → AllByRecursion P (replicate n x)
all_alike P zero x is = tt
all_alike P (suc n) x is = (is, all_alike P n x is)

-- a port, a channel, or both change

port_set : (n p : ℕ) (port : PortSide) (s : State) → port.core.port < n → AreOf n s → AreOf n (with_port p port s)
port_set n p port s below all =
    record { numbered = all_set (λ (x : PortSide). x.core.port < n) s.ports p port below all.numbered; sides = all.sides }

channel_set : (n c : ℕ) (side : ChannelSide) (s : State) → IsSideOf n side → AreOf n s → AreOf n (with_channel c side s)
channel_set n c side s is all = record { numbered = all.numbered; sides = all_set (IsSideOf n) s.channels c side is all.sides }

port_at : (n p : ℕ) (s : State) (port : PortSide) → AreOf n s → slice_get s.ports p ≡ Some port → port.core.port < n
port_at n p s port all there = at_recursion (λ (x : PortSide). x.core.port < n) s.ports p port all.numbered there

pub side_at : (n c : ℕ) (s : State) (side : ChannelSide) → AreOf n s → slice_get s.channels c ≡ Some side → IsSideOf n side
side_at n c s side all there = at_recursion (IsSideOf n) s.channels c side all.sides there

-- each event leaves it so

abbrev Stays : ℕ → Step → Type 0
Stays n (Ok m) = AreOf n m.state
Stays n (Err cause) = Unit {0}

made_by : (s : PortState) (asked : Asked) (r : Request) (o : Option Place) → option_map (request_with s asked) o ≡ Some r → r.port ≡ s.port
made_by s asked r None is = absurd (let impossible = is in cc)
made_by s asked r (Some place) is =
    let same : request_with s asked place ≡ r = cc in
    sym (ap (λ (x : Request). x.port) same)

queued_side : (n : ℕ) (it : Item) (side : ChannelSide) → IsItemOf n it → IsSideOf n side → IsSideOf n (queued it side)
queued_side n it side is all = record { requests = All-last (IsItemOf n) side.requests it all.requests is; pending = all.pending }

submit_stays : (n : ℕ) (s : State) (p : ℕ) (asked : Asked) → AreOf n s → Stays n (submit s p asked)
submit_stays n s p asked all = at_port_has (Stays n) s p (submit_by s p asked) (slice_get s.ports p) refl tt (λ port there.
    maybe_has (Stays n) (λ (cause : PortError). Err (refusal_from cause))
    (option_map_or (push_request s p port asked) (request_at port.core asked) (Err refusal.OutOfRange)) (refusal_of port.core asked)
    (maybe_has (Stays n) (push_request s p port asked) (Err refusal.OutOfRange) (request_at port.core asked) tt (λ r prepared.
    at_channel_has (Stays n) s r.place.channel (push_on s p port asked r) (slice_get s.channels r.place.channel) refl tt (λ side found.
    either_has (Stays n) (is_busy side) (Err (refusal.Busy r.place.channel))
    (made (with_channel r.place.channel (queued (item.Request r) side) (with_port p (after_submit asked port) s)) (outcome.Accepted r.number))
    tt
    (let below = port_at n p s port all there in
    let own : r.port < n =
    subst (λ k. k < n) (sym (made_by port.core asked r (place_of port.core.geometry (first_address asked)) prepared)) below in
    channel_set n r.place.channel (queued (item.Request r) side) (with_port p (after_submit asked port) s)
    (queued_side n (item.Request r) side own (side_at n r.place.channel s side all found))
    (port_set n p (after_submit asked port) s below all)))))
    (λ cause is. tt))

took_side : (n : ℕ) (it : Item) (side : ChannelSide) → IsItemOf n it → IsSideOf n side → IsSideOf n (after_take it side)
took_side n (item.Request r) side is all = record {
  requests = all_dropped (IsItemOf n) side.requests all.requests;
  pending = All-last (IsPendingOf n) side.channel.pending (record { request = r; admitted = side.channel.now }) all.pending is;
}
took_side n (item.End p) side is all = record { requests = all_dropped (IsItemOf n) side.requests all.requests; pending = all.pending }

took_or_full : (n : ℕ) (s : State) (c : ℕ) (side : ChannelSide) (it : Item) (b : Bool) → AreOf n s → IsSideOf n side → IsItemOf n it
    → Stays n (change_channel s c outcome.Taken (cond b (Err refusal.QueueFull) (Ok (after_take it side))))
took_or_full n s c side it true all own is = tt
took_or_full n s c side it false all own is = channel_set n c (after_take it side) s (took_side n it side is own) all

take_first : (n : ℕ) (s : State) (c : ℕ) (side : ChannelSide) (o : Option Item) → AreOf n s → IsSideOf n side
    → slice_get side.requests 0 ≡ o
    → Stays n
    (change_channel s c outcome.Taken (option_map_or (λ it. cond (is_queue_full side.channel Read || is_queue_full side.channel Write) (Err refusal.QueueFull) (Ok (after_take it side))) o (Err refusal.Nothing)))
take_first n s c side None all own first = tt
take_first n s c side (Some it) all own first =
    took_or_full n s c side it (is_queue_full side.channel Read || is_queue_full side.channel Write) all own
    (at_recursion (IsItemOf n) side.requests 0 it own.requests first)

take_stays : (n : ℕ) (s : State) (c : ℕ) → AreOf n s → Stays n (take s c)
take_stays n s c all =
    at_channel_has (Stays n) s c (λ side. change_channel s c outcome.Taken (taken side)) (slice_get s.channels c) refl tt (λ side found.
    take_first n s c side (slice_get side.requests 0) all (side_at n c s side all found) refl)

-- a cycle takes one of the pending requests, or none
served_pending : (P : Waiting → Type 0) (place : ℕ) (o : Option Waiting) (s : channel_state.State) → AllByRecursion P s.pending
    → AllByRecursion P (served_at place o s).pending
served_pending P place None s all = all
served_pending P place (Some w) s all = All-taken P s.pending place all

choice_pending : (P : Waiting → Type 0) (c : Choice) (s : channel_state.State) → AllByRecursion P s.pending
    → AllByRecursion P (served_by c s).pending
choice_pending P choice.Nothing s all = all
choice_pending P (choice.Refresh rank) s all = all
choice_pending P (choice.PreAll rank) s all = all
choice_pending P (choice.Act place) s all = all
choice_pending P (choice.Pre place) s all = all
choice_pending P (choice.Column place) s all = served_pending P place (slice_get s.pending place) s all
choice_pending P (choice.ColumnAuto place) s all = served_pending P place (slice_get s.pending place) s all

cycled_side : (n : ℕ) (side : ChannelSide) → IsSideOf n side → IsSideOf n (record side { channel = after_cycle side.channel })
cycled_side n side all =
    let s = at_choice side.channel in
    record { requests = all.requests; pending = choice_pending (IsPendingOf n) (choice_of s) (recorded (command_of s.pending (choice_of s)) s) all.pending }

cycled_or_spent : (n : ℕ) (s : State) (c : ℕ) (side : ChannelSide) (b : Bool) → AreOf n s → IsSideOf n side
    → Stays n
    (change_channel s c outcome.Cycled (cond b (Err refusal.ClockSpent) (Ok (record side { channel = after_cycle side.channel }))))
cycled_or_spent n s c side true all own = tt
cycled_or_spent n s c side false all own =
    channel_set n c (record side { channel = after_cycle side.channel }) s (cycled_side n side own) all

cycle_stays : (n : ℕ) (s : State) (c : ℕ) → AreOf n s → Stays n (cycle s c)
cycle_stays n s c all =
    at_channel_has (Stays n) s c (λ side. change_channel s c outcome.Cycled (cycled side)) (slice_get s.channels c) refl tt (λ side found.
    cycled_or_spent n s c side (side.channel.now == CLOCK_STOP) all (side_at n c s side all found))

deliver_stays : (n : ℕ) (s : State) (c : ℕ) → AreOf n s → Stays n (deliver s c)
deliver_stays n s c all = at_channel_has (Stays n) s c (deliver_by s c) (slice_get s.channels c) refl tt (λ side found.
    maybe_has (Stays n) (push_completion s c side) (Err refusal.Nothing) (slice_get side.channel.done 0) tt (λ d first.
    maybe_has (Stays n) (deliver_to s c side d) (Err refusal.QueueFull) (slice_get s.ports d.port) tt (λ port there.
    either_has (Stays n) (is_completion_queue_full port) (Err refusal.QueueFull)
    (made (with_port d.port (after_deliver d port) (with_channel c (sent side) s)) outcome.Delivered) tt
    (let own = side_at n c s side all found in
    port_set n d.port (after_deliver d port) (with_channel c (sent side) s) (port_at n d.port s port all there)
    (channel_set n c (sent side) s (record { requests = own.requests; pending = own.pending }) all)))))

filled_port : (n : ℕ) (d : Completion) (core : PortState) (b : Bool) → core.port < n → (cond b (after_fill d core) core).port < n
filled_port n d core true below = below
filled_port n d core false below = below

collect_stays : (n : ℕ) (s : State) (p : ℕ) → AreOf n s → Stays n (collect s p)
collect_stays n s p all = at_port_has (Stays n) s p (collect_by s p) (slice_get s.ports p) refl tt (λ port there.
    maybe_has (Stays n) (λ (d : Completion). made (with_port p (after_collect d port) s) (outcome.Collected d.number)) (Err refusal.Nothing)
    (slice_get port.completions 0) tt (λ d first.
    port_set n p (after_collect d port) s
    (filled_port n d port.core (awaits port.core.reorder d.number d.echo) (port_at n p s port all there)) all))

release_stays : (n : ℕ) (s : State) (p : ℕ) → AreOf n s → Stays n (release s p)
release_stays n s p all = at_port_has (Stays n) s p (release_by s p) (slice_get s.ports p) refl tt (λ port there.
    maybe_has (Stays n) (λ number. made (with_port p (after_release port) s) (outcome.Released number)) (Err refusal.Nothing)
    (front_number port.core.reorder) tt (λ number front.
    port_set n p (after_release port) s (port_at n p s port all there) all))

end_stays : (n : ℕ) (s : State) (p c : ℕ) → AreOf n s → Stays n (end s p c)
end_stays n s p c all = at_port_has (Stays n) s p (λ port. at_channel s c (end_at s p c port)) (slice_get s.ports p) refl tt (λ port there.
    at_channel_has (Stays n) s c (end_at s p c port) (slice_get s.channels c) refl tt (λ side found.
    either_has (Stays n) (not (length port.core.reorder.outstanding == 0)) (Err refusal.NotEmpty) _ tt
    (either_has (Stays n) (unwrap_or (slice_get port.pushed c) false) (Err refusal.Finished) _ tt
    (either_has (Stays n) (is_busy side) (Err (refusal.Busy c)) (made (with_channel c (queued (item.End p) side) (with_port p (after_end c port) s)) outcome.Ended) tt
    (channel_set n c (queued (item.End p) side) (with_port p (after_end c port) s) (queued_side n (item.End p) side tt (side_at n c s side all found))
    (port_set n p (after_end c port) s (port_at n p s port all there) all))))))

step_stays : (n : ℕ) (s : State) (event : Event) → AreOf n s → Stays n (step s event)
step_stays n s (Submit p asked) all = submit_stays n s p asked all
step_stays n s (Take c) all = take_stays n s c all
step_stays n s (Cycle c) all = cycle_stays n s c all
step_stays n s (Deliver c) all = deliver_stays n s c all
step_stays n s (Collect p) all = collect_stays n s p all
step_stays n s (Release p) all = release_stays n s p all
step_stays n s (End p c) all = end_stays n s p c all

-- an event that is made
pub made_stays : (n : ℕ) (s : State) (event : Event) (m : Made) → step s event ≡ Ok m → AreOf n s → AreOf n m.state
made_stays n s event m is all = subst (Stays n) is (step_stays n s event all)

-- whether it is made or not
step_or_still : (n : ℕ) (s : State) (r : Step) → Stays n r → AreOf n s → AreOf n (after_step s r)
step_or_still n s (Ok m) is all = is
step_or_still n s (Err cause) is all = all

pub after_stays : (n : ℕ) (s : State) (event : Event) → AreOf n s → AreOf n (after s event)
after_stays n s event all = step_or_still n s (step s event) (step_stays n s event all) all

-- an event that is made again and again
again : (n k : ℕ) (event : Event) (s : State) (r : Step) → Stays n r → AreOf n s
    → ((next : State) → AreOf n next → AreOf n (repeated k event next)) → AreOf n (option_map_or (repeated k event) (made_state r) s)
again n k event s (Ok m) is all more = more m.state is
again n k event s (Err cause) is all more = all

repeated_stays : (n : ℕ) (event : Event) (k : ℕ) (s : State) → AreOf n s → AreOf n (repeated k event s)
repeated_stays n event zero s all = all
repeated_stays n event (suc k) s all =
    again n k event s (step s event) (step_stays n s event all) all (λ next is. repeated_stays n event k next is)

pub popped_stays : (n : ℕ) (event : Event) (s : State) → AreOf n s → AreOf n (until_refused event s)
popped_stays n event s all = repeated_stays n event (items_of s event) s all

-- a channel's part of a round

part_stays : (n c : ℕ) (s done : State) (r : Step) → Stays n r → option_map (until_refused (Deliver c)) (made_state r) ≡ Some done
    → AreOf n done
part_stays n c s done (Ok m) is served =
    let here : until_refused (Deliver c) m.state ≡ done = cc in
    subst (AreOf n) here (popped_stays n (Deliver c) m.state is)
part_stays n c s done (Err cause) is served = absurd (let impossible = served in cc)

pub channel_stays : (n c : ℕ) (s done : State) → channel_served c s ≡ Some done → AreOf n s → AreOf n done
channel_stays n c s done served all =
    let popped = until_refused (Take c) s in
    part_stays n c popped done (step popped (Cycle c)) (step_stays n popped (Cycle c) (popped_stays n (Take c) s all)) served

-- before the first event

opened_ports : (config : Config) (first n a below : ℕ) → a + n ≤ below
    → AllByRecursion (λ (port : PortSide). port.core.port < below) (map (opened_port config first) (range_with_len a n))
opened_ports config first zero a below few = tt
opened_ports config first (suc n) a below few = (omega (arith, few), opened_ports config first n (a + 1) below (omega (arith, few)))

pub opened_of : (config : Config) (start first : ℕ) → AreOf config.limits.ports (opened config start first)
opened_of config start first = record {
  numbered = opened_ports config first config.limits.ports 0 config.limits.ports (omega arith);
  sides = all_alike (IsSideOf config.limits.ports) config.geometry.channels (opened_channel config start) (record { requests = tt; pending = tt });
}
