-- The queue that leads to a channel never holds more than it may.
use Rattle.std.proofs.Common.{◌≡◌, ◌≤◌, ℕ, ◌||◌, Bool, true, false, not, cond, eqb, List, [], ◌∷◌, Option, Some, None, Result, Ok, Err, IfOk, drop, length, set, refl, sym, ap, subst, ◌∙◌, inl, inr, arith}
use Rattle.std.specs.List.{slice_get, fold}
use Rattle.std.specs.Option.{option_map_or, unwrap_or}
use Rattle.std.proofs.lemmas.Bool.{eqb-false}
use Rattle.std.proofs.lemmas.List.{length-drop, length_push}
use Rattle.std.proofs.Math.Arith.{lt_of_le-ne}
use Rattle.ddr_timing.specs.declared.config.Config.{Config}
use Rattle.ddr_timing.specs.declared.units.TheConstants.{CLOCK_STOP}
use Rattle.ddr_address_map.specs.Requests.{Completion}
use Rattle.ddr_address_map.specs.declared.request.Kind.TheVariants.{Read, Write}
use Rattle.ddr_channel.specs.Cycle.{after_cycle}
use Rattle.ddr_channel.specs.State.{is_queue_full}
use Rattle.ddr_ports.specs.Asked.{Asked}
use Rattle.ddr_ports.specs.State.{refusal_of, request_at}
use Rattle.ddr_ports.specs.declared.refusal.PortError.{PortError}
use Rattle.ddr_reorder.specs.Replies.{front_number}
use Rattle.ddr_rounds.proofs.StepCounts.{at_port_has, at_channel_has, either_has, maybe_has}
use Rattle.ddr_world.specs.declared.event.Outcome.{Outcome}
use Rattle.ddr_world.specs.declared.event.Outcome.TheVariants as outcome
use Rattle.ddr_world.specs.declared.event.Refusal.{Refusal}
use Rattle.ddr_world.specs.declared.event.Refusal.TheVariants as refusal
use Rattle.ddr_world.specs.declared.item.Item.{Item}
use Rattle.ddr_world.specs.declared.item.Item.TheVariants as item
use Rattle.ddr_world.specs.Events.{Event, Submit, Take, Cycle, Deliver, Collect, Release, End}
use Rattle.ddr_world.specs.History.{Opening, Answered, History, begun, after, after_answer, after_step, run}
use Rattle.ddr_world.specs.Refusals.{refusal_from}
use Rattle.ddr_world.specs.State.{ChannelSide, State, is_busy, is_completion_queue_full, opened_channel}
use Rattle.ddr_world.specs.Step.{Step, made, with_port, with_channel, at_channel, change_channel, queued, after_submit, push_on, push_request, submit_by, after_take, taken, cycled, sent, after_deliver, deliver_to, push_completion, deliver_by, after_collect, collect_by, after_release, release_by, after_end, end_at, step}
use Rattle.ddr_world.proofs.CoreKeeps.{replaced_at}
use Rattle.ddr_world.proofs.CorePromise.{core_keeps_promise}
use Rattle.ddr_core_deadline.proofs.EventLemmas.{at_replicate}

-- each queue holds no more than so many
abbrev pub FitsIn : ℕ → List ChannelSide → Type 0
FitsIn room sides = (c : ℕ) (side : ChannelSide) → slice_get sides c ≡ Some side → length side.requests ≤ room

-- and this is how many each may hold
abbrev IsRoomOf : ℕ → List ChannelSide → Type 0
IsRoomOf room sides = (c : ℕ) (side : ChannelSide) → slice_get sides c ≡ Some side → side.channel.config.limits.intake ≡ room

set_fits : (room : ℕ) (sides : List ChannelSide) (c : ℕ) (old new : ChannelSide) → FitsIn room sides → slice_get sides c ≡ Some old → length new.requests ≤ room → FitsIn room (set sides c new)
set_fits room sides c old new fits was is i side there = elim (replaced_at sides c i old new side was there) [
  | inl here ↦ subst (λ (s : ChannelSide). length s.requests ≤ room) (sym here.1) is
  | inr other ↦ fits i side other.1
]

abbrev LeavesFit : ℕ → Step → Type 0
LeavesFit room (Ok m) = FitsIn room m.state.channels
LeavesFit room (Err cause) = Unit {0}

change_fits : (room : ℕ) (s : State) (c : ℕ) (o : Outcome) (side : ChannelSide) (r : Result ChannelSide Refusal) → FitsIn room s.channels → slice_get s.channels c ≡ Some side → IfOk r (λ new. length new.requests ≤ room)
    → LeavesFit room (change_channel s c o r)
change_fits room s c o side (Ok new) fits found is = set_fits room s.channels c side new fits found is
change_fits room s c o side (Err cause) fits found is = tt

dropped_fits : (room : ℕ) (items : List Item) → length items ≤ room → length (drop 1 items) ≤ room
dropped_fits room items fits = omega (arith, fits, length-drop 1 items)

taken_fits : (room : ℕ) (side : ChannelSide) (x : Option Item) (b : Bool) → length side.requests ≤ room
    → IfOk (option_map_or (λ it. cond b (Err refusal.QueueFull) (Ok (after_take it side))) x (Err refusal.Nothing)) (λ new. length new.requests ≤ room)
taken_fits room side None b fits = tt
taken_fits room side (Some it) true fits = tt
taken_fits room side (Some it) false fits = dropped_fits room side.requests fits

cycled_fits : (room : ℕ) (side : ChannelSide) (b : Bool) → length side.requests ≤ room → IfOk (cond b (Err refusal.ClockSpent) (Ok (record side { channel = after_cycle side.channel }))) (λ (new : ChannelSide). length new.requests ≤ room)
cycled_fits room side true fits = tt
cycled_fits room side false fits = fits

-- one item more, where the queue is not full
queued_fits : (room : ℕ) (s : State) (c : ℕ) (side : ChannelSide) (it : Item) (cause : Refusal) (b : Bool) (next : State) (o : Outcome) → is_busy side ≡ b → IsRoomOf room s.channels → FitsIn room s.channels → slice_get s.channels c ≡ Some side
    → next.channels ≡ set s.channels c (queued it side) → LeavesFit room (cond b (Err cause) (made next o))
queued_fits room s c side it cause true next o is rooms fits found same = tt
queued_fits room s c side it cause false next o is rooms fits found same =
    let apart = eqb-false (length side.requests) side.channel.config.limits.intake is in
    let limit = rooms c side found in
    let fewer = lt_of_le-ne (fits c side found) (λ full. apart (full ∙ sym limit)) in
    subst (FitsIn room) (sym same) (set_fits room s.channels c side (queued it side) fits found (omega (arith, fewer, length_push side.requests it)))

submit_fits : (room : ℕ) (s : State) (p : ℕ) (asked : Asked) → IsRoomOf room s.channels → FitsIn room s.channels → LeavesFit room (step s (Submit p asked))
submit_fits room s p asked rooms fits = at_port_has (LeavesFit room) s p (submit_by s p asked) (slice_get s.ports p) refl tt (λ port there.
    maybe_has (LeavesFit room) (λ (cause : PortError). Err (refusal_from cause)) (option_map_or (push_request s p port asked) (request_at port.core asked) (Err refusal.OutOfRange)) (refusal_of port.core asked)
    (maybe_has (LeavesFit room) (push_request s p port asked) (Err refusal.OutOfRange) (request_at port.core asked) tt (λ r prepared.
    at_channel_has (LeavesFit room) s r.place.channel (push_on s p port asked r) (slice_get s.channels r.place.channel) refl tt (λ side found.
    queued_fits room s r.place.channel side (item.Request r) (refusal.Busy r.place.channel) (is_busy side) (with_channel r.place.channel (queued (item.Request r) side) (with_port p (after_submit asked port) s)) (outcome.Accepted r.number) refl rooms fits found refl)))
    (λ cause is. tt))

take_fits : (room : ℕ) (s : State) (c : ℕ) → FitsIn room s.channels → LeavesFit room (step s (Take c))
take_fits room s c fits = at_channel_has (LeavesFit room) s c (λ side. change_channel s c outcome.Taken (taken side)) (slice_get s.channels c) refl tt (λ side found.
    change_fits room s c outcome.Taken side (taken side) fits found (taken_fits room side (slice_get side.requests 0) (is_queue_full side.channel Read || is_queue_full side.channel Write) (fits c side found)))

cycle_fits : (room : ℕ) (s : State) (c : ℕ) → FitsIn room s.channels → LeavesFit room (step s (Cycle c))
cycle_fits room s c fits = at_channel_has (LeavesFit room) s c (λ side. change_channel s c outcome.Cycled (cycled side)) (slice_get s.channels c) refl tt (λ side found.
    change_fits room s c outcome.Cycled side (cycled side) fits found (cycled_fits room side (eqb side.channel.now CLOCK_STOP) (fits c side found)))

deliver_fits : (room : ℕ) (s : State) (c : ℕ) → FitsIn room s.channels → LeavesFit room (step s (Deliver c))
deliver_fits room s c fits = at_channel_has (LeavesFit room) s c (deliver_by s c) (slice_get s.channels c) refl tt (λ side found.
    maybe_has (LeavesFit room) (push_completion s c side) (Err refusal.Nothing) (slice_get side.channel.done 0) tt (λ d first.
    maybe_has (LeavesFit room) (deliver_to s c side d) (Err refusal.QueueFull) (slice_get s.ports d.port) tt (λ port there.
    either_has (LeavesFit room) (is_completion_queue_full port) (Err refusal.QueueFull) (made (with_port d.port (after_deliver d port) (with_channel c (sent side) s)) outcome.Delivered) tt
    (set_fits room s.channels c side (sent side) fits found (fits c side found)))))

collect_fits : (room : ℕ) (s : State) (p : ℕ) → FitsIn room s.channels → LeavesFit room (step s (Collect p))
collect_fits room s p fits = at_port_has (LeavesFit room) s p (collect_by s p) (slice_get s.ports p) refl tt (λ port there.
    maybe_has (LeavesFit room) (λ (d : Completion). made (with_port p (after_collect d port) s) (outcome.Collected d.number)) (Err refusal.Nothing) (slice_get port.completions 0) tt (λ d first. fits))

release_fits : (room : ℕ) (s : State) (p : ℕ) → FitsIn room s.channels → LeavesFit room (step s (Release p))
release_fits room s p fits = at_port_has (LeavesFit room) s p (release_by s p) (slice_get s.ports p) refl tt (λ port there.
    maybe_has (LeavesFit room) (λ number. made (with_port p (after_release port) s) (outcome.Released number)) (Err refusal.Nothing) (front_number port.core.reorder) tt (λ number front. fits))

end_fits : (room : ℕ) (s : State) (p c : ℕ) → IsRoomOf room s.channels → FitsIn room s.channels → LeavesFit room (step s (End p c))
end_fits room s p c rooms fits = at_port_has (LeavesFit room) s p (λ port. at_channel s c (end_at s p c port)) (slice_get s.ports p) refl tt (λ port there.
    at_channel_has (LeavesFit room) s c (end_at s p c port) (slice_get s.channels c) refl tt (λ side found.
    either_has (LeavesFit room) (not (eqb (length port.core.reorder.outstanding) 0)) (Err refusal.NotEmpty) _ tt
    (either_has (LeavesFit room) (unwrap_or (slice_get port.pushed c) false) (Err refusal.Finished) _ tt
    (queued_fits room s c side (item.End p) (refusal.Busy c) (is_busy side) (with_channel c (queued (item.End p) side) (with_port p (after_end c port) s)) outcome.Ended refl rooms fits found refl))))

step_fits : (room : ℕ) (s : State) (event : Event) → IsRoomOf room s.channels → FitsIn room s.channels → LeavesFit room (step s event)
step_fits room s (Submit p asked) rooms fits = submit_fits room s p asked rooms fits
step_fits room s (Take c) rooms fits = take_fits room s c fits
step_fits room s (Cycle c) rooms fits = cycle_fits room s c fits
step_fits room s (Deliver c) rooms fits = deliver_fits room s c fits
step_fits room s (Collect p) rooms fits = collect_fits room s p fits
step_fits room s (Release p) rooms fits = release_fits room s p fits
step_fits room s (End p c) rooms fits = end_fits room s p c rooms fits

-- every record

after_fits : (room : ℕ) (h : History) (event : Event) (r : Step) → FitsIn room h.state.channels → LeavesFit room r → FitsIn room (after_step event h r).state.channels
after_fits room h event (Ok m) fits left = left
after_fits room h event (Err cause) fits left = fits

answer_fits : (room : ℕ) (h : History) (event : Event) (answer : Result Outcome Refusal) → IsRoomOf room h.state.channels → FitsIn room h.state.channels → FitsIn room (after_answer h event answer).state.channels
answer_fits room h event (Ok o) rooms fits = after_fits room h event (step h.state event) fits (step_fits room h.state event rooms fits)
answer_fits room h event (Err cause) rooms fits = fits

events_fit : (room : ℕ) (h : History) (events : List Answered) → ((later : List Answered) → IsRoomOf room (fold after h later).state.channels) → FitsIn room h.state.channels → FitsIn room (fold after h events).state.channels
events_fit room h [] rooms fits = fits
events_fit room h (a ∷ later) rooms fits = events_fit room (after h a) later (λ more. rooms (a ∷ more)) (answer_fits room h a.event a.answer (rooms []) fits)

rooms_are : (o : Opening) (events : List Answered) → IsRoomOf o.config.limits.intake (run o events).state.channels
rooms_are o events c side there = ap (λ (config : Config). config.limits.intake) ((core_keeps_promise o events).opened c side there).0

pub run_fits : (o : Opening) (events : List Answered) → FitsIn o.config.limits.intake (run o events).state.channels
run_fits o events = events_fit o.config.limits.intake (begun o) events (rooms_are o)
    (λ c side is. subst (λ (s : ChannelSide). length s.requests ≤ o.config.limits.intake) (sym (at_replicate o.config.geometry.channels c (opened_channel o.config o.cycle) side is)) (omega arith))
