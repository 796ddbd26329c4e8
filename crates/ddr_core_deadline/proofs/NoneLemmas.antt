-- What each event leaves done.
use Rattle.std.proofs.Common.{◌≡◌, ◌≢◌, ◌≤◌, ℕ, zero, suc, ◌||◌, Bool, true, false, not, cond, eqb, List, [], ◌∷◌, Option, Some, None, Result, Ok, Err, IfOk, drop, length, set, refl, sym, ap, subst, ◌∙◌, inl, inr, arith}
use Rattle.std.specs.List.{slice_get}
use Rattle.std.specs.Option.{option_map_or, unwrap_or}
use Rattle.std.proofs.lemmas.Bool.Decides.{eqb_tells}
use Rattle.ddr_address_map.specs.Requests.{Completion}
use Rattle.ddr_address_map.specs.declared.request.Kind.TheVariants.{Read, Write}
use Rattle.ddr_channel.specs.State.{is_queue_full}
use Rattle.ddr_ports.specs.Asked.{Asked}
use Rattle.ddr_ports.specs.State.{refusal_of, request_at}
use Rattle.ddr_ports.specs.declared.refusal.PortError.{PortError}
use Rattle.ddr_reorder.specs.Replies.{front_number}
use Rattle.ddr_rounds.specs.Rounds.{items_of, made_state, repeated, until_refused}
use Rattle.ddr_rounds.proofs.StepCounts.{at_port_has, at_channel_has, either_has, maybe_has}
use Rattle.ddr_world.specs.declared.event.Outcome.{Outcome}
use Rattle.ddr_world.specs.declared.event.Outcome.TheVariants as outcome
use Rattle.ddr_world.specs.declared.event.Refusal.{Refusal}
use Rattle.ddr_world.specs.declared.event.Refusal.TheVariants as refusal
use Rattle.ddr_world.specs.declared.item.Item.{Item}
use Rattle.ddr_world.specs.declared.item.Item.TheVariants as item
use Rattle.ddr_world.specs.Events.{Event, Submit, Take, Cycle, Deliver, Collect, Release, End}
use Rattle.ddr_world.specs.History.{Opening, History, begun, after_step, after_answer}
use Rattle.ddr_world.specs.Refusals.{refusal_from}
use Rattle.ddr_world.specs.State.{PortSide, ChannelSide, State, is_busy, is_completion_queue_full, opened_channel}
use Rattle.ddr_world.specs.Step.{Step, made, with_port, with_channel, at_channel, change_channel, queued, after_submit, push_on, push_request, submit_by, after_take, taken, cycled, sent, after_deliver, deliver_to, push_completion, deliver_by, after_collect, collect_by, after_release, release_by, after_end, end_at, step}
use Rattle.ddr_world.proofs.CoreKeeps.{replaced_at}
use Rattle.ddr_core_deadline.specs.InRounds.{IsNoCycle, NoneDone}
use Rattle.ddr_core_deadline.proofs.EventLemmas.{at_replicate}

pub begun_none : (o : Opening) → NoneDone (begun o).state
begun_none o c side is = ap (λ (s : ChannelSide). s.channel.done) (at_replicate o.config.geometry.channels c (opened_channel o.config o.cycle) side is)

-- of the channels
abbrev pub NoneIn : List ChannelSide → Type 0
NoneIn sides = (c : ℕ) (side : ChannelSide) → slice_get sides c ≡ Some side → side.channel.done ≡ []

-- and of all but one
abbrev pub NoneBut : ℕ → List ChannelSide → Type 0
NoneBut c sides = (i : ℕ) (side : ChannelSide) → i ≢ c → slice_get sides i ≡ Some side → side.channel.done ≡ []

set_none : (sides : List ChannelSide) (c : ℕ) (old new : ChannelSide) → NoneIn sides → slice_get sides c ≡ Some old → new.channel.done ≡ [] → NoneIn (set sides c new)
set_none sides c old new none was is i side there = elim (replaced_at sides c i old new side was there) [
  | inl here ↦ ap (λ (s : ChannelSide). s.channel.done) here.1 ∙ is
  | inr other ↦ none i side other.1
]

set_but : (sides : List ChannelSide) (c : ℕ) (old new : ChannelSide) → NoneBut c sides → slice_get sides c ≡ Some old → NoneBut c (set sides c new)
set_but sides c old new none was i side apart there = elim (replaced_at sides c i old new side was there) [
  | inl here ↦ absurd (apart here.0)
  | inr other ↦ none i side apart other.1
]

pub none_whole : (c : ℕ) (sides : List ChannelSide) → NoneBut c sides → ((side : ChannelSide) → slice_get sides c ≡ Some side → side.channel.done ≡ []) → NoneIn sides
none_whole c sides but here i side there = elim (eqb_tells i c) [
  | inl same ↦ here side (ap (slice_get sides) (sym same.1) ∙ there)
  | inr other ↦ but i side other.1 there
]

-- a step leaves nothing done
abbrev LeavesNone : Step → Type 0
LeavesNone (Ok m) = NoneDone m.state
LeavesNone (Err cause) = Unit {0}

-- but in one channel
abbrev LeavesBut : ℕ → Step → Type 0
LeavesBut c (Ok m) = NoneBut c m.state.channels
LeavesBut c (Err cause) = Unit {0}

change_none : (s : State) (c : ℕ) (o : Outcome) (side : ChannelSide) (r : Result ChannelSide Refusal) → NoneDone s → slice_get s.channels c ≡ Some side → IfOk r (λ new. new.channel.done ≡ []) → LeavesNone (change_channel s c o r)
change_none s c o side (Ok new) none found is = set_none s.channels c side new none found is
change_none s c o side (Err cause) none found is = tt

taken_none : (side : ChannelSide) (x : Option Item) (b : Bool) → side.channel.done ≡ [] → IfOk (option_map_or (λ it. cond b (Err refusal.QueueFull) (Ok (after_take it side))) x (Err refusal.Nothing)) (λ new. new.channel.done ≡ [])
taken_none side None b none = tt
taken_none side (Some it) true none = tt
taken_none side (Some (item.Request r)) false none = none
taken_none side (Some (item.End p)) false none = none

take_none : (s : State) (c : ℕ) → NoneDone s → LeavesNone (step s (Take c))
take_none s c none = at_channel_has LeavesNone s c (λ side. change_channel s c outcome.Taken (taken side)) (slice_get s.channels c) refl tt (λ side found.
    change_none s c outcome.Taken side (taken side) none found (taken_none side (slice_get side.requests 0) (is_queue_full side.channel Read || is_queue_full side.channel Write) (none c side found)))

submit_none : (s : State) (p : ℕ) (asked : Asked) → NoneDone s → LeavesNone (step s (Submit p asked))
submit_none s p asked none = at_port_has LeavesNone s p (submit_by s p asked) (slice_get s.ports p) refl tt (λ port there.
    maybe_has LeavesNone (λ (cause : PortError). Err (refusal_from cause)) (option_map_or (push_request s p port asked) (request_at port.core asked) (Err refusal.OutOfRange)) (refusal_of port.core asked)
    (maybe_has LeavesNone (push_request s p port asked) (Err refusal.OutOfRange) (request_at port.core asked) tt (λ r prepared.
    at_channel_has LeavesNone s r.place.channel (push_on s p port asked r) (slice_get s.channels r.place.channel) refl tt (λ side found.
    either_has LeavesNone (is_busy side) (Err (refusal.Busy r.place.channel)) (made (with_channel r.place.channel (queued (item.Request r) side) (with_port p (after_submit asked port) s)) (outcome.Accepted r.number)) tt
    (set_none s.channels r.place.channel side (queued (item.Request r) side) none found (none r.place.channel side found)))))
    (λ cause is. tt))

deliver_none : (s : State) (c : ℕ) → NoneDone s → LeavesNone (step s (Deliver c))
deliver_none s c none = at_channel_has LeavesNone s c (deliver_by s c) (slice_get s.channels c) refl tt (λ side found.
    maybe_has LeavesNone (push_completion s c side) (Err refusal.Nothing) (slice_get side.channel.done 0) tt (λ d first.
    maybe_has LeavesNone (deliver_to s c side d) (Err refusal.QueueFull) (slice_get s.ports d.port) tt (λ port there.
    either_has LeavesNone (is_completion_queue_full port) (Err refusal.QueueFull) (made (with_port d.port (after_deliver d port) (with_channel c (sent side) s)) outcome.Delivered) tt
    (set_none s.channels c side (sent side) none found (ap (drop 1) (none c side found))))))

collect_none : (s : State) (p : ℕ) → NoneDone s → LeavesNone (step s (Collect p))
collect_none s p none = at_port_has LeavesNone s p (collect_by s p) (slice_get s.ports p) refl tt (λ port there.
    maybe_has LeavesNone (λ (d : Completion). made (with_port p (after_collect d port) s) (outcome.Collected d.number)) (Err refusal.Nothing) (slice_get port.completions 0) tt (λ d first. none))

release_none : (s : State) (p : ℕ) → NoneDone s → LeavesNone (step s (Release p))
release_none s p none = at_port_has LeavesNone s p (release_by s p) (slice_get s.ports p) refl tt (λ port there.
    maybe_has LeavesNone (λ number. made (with_port p (after_release port) s) (outcome.Released number)) (Err refusal.Nothing) (front_number port.core.reorder) tt (λ number front. none))

end_none : (s : State) (p c : ℕ) → NoneDone s → LeavesNone (step s (End p c))
end_none s p c none = at_port_has LeavesNone s p (λ port. at_channel s c (end_at s p c port)) (slice_get s.ports p) refl tt (λ port there.
    at_channel_has LeavesNone s c (end_at s p c port) (slice_get s.channels c) refl tt (λ side found.
    either_has LeavesNone (not (eqb (length port.core.reorder.outstanding) 0)) (Err refusal.NotEmpty) _ tt
    (either_has LeavesNone (unwrap_or (slice_get port.pushed c) false) (Err refusal.Finished) _ tt
    (either_has LeavesNone (is_busy side) (Err (refusal.Busy c)) (made (with_channel c (queued (item.End p) side) (with_port p (after_end c port) s)) outcome.Ended) tt
    (set_none s.channels c side (queued (item.End p) side) none found (none c side found))))))

-- every event that is no cycle
step_none : (s : State) (event : Event) → IsNoCycle event → NoneDone s → LeavesNone (step s event)
step_none s (Submit p asked) other none = submit_none s p asked none
step_none s (Take c) other none = take_none s c none
step_none s (Cycle c) other none = absurd other
step_none s (Deliver c) other none = deliver_none s c none
step_none s (Collect p) other none = collect_none s p none
step_none s (Release p) other none = release_none s p none
step_none s (End p c) other none = end_none s p c none

after_none : (h : History) (event : Event) (r : Step) → NoneDone h.state → LeavesNone r → NoneDone (after_step event h r).state
after_none h event (Ok m) none left = left
after_none h event (Err cause) none left = none

pub answer_none : (h : History) (event : Event) (answer : Result Outcome Refusal) → IsNoCycle event → NoneDone h.state → NoneDone (after_answer h event answer).state
answer_none h event (Ok o) other none = after_none h event (step h.state event) none (step_none h.state event other none)
answer_none h event (Err cause) other none = none

-- what stays while an event is made stays however often it is made
stays_by : (P : State → Type 0) (event : Event) (next : State → State) → ((t : State) → P t → P (next t)) → (s : State) (r : Step) → P s → IfOk r (λ m. P m.state) → P (option_map_or next (made_state r) s)
stays_by P event next later s (Ok m) here left = later m.state left
stays_by P event next later s (Err cause) here left = here

repeated_stays : (P : State → Type 0) (event : Event) → ((t : State) → P t → IfOk (step t event) (λ m. P m.state)) → (n : ℕ) (s : State) → P s → P (repeated n event s)
repeated_stays P event stays zero s here = here
repeated_stays P event stays (suc n) s here = stays_by P event (repeated n event) (repeated_stays P event stays n) s (step s event) here (stays s here)

left_none : (r : Step) → LeavesNone r → IfOk r (λ m. NoneDone m.state)
left_none (Ok m) left = left
left_none (Err cause) left = tt

pub until_none : (event : Event) (s : State) → IsNoCycle event → NoneDone s → NoneDone (until_refused event s)
until_none event s other none = repeated_stays NoneDone event (λ t here. left_none (step t event) (step_none t event other here)) (items_of s event) s none

-- a cycle of one channel, and what it delivers

change_but : (s : State) (c : ℕ) (o : Outcome) (side : ChannelSide) (r : Result ChannelSide Refusal) → NoneBut c s.channels → slice_get s.channels c ≡ Some side → LeavesBut c (change_channel s c o r)
change_but s c o side (Ok new) none found = set_but s.channels c side new none found
change_but s c o side (Err cause) none found = tt

pub cycle_but : (s : State) (c : ℕ) → NoneDone s → IfOk (step s (Cycle c)) (λ m. NoneBut c m.state.channels)
cycle_but s c none = left_but c (step s (Cycle c)) (at_channel_has (LeavesBut c) s c (λ side. change_channel s c outcome.Cycled (cycled side)) (slice_get s.channels c) refl tt (λ side found.
    change_but s c outcome.Cycled side (cycled side) (λ i other apart there. none i other there) found))
  where
    left_but : (c : ℕ) (r : Step) → LeavesBut c r → IfOk r (λ m. NoneBut c m.state.channels)
    left_but c (Ok m) left = left
    left_but c (Err cause) left = tt

deliver_but : (s : State) (c : ℕ) → NoneBut c s.channels → IfOk (step s (Deliver c)) (λ m. NoneBut c m.state.channels)
deliver_but s c none = left_but c (step s (Deliver c)) (at_channel_has (LeavesBut c) s c (deliver_by s c) (slice_get s.channels c) refl tt (λ side found.
    maybe_has (LeavesBut c) (push_completion s c side) (Err refusal.Nothing) (slice_get side.channel.done 0) tt (λ d first.
    maybe_has (LeavesBut c) (deliver_to s c side d) (Err refusal.QueueFull) (slice_get s.ports d.port) tt (λ port there.
    either_has (LeavesBut c) (is_completion_queue_full port) (Err refusal.QueueFull) (made (with_port d.port (after_deliver d port) (with_channel c (sent side) s)) outcome.Delivered) tt
    (set_but s.channels c side (sent side) none found)))))
  where
    left_but : (c : ℕ) (r : Step) → LeavesBut c r → IfOk r (λ m. NoneBut c m.state.channels)
    left_but c (Ok m) left = left
    left_but c (Err cause) left = tt

pub delivered_but : (s : State) (c : ℕ) → NoneBut c s.channels → NoneBut c (until_refused (Deliver c) s).channels
delivered_but s c none = repeated_stays (λ (t : State). NoneBut c t.channels) (Deliver c) (λ t here. deliver_but t c here) (items_of s (Deliver c)) s none

-- where a delivery is refused for no other reason, nothing is left
refused_for : (s : State) (c : ℕ) (side : ChannelSide) (d : Completion) (cause : Refusal) (x : Option PortSide) (r : Step) → option_map_or (deliver_to s c side d) x (Err refusal.QueueFull) ≡ r → r ≢ Err refusal.QueueFull → r ≡ Err cause → ⊥
refused_for s c side d cause None r is room err = room (sym is)
refused_for s c side d cause (Some port) r is room err = by_room (is_completion_queue_full port) is
  where
    by_room : (b : Bool) → cond b (Err refusal.QueueFull) (made (with_port d.port (after_deliver d port) (with_channel c (sent side) s)) outcome.Delivered) ≡ r → ⊥
    by_room true is = room (sym is)
    by_room false is = cc

left_by : (s : State) (c : ℕ) (side : ChannelSide) (cause : Refusal) (done : List Completion) (r : Step) → option_map_or (push_completion s c side) (slice_get done 0) (Err refusal.Nothing) ≡ r → r ≢ Err refusal.QueueFull → r ≡ Err cause → done ≡ []
left_by s c side cause [] r is room err = refl
left_by s c side cause (d ∷ done) r is room err = absurd (refused_for s c side d cause (slice_get s.ports d.port) r is room err)

pub nothing_left : (s : State) (c : ℕ) (cause : Refusal) → step s (Deliver c) ≢ Err refusal.QueueFull → step s (Deliver c) ≡ Err cause → (side : ChannelSide) → slice_get s.channels c ≡ Some side → side.channel.done ≡ []
nothing_left s c cause room err side there =
    left_by s c side cause side.channel.done (step s (Deliver c)) (sym (ap (λ (x : Option ChannelSide). option_map_or (deliver_by s c) x (Err refusal.NoSuch)) there)) room err

pub none_counted : (s : State) (c : ℕ) (side : ChannelSide) → items_of s (Deliver c) ≤ 0 → slice_get s.channels c ≡ Some side → side.channel.done ≡ []
none_counted s c side none there = empty side.channel.done (subst (λ (x : Option ChannelSide). option_map_or (λ y. length y.channel.done) x 0 ≤ 0) there none)
  where
    empty : (xs : List Completion) → length xs ≤ 0 → xs ≡ []
    empty [] few = refl
    empty (x ∷ xs) few = absurd (omega (arith, few))
