-- What each event makes of a channel of the core of which it is known by which calls it came about.
use Rattle.std.proofs.Common.{◌≡◌, ℕ, zero, suc, ◌||◌, Bool, true, false, not, cond, eqb, List, [], ◌∷◌, ◌++◌, Option, Some, None, IfSome, Result, Ok, Err, OnOk, drop, length, replicate, set, refl, sym, ap, subst, ◌∙◌, inl, inr, arith}
use Rattle.std.specs.List.{slice_get, fold}
use Rattle.std.specs.Option.{option_map_or, option_and_then, unwrap_or}
use Rattle.std.proofs.lemmas.Bool.{eqb-false}
use Rattle.std.proofs.lemmas.List.{append_assoc}
use Rattle.circular_buffer.proofs.Places.{slice_get-append_right}
use Rattle.ddr_timing.specs.declared.units.TheConstants.{CLOCK_STOP}
use Rattle.ddr_address_map.specs.declared.request.Kind.TheVariants.{Read, Write}
use Rattle.ddr_address_map.specs.Requests.{Request, Completion}
use Rattle.ddr_channel.proofs.ListLemmas.{neither}
use Rattle.ddr_channel.specs.Cycle.{after_cycle}
use Rattle.ddr_channel.specs.History as channel
use Rattle.ddr_channel.specs.History.{Call}
use Rattle.ddr_channel.specs.State.{after_admit, is_queue_full}
use Rattle.ddr_latency.specs.Bound.{leaves_room}
use Rattle.ddr_deadline.proofs.OnWayLemmas.{in_time_run}
use Rattle.ddr_reorder.specs.Replies.{Answer, front_number}
use Rattle.ddr_ports.specs.Asked.{Asked}
use Rattle.ddr_ports.specs.State.{refusal_of, request_at}
use Rattle.ddr_ports.specs.declared.refusal.PortError.{PortError}
use Rattle.ddr_world.specs.declared.event.Outcome.{Outcome}
use Rattle.ddr_world.specs.declared.event.Outcome.TheVariants as outcome
use Rattle.ddr_world.specs.declared.event.Refusal.{Refusal}
use Rattle.ddr_world.specs.declared.event.Refusal.TheVariants as refusal
use Rattle.ddr_world.specs.declared.item.Item.{Item}
use Rattle.ddr_world.specs.declared.item.Item.TheVariants as item
use Rattle.ddr_world.specs.Events.{Event, Submit, Take, Cycle, Deliver, Collect, Release, End}
use Rattle.ddr_world.specs.History.{Opening, Answered, History, begun, accept, admit, give, next_item, front_of, request_of, with_next, after_step, after_answer, after, run}
use Rattle.ddr_world.specs.Refusals.{refusal_from}
use Rattle.ddr_world.specs.State.{PortSide, ChannelSide, opened_channel, is_busy, is_completion_queue_full}
use Rattle.ddr_world.specs.Step.{Step, made, with_port, with_channel, at_channel, change_channel, queued, after_submit, push_on, push_request, submit_by, after_take, taken, cycled, sent, after_deliver, deliver_to, push_completion, deliver_by, after_collect, collect_by, after_release, release_by, after_end, end_at, step}
use Rattle.ddr_world.proofs.CoreFrames.{with_next_other, with_next_same}
use Rattle.ddr_world.proofs.CoreKeeps.{requests_in, CoreKeeps, replaced_at}
use Rattle.ddr_world.proofs.CoreRuns.{run_keeps}
use Rattle.ddr_world.proofs.PlaceLemmas.{placed_in_range}
use Rattle.ddr_core_deadline.specs.InCore.{FindsAllTakenIn, TakesAllIn, taken_by, call_of_step, call_of_answer, calls_of, IsChannelInTime}
use Rattle.ddr_core_deadline.proofs.CallLemmas.{IsMadeBy, IsMadeAt, made_cycle, made_pop, made_admit, made_none, none_at, changed_at}

abbrev pub IsMadeIn : Opening → ℕ → List Call → History → Type 0
IsMadeIn o c calls h = IsMadeAt o c (h.admitted c) calls h.state.channels

-- behind a step
abbrev IsMadeAfter : Opening → ℕ → List Call → History → Event → Step → Type 0
IsMadeAfter o c calls h event s = IsMadeIn o c (calls ++ call_of_step h.state c event s) (after_step event h s)

-- an event that changes no channel, but for what is queued and which Ends it noted
kept_at : (o : Opening) (c t : ℕ) (h : History) (calls : List Call) (old new : ChannelSide) → IsMadeIn o c calls h → slice_get h.state.channels t ≡ Some old → new.channel ≡ old.channel
    → IsMadeAt o c (h.admitted c) (calls ++ []) (set h.state.channels t new)
kept_at o c t h calls old new k was same side is = elim (replaced_at h.state.channels t c old new side was is) [
  | inl here ↦ made_none o (h.admitted c) calls old.channel side.channel (ap (λ (s : ChannelSide). s.channel) here.1 ∙ same) (k old (ap (slice_get h.state.channels) here.0 ∙ was))
  | inr other ↦ made_none o (h.admitted c) calls side.channel side.channel refl (k side other.1)
]

-- Take

first_item : {X : Type 0} (xs : List X) (x : X) → slice_get xs 0 ≡ Some x → xs ≡ x ∷ drop 1 xs
first_item [] x is = cc
first_item (y ∷ ys) x is = let same : y ≡ x = cc in ap (λ z. z ∷ ys) same

take_request : (o : Opening) (c t : ℕ) (h : History) (calls : List Call) (side : ChannelSide) (r : Request) → CoreKeeps o h → IsMadeIn o c calls h → slice_get h.state.channels t ≡ Some side
    → slice_get side.requests 0 ≡ Some (item.Request r) → (is_queue_full side.channel Read ≡ false) × (is_queue_full side.channel Write ≡ false)
    → IsMadeAt o c (with_next h.admitted t r c) (calls ++ cond (eqb t c) (channel.Admit r ∷ []) []) (set h.state.channels t (after_take (item.Request r) side))
take_request o c t h calls side r core k there first free =
    let rest = drop 1 side.requests in
    let keeps = core.channels t side there in
    let list : h.admitted t ++ (r ∷ requests_in rest) ≡ h.accepted t = ap (λ (its : List Item). h.admitted t ++ requests_in its) (sym (first_item side.requests (item.Request r) first)) ∙ keeps.accepted_are in
    let here : slice_get (h.accepted t) (length (h.admitted t)) ≡ Some r =
    ap (λ (rs : List Request). slice_get rs (length (h.admitted t))) (sym list) ∙ slice_get-append_right (h.admitted t) (r ∷ requests_in rest) (length (h.admitted t)) 0 (omega arith) in
    let back = core.accepted t (length (h.admitted t)) r here in
    let served = placed_in_range o.config.geometry r.echo.addr r.place back.placed.placed in
    let longer : t ≡ c → h.admitted c ++ r ∷ [] ≡ with_next h.admitted t r c = λ same. ap (λ i. h.admitted i ++ r ∷ []) (sym same) ∙ sym (with_next_same h.admitted t r) ∙ ap (with_next h.admitted t r) same in
    changed_at o c t (h.admitted c) (with_next h.admitted t r c) calls (channel.Admit r ∷ []) h.state.channels side (after_take (item.Request r) side) (eqb t c) refl k there
    (λ same by. subst (λ (rs : List Request). IsMadeBy o rs (calls ++ channel.Admit r ∷ []) (after_admit r side.channel)) (longer same) (made_admit o (h.admitted c) calls side.channel r free served by))
    (λ other. with_next_other h.admitted t r c (λ same. eqb-false t c other (sym same)))

take_item : (o : Opening) (c t : ℕ) (h : History) (calls : List Call) (side : ChannelSide) (it : Item) → CoreKeeps o h → IsMadeIn o c calls h → slice_get h.state.channels t ≡ Some side
    → slice_get side.requests 0 ≡ Some it → (is_queue_full side.channel Read ≡ false) × (is_queue_full side.channel Write ≡ false)
    → IsMadeAt o c ((admit t h it).admitted c) (calls ++ cond (eqb t c) (taken_by it) []) (set h.state.channels t (after_take it side))
take_item o c t h calls side (item.Request r) core k there first free = take_request o c t h calls side r core k there first free
take_item o c t h calls side (item.End p) core k there first free =
    changed_at o c t (h.admitted c) (h.admitted c) calls [] h.state.channels side (after_take (item.End p) side) (eqb t c) refl k there
    (λ same by. made_none o (h.admitted c) calls side.channel side.channel refl by) (λ other. refl)

take_room : (o : Opening) (c t : ℕ) (h : History) (calls : List Call) (side : ChannelSide) (it : Item) (b : Bool) → CoreKeeps o h → IsMadeIn o c calls h → slice_get h.state.channels t ≡ Some side
    → slice_get side.requests 0 ≡ Some it → (is_queue_full side.channel Read || is_queue_full side.channel Write) ≡ b
    → IsMadeAfter o c calls h (Take t) (change_channel h.state t outcome.Taken (cond b (Err refusal.QueueFull) (Ok (after_take it side))))
take_room o c t h calls side it true core k there first full = none_at o c (h.admitted c) calls h.state.channels k
take_room o c t h calls side it false core k there first full =
    let next : Some it ≡ next_item h.state t = sym first ∙ ap (λ (x : Option ChannelSide). option_and_then (λ s. slice_get s.requests 0) x) (sym there) in
    subst (λ (x : Option Item). IsMadeAt o c ((option_map_or (admit t h) x h).admitted c) (calls ++ cond (eqb t c) (option_map_or taken_by x []) []) (set h.state.channels t (after_take it side))) next
    (take_item o c t h calls side it core k there first (neither (is_queue_full side.channel Read) (is_queue_full side.channel Write) full))

take_first : (o : Opening) (c t : ℕ) (h : History) (calls : List Call) (side : ChannelSide) (x : Option Item) → CoreKeeps o h → IsMadeIn o c calls h → slice_get h.state.channels t ≡ Some side → slice_get side.requests 0 ≡ x
    → IsMadeAfter o c calls h (Take t) (change_channel h.state t outcome.Taken
    (option_map_or (λ it. cond (is_queue_full side.channel Read || is_queue_full side.channel Write) (Err refusal.QueueFull) (Ok (after_take it side))) x (Err refusal.Nothing)))
take_first o c t h calls side None core k there first = none_at o c (h.admitted c) calls h.state.channels k
take_first o c t h calls side (Some it) core k there first = take_room o c t h calls side it (is_queue_full side.channel Read || is_queue_full side.channel Write) core k there first refl

take_side : (o : Opening) (c t : ℕ) (h : History) (calls : List Call) (x : Option ChannelSide) → CoreKeeps o h → IsMadeIn o c calls h → slice_get h.state.channels t ≡ x
    → IsMadeAfter o c calls h (Take t) (option_map_or (λ side. change_channel h.state t outcome.Taken (taken side)) x (Err refusal.NoSuch))
take_side o c t h calls None core k there = none_at o c (h.admitted c) calls h.state.channels k
take_side o c t h calls (Some side) core k there = take_first o c t h calls side (slice_get side.requests 0) core k there refl

-- Cycle

cycle_clock : (o : Opening) (c t : ℕ) (h : History) (calls : List Call) (side : ChannelSide) (b : Bool) → IsMadeIn o c calls h → slice_get h.state.channels t ≡ Some side → side.channel.done ≡ [] → eqb side.channel.now CLOCK_STOP ≡ b
    → IsMadeAfter o c calls h (Cycle t) (change_channel h.state t outcome.Cycled (cond b (Err refusal.ClockSpent) (Ok (record side { channel = after_cycle side.channel }))))
cycle_clock o c t h calls side true k there finds clock = none_at o c (h.admitted c) calls h.state.channels k
cycle_clock o c t h calls side false k there finds clock =
    changed_at o c t (h.admitted c) (h.admitted c) calls (channel.Cycle ∷ []) h.state.channels side (record side { channel = after_cycle side.channel }) (eqb t c) refl k there
    (λ same by. made_cycle o (h.admitted c) calls side.channel clock finds by) (λ other. refl)

cycle_side : (o : Opening) (c t : ℕ) (h : History) (calls : List Call) (x : Option ChannelSide) → IsMadeIn o c calls h → slice_get h.state.channels t ≡ x → IfSome x (λ side. side.channel.done ≡ [])
    → IsMadeAfter o c calls h (Cycle t) (option_map_or (λ side. change_channel h.state t outcome.Cycled (cycled side)) x (Err refusal.NoSuch))
cycle_side o c t h calls None k there finds = none_at o c (h.admitted c) calls h.state.channels k
cycle_side o c t h calls (Some side) k there finds = cycle_clock o c t h calls side (eqb side.channel.now CLOCK_STOP) k there finds refl

-- Deliver

deliver_room : (o : Opening) (c t : ℕ) (h : History) (calls : List Call) (side : ChannelSide) (d : Completion) (port : PortSide) (b : Bool) → IsMadeIn o c calls h → slice_get h.state.channels t ≡ Some side
    → IsMadeAfter o c calls h (Deliver t) (cond b (Err refusal.QueueFull) (made (with_port d.port (after_deliver d port) (with_channel t (sent side) h.state)) outcome.Delivered))
deliver_room o c t h calls side d port true k there = none_at o c (h.admitted c) calls h.state.channels k
deliver_room o c t h calls side d port false k there =
    changed_at o c t (h.admitted c) (h.admitted c) calls (channel.Pop ∷ []) h.state.channels side (sent side) (eqb t c) refl k there
    (λ same by. made_pop o (h.admitted c) calls side.channel by) (λ other. refl)

deliver_port : (o : Opening) (c t : ℕ) (h : History) (calls : List Call) (side : ChannelSide) (d : Completion) (x : Option PortSide) → IsMadeIn o c calls h → slice_get h.state.channels t ≡ Some side
    → IsMadeAfter o c calls h (Deliver t) (option_map_or (deliver_to h.state t side d) x (Err refusal.QueueFull))
deliver_port o c t h calls side d None k there = none_at o c (h.admitted c) calls h.state.channels k
deliver_port o c t h calls side d (Some port) k there = deliver_room o c t h calls side d port (is_completion_queue_full port) k there

deliver_done : (o : Opening) (c t : ℕ) (h : History) (calls : List Call) (side : ChannelSide) (x : Option Completion) → IsMadeIn o c calls h → slice_get h.state.channels t ≡ Some side
    → IsMadeAfter o c calls h (Deliver t) (option_map_or (push_completion h.state t side) x (Err refusal.Nothing))
deliver_done o c t h calls side None k there = none_at o c (h.admitted c) calls h.state.channels k
deliver_done o c t h calls side (Some d) k there = deliver_port o c t h calls side d (slice_get h.state.ports d.port) k there

deliver_side : (o : Opening) (c t : ℕ) (h : History) (calls : List Call) (x : Option ChannelSide) → IsMadeIn o c calls h → slice_get h.state.channels t ≡ x
    → IsMadeAfter o c calls h (Deliver t) (option_map_or (deliver_by h.state t) x (Err refusal.NoSuch))
deliver_side o c t h calls None k there = none_at o c (h.admitted c) calls h.state.channels k
deliver_side o c t h calls (Some side) k there = deliver_done o c t h calls side (slice_get side.channel.done 0) k there

-- Collect

collect_first : (o : Opening) (c p : ℕ) (h : History) (calls : List Call) (port : PortSide) (x : Option Completion) → IsMadeIn o c calls h
    → IsMadeAfter o c calls h (Collect p) (option_map_or (λ d. made (with_port p (after_collect d port) h.state) (outcome.Collected d.number)) x (Err refusal.Nothing))
collect_first o c p h calls port None k = none_at o c (h.admitted c) calls h.state.channels k
collect_first o c p h calls port (Some d) k = none_at o c (h.admitted c) calls h.state.channels k

collect_side : (o : Opening) (c p : ℕ) (h : History) (calls : List Call) (x : Option PortSide) → IsMadeIn o c calls h → IsMadeAfter o c calls h (Collect p) (option_map_or (collect_by h.state p) x (Err refusal.NoSuch))
collect_side o c p h calls None k = none_at o c (h.admitted c) calls h.state.channels k
collect_side o c p h calls (Some port) k = collect_first o c p h calls port (slice_get port.completions 0) k

-- Release

given : (h : History) (c p : ℕ) (x : Option Answer) → (option_map_or (give p h) x h).admitted c ≡ h.admitted c
given h c p None = refl
given h c p (Some a) = refl

release_front : (o : Opening) (c p : ℕ) (h : History) (calls : List Call) (port : PortSide) (x : Option ℕ) → IsMadeIn o c calls h
    → IsMadeAfter o c calls h (Release p) (option_map_or (λ number. made (with_port p (after_release port) h.state) (outcome.Released number)) x (Err refusal.Nothing))
release_front o c p h calls port None k = none_at o c (h.admitted c) calls h.state.channels k
release_front o c p h calls port (Some n) k =
    subst (λ (rs : List Request). IsMadeAt o c rs (calls ++ []) h.state.channels) (sym (given h c p (front_of h.state p))) (none_at o c (h.admitted c) calls h.state.channels k)

release_side : (o : Opening) (c p : ℕ) (h : History) (calls : List Call) (x : Option PortSide) → IsMadeIn o c calls h → IsMadeAfter o c calls h (Release p) (option_map_or (release_by h.state p) x (Err refusal.NoSuch))
release_side o c p h calls None k = none_at o c (h.admitted c) calls h.state.channels k
release_side o c p h calls (Some port) k = release_front o c p h calls port (front_number port.core.reorder) k

-- End

end_tests : (o : Opening) (c p t : ℕ) (h : History) (calls : List Call) (port : PortSide) (side : ChannelSide) (x y z : Bool) → IsMadeIn o c calls h → slice_get h.state.channels t ≡ Some side
    → IsMadeAfter o c calls h (End p t) (cond x (Err refusal.NotEmpty) (cond y (Err refusal.Finished) (cond z (Err (refusal.Busy t))
    (made (with_channel t (queued (item.End p) side) (with_port p (after_end t port) h.state)) outcome.Ended))))
end_tests o c p t h calls port side true y z k there = none_at o c (h.admitted c) calls h.state.channels k
end_tests o c p t h calls port side false true z k there = none_at o c (h.admitted c) calls h.state.channels k
end_tests o c p t h calls port side false false true k there = none_at o c (h.admitted c) calls h.state.channels k
end_tests o c p t h calls port side false false false k there = kept_at o c t h calls side (queued (item.End p) side) k there refl

end_channel : (o : Opening) (c p t : ℕ) (h : History) (calls : List Call) (port : PortSide) (x : Option ChannelSide) → IsMadeIn o c calls h → slice_get h.state.channels t ≡ x
    → IsMadeAfter o c calls h (End p t) (option_map_or (end_at h.state p t port) x (Err refusal.NoSuch))
end_channel o c p t h calls port None k there = none_at o c (h.admitted c) calls h.state.channels k
end_channel o c p t h calls port (Some side) k there =
    end_tests o c p t h calls port side (not (eqb (length port.core.reorder.outstanding) 0)) (unwrap_or (slice_get port.pushed t) false) (is_busy side) k there

end_side : (o : Opening) (c p t : ℕ) (h : History) (calls : List Call) (x : Option PortSide) → IsMadeIn o c calls h
    → IsMadeAfter o c calls h (End p t) (option_map_or (λ port. at_channel h.state t (end_at h.state p t port)) x (Err refusal.NoSuch))
end_side o c p t h calls None k = none_at o c (h.admitted c) calls h.state.channels k
end_side o c p t h calls (Some port) k = end_channel o c p t h calls port (slice_get h.state.channels t) k refl

-- Submit

asked_for : (h : History) (c p : ℕ) (x : Option Request) → (option_map_or (accept p h) x h).admitted c ≡ h.admitted c
asked_for h c p None = refl
asked_for h c p (Some r) = refl

submit_busy : (o : Opening) (c p : ℕ) (asked : Asked) (h : History) (calls : List Call) (port : PortSide) (r : Request) (side : ChannelSide) (b : Bool) → IsMadeIn o c calls h → slice_get h.state.channels r.place.channel ≡ Some side
    → IsMadeAfter o c calls h (Submit p asked) (cond b (Err (refusal.Busy r.place.channel))
    (made (with_channel r.place.channel (queued (item.Request r) side) (with_port p (after_submit asked port) h.state)) (outcome.Accepted r.number)))
submit_busy o c p asked h calls port r side true k there = none_at o c (h.admitted c) calls h.state.channels k
submit_busy o c p asked h calls port r side false k there =
    subst (λ (rs : List Request). IsMadeAt o c rs (calls ++ []) (set h.state.channels r.place.channel (queued (item.Request r) side))) (sym (asked_for h c p (request_of h.state p asked)))
    (kept_at o c r.place.channel h calls side (queued (item.Request r) side) k there refl)

submit_channel : (o : Opening) (c p : ℕ) (asked : Asked) (h : History) (calls : List Call) (port : PortSide) (r : Request) (x : Option ChannelSide) → IsMadeIn o c calls h → slice_get h.state.channels r.place.channel ≡ x
    → IsMadeAfter o c calls h (Submit p asked) (option_map_or (push_on h.state p port asked r) x (Err refusal.NoSuch))
submit_channel o c p asked h calls port r None k there = none_at o c (h.admitted c) calls h.state.channels k
submit_channel o c p asked h calls port r (Some side) k there = submit_busy o c p asked h calls port r side (is_busy side) k there

submit_request : (o : Opening) (c p : ℕ) (asked : Asked) (h : History) (calls : List Call) (port : PortSide) (x : Option Request) → IsMadeIn o c calls h
    → IsMadeAfter o c calls h (Submit p asked) (option_map_or (push_request h.state p port asked) x (Err refusal.OutOfRange))
submit_request o c p asked h calls port None k = none_at o c (h.admitted c) calls h.state.channels k
submit_request o c p asked h calls port (Some r) k = submit_channel o c p asked h calls port r (slice_get h.state.channels r.place.channel) k refl

submit_free : (o : Opening) (c p : ℕ) (asked : Asked) (h : History) (calls : List Call) (port : PortSide) (x : Option PortError) → IsMadeIn o c calls h
    → IsMadeAfter o c calls h (Submit p asked) (option_map_or (λ cause. Err (refusal_from cause)) x (option_map_or (push_request h.state p port asked) (request_at port.core asked) (Err refusal.OutOfRange)))
submit_free o c p asked h calls port None k = submit_request o c p asked h calls port (request_at port.core asked) k
submit_free o c p asked h calls port (Some cause) k = none_at o c (h.admitted c) calls h.state.channels k

submit_side : (o : Opening) (c p : ℕ) (asked : Asked) (h : History) (calls : List Call) (x : Option PortSide) → IsMadeIn o c calls h → IsMadeAfter o c calls h (Submit p asked) (option_map_or (submit_by h.state p asked) x (Err refusal.NoSuch))
submit_side o c p asked h calls None k = none_at o c (h.admitted c) calls h.state.channels k
submit_side o c p asked h calls (Some port) k = submit_free o c p asked h calls port (refusal_of port.core asked) k

-- every record

step_made : (o : Opening) (c : ℕ) (h : History) (calls : List Call) (event : Event) → CoreKeeps o h → FindsAllTakenIn h.state event → IsMadeIn o c calls h → IsMadeAfter o c calls h event (step h.state event)
step_made o c h calls (Submit p asked) core finds k = submit_side o c p asked h calls (slice_get h.state.ports p) k
step_made o c h calls (Take t) core finds k = take_side o c t h calls (slice_get h.state.channels t) core k refl
step_made o c h calls (Cycle t) core finds k = cycle_side o c t h calls (slice_get h.state.channels t) k refl finds
step_made o c h calls (Deliver t) core finds k = deliver_side o c t h calls (slice_get h.state.channels t) k refl
step_made o c h calls (Collect p) core finds k = collect_side o c p h calls (slice_get h.state.ports p) k
step_made o c h calls (Release p) core finds k = release_side o c p h calls (slice_get h.state.ports p) k
step_made o c h calls (End p t) core finds k = end_side o c p t h calls (slice_get h.state.ports p) k

pub answer_made : (o : Opening) (c : ℕ) (h : History) (calls : List Call) (event : Event) (answer : Result Outcome Refusal) → CoreKeeps o h → OnOk answer (FindsAllTakenIn h.state event) → IsMadeIn o c calls h
    → IsMadeIn o c (calls ++ call_of_answer h.state c event answer) (after_answer h event answer)
answer_made o c h calls event (Ok out) core finds k = step_made o c h calls event core finds k
answer_made o c h calls event (Err cause) core finds k = none_at o c (h.admitted c) calls h.state.channels k

events_made : (o : Opening) (c : ℕ) (h : History) (calls : List Call) (events : List Answered) → ((later : List Answered) → CoreKeeps o (fold after h later)) → TakesAllIn h events → IsMadeIn o c calls h
    → IsMadeIn o c (calls ++ calls_of c h events) (fold after h events)
events_made o c h calls [] core takes k = none_at o c (h.admitted c) calls h.state.channels k
events_made o c h calls (a ∷ later) core takes k =
    let first = call_of_answer h.state c a.event a.answer in
    subst (λ (cs : List Call). IsMadeIn o c cs (fold after (after h a) later)) (append_assoc calls first (calls_of c (after h a) later))
    (events_made o c (after h a) (calls ++ first) later (λ more. core (a ∷ more)) takes.1 (answer_made o c h calls a.event a.answer (core []) takes.0 k))

-- before the first event

pub at_replicate : {X : Type 0} (n i : ℕ) (x y : X) → slice_get (replicate n x) i ≡ Some y → y ≡ x
at_replicate zero i x y is = cc
at_replicate (suc n) zero x y is = let same : y ≡ x = cc in same
at_replicate (suc n) (suc i) x y is = at_replicate n i x y is

pub begun_made : (o : Opening) (c : ℕ) → IsMadeIn o c [] (begun o)
begun_made o c side is =
    subst (λ (s : ChannelSide). IsMadeBy o [] [] s.channel) (sym (at_replicate o.config.geometry.channels c (opened_channel o.config o.cycle) side is))
    (record { are = tt; takes = tt; state = refl; admitted_are = refl })

pub core_in_time : (o : Opening) (events : List Answered) → TakesAllIn (begun o) events → leaves_room o.config ≡ true → (c : ℕ) (side : ChannelSide) → slice_get (run o events).state.channels c ≡ Some side
    → IsChannelInTime o (run o events) c (calls_of c (begun o) events) side
core_in_time o events takes leaves c side there =
    let by = events_made o c (begun o) [] events (run_keeps o) takes (begun_made o c) side there in
    record {
      state = by.state;
      admitted = by.admitted_are;
      takes = by.takes;
      in_time = in_time_run o.config o.cycle (calls_of c (begun o) events) leaves by.are by.takes;
    }
