-- Every record of events keeps the core.
use Rattle.std.proofs.Common.{◌≡◌, ℕ, zero, suc, ◌+◌, ◌||◌, Bool, true, false, not, cond, eqb, List, [], ◌∷◌, Option, Some, None, Result, Ok, Err, drop, length, replicate, refl, sym, ap, subst, ◌∙◌, arith}
use Rattle.std.specs.List.{sum_by, slice_get, range_with_len, fold}
use Rattle.std.specs.Option.{option_map, option_map_or, option_and_then, unwrap_or}
use Rattle.std.proofs.lemmas.List.{length-replicate}
use Rattle.std.proofs.lemmas.List.Folds.{sum_by-replicate}
use Rattle.ddr_timing.specs.declared.units.TheConstants.{CLOCK_STOP}
use Rattle.ddr_address_map.specs.declared.request.Kind.TheVariants.{Read, Write}
use Rattle.ddr_address_map.specs.Requests.{Request, Completion}
use Rattle.ddr_channel.proofs.ListLemmas.{at_map, neither}
use Rattle.ddr_channel.specs.Cycle.{after_cycle}
use Rattle.ddr_channel.specs.State.{is_queue_full}
use Rattle.ddr_reorder.specs.Replies.{Answer, nth_answer}
use Rattle.ddr_ports.specs.Asked.{Asked}
use Rattle.ddr_ports.specs.State.{refusal_of, request_at}
use Rattle.ddr_ports.specs.declared.refusal.PortError.{PortError}
use Rattle.ddr_world.specs.declared.event.Outcome.{Outcome}
use Rattle.ddr_world.specs.declared.event.Outcome.TheVariants as outcome
use Rattle.ddr_world.specs.declared.event.Refusal.{Refusal}
use Rattle.ddr_world.specs.declared.event.Refusal.TheVariants as refusal
use Rattle.ddr_world.specs.declared.item.Item.{Item}
use Rattle.ddr_world.specs.declared.item.Item.TheVariants as item
use Rattle.ddr_world.specs.Events.{Event, Submit, Take, Cycle, Deliver, Collect, Release, End}
use Rattle.ddr_world.specs.History.{Opening, Answered, History, begun, accept, admit, give, request_of, next_item, front_of, note, after_step, after_answer, after, run}
use Rattle.ddr_world.specs.Refusals.{refusal_from}
use Rattle.ddr_world.specs.State.{PortSide, ChannelSide, opened_port, opened_channel, is_busy, is_completion_queue_full}
use Rattle.ddr_world.specs.Step.{made, with_port, with_channel, at_channel, change_channel, queued, after_submit, push_on, push_request, submit_by, after_take, taken, cycled, sent, after_deliver, deliver_to, push_completion, deliver_by, after_collect, collect_by, after_release, release_by, after_end, end_at, step}
use Rattle.ddr_world.proofs.CoreFrames.{cycle_keeps}
use Rattle.ddr_world.proofs.CoreEvents.{take_request_keeps, take_end_keeps, deliver_keeps, collect_keeps, release_keeps, end_keeps}
use Rattle.ddr_world.proofs.CoreKeeps.{ChannelKeeps, PortKeeps, PortServed, CoreKeeps, held_in, delivered_in, waiting_in}
use Rattle.ddr_world.proofs.CoreSubmit.{submit_keeps}

-- before the first event

at_replicate : {X : Type 0} (n i : ℕ) (x y : X) → slice_get (replicate n x) i ≡ Some y → y ≡ x
at_replicate zero i x y is = cc
at_replicate (suc n) zero x y is = let same : y ≡ x = cc in same
at_replicate (suc n) (suc i) x y is = at_replicate n i x y is

at_range : (a n i x : ℕ) → slice_get (range_with_len a n) i ≡ Some x → x ≡ a + i
at_range a zero i x is = cc
at_range a (suc n) zero x is = let same : a ≡ x = cc in omega (arith, same)
at_range a (suc n) (suc i) x is = omega (arith, at_range (a + 1) n i x is)

opened_keeps : (o : Opening) (p : ℕ) → PortKeeps o (λ _. []) [] [] p (opened_port o.config o.number p)
opened_keeps o p = record {
  port = refl;
  geometry = refl;
  window = omega arith;
  next = omega arith;
  numbers = refl;
  accepted_are = refl;
  taken_are = refl;
  counted = refl;
  ends = length-replicate o.config.geometry.channels false;
  ended = λ c is. absurd (let same : true ≡ false = at_replicate o.config.geometry.channels c false true is in cc);
  settled = λ j e is. cc;
  right = λ j d is. cc;
}

opened_side : (o : Opening) (p : ℕ) (side : PortSide) → slice_get (begun o).state.ports p ≡ Some side → side ≡ opened_port o.config o.number p
opened_side o p side is =
    let found = at_map (opened_port o.config o.number) (range_with_len 0 o.config.limits.ports) p side is in
    let number : found.0 ≡ p = at_range 0 o.config.limits.ports p found.0 found.1 ∙ omega arith in
    sym found.2 ∙ ap (opened_port o.config o.number) number

pub begun_keeps : (o : Opening) → CoreKeeps o (begun o)
begun_keeps o = record {
  channels = λ c side is.
      subst (λ (s : ChannelSide). ChannelKeeps o [] [] s) (sym (at_replicate o.config.geometry.channels c (opened_channel o.config o.cycle) side is))
      (record { calls = []; calls_are = tt; state = refl; admitted_are = refl; accepted_are = refl });
  ports = λ p side is. subst (λ (s : PortSide). PortKeeps o (λ _. []) [] [] p s) (sym (opened_side o p side is)) (opened_keeps o p);
  accepted = λ c place r is. cc;
  sent = λ p k w is. cc;
  taken = λ p. refl;
  held = λ f p side is.
      let none : sum_by (held_in f p) (begun o).state.channels ≡ 0 = sum_by-replicate (held_in f p) o.config.geometry.channels (opened_channel o.config o.cycle) ∙ omega arith in
      ap (λ (s : PortSide). sum_by (held_in f p) (begun o).state.channels + delivered_in f s) (opened_side o p side is)
      ∙ (let left : sum_by (held_in f p) (begun o).state.channels + 0 ≡ 0 = omega (arith, none) in left) ∙ ap (waiting_in f) (sym (opened_side o p side is));
  served = λ p side is. subst (λ (s : PortSide). PortServed o.config (begun o).state s) (sym (opened_side o p side is)) (record { queue = λ j d is. cc; filled = λ j e is. cc });
  channels_are = length-replicate o.config.geometry.channels (opened_channel o.config o.cycle);
  no_port = λ p past. (refl, refl);
  no_channel = λ c past. (refl, refl);
}

-- Take

first_item : {X : Type 0} (xs : List X) (x : X) → slice_get xs 0 ≡ Some x → xs ≡ x ∷ drop 1 xs
first_item [] x is = cc
first_item (y ∷ ys) x is = let same : y ≡ x = cc in ap (λ z. z ∷ ys) same

note_take : (h : History) (c : ℕ) (side : ChannelSide) (it : Item) → slice_get h.state.channels c ≡ Some side → slice_get side.requests 0 ≡ Some it → admit c h it ≡ note (Take c) h
note_take h c side it there first =
    let next : Some it ≡ next_item h.state c = sym first ∙ ap (λ (x : Option ChannelSide). option_and_then (λ s. slice_get s.requests 0) x) (sym there) in
    ap (λ x. option_map_or (admit c h) x h) next

taken_item : (o : Opening) (h : History) (c : ℕ) (side : ChannelSide) (it : Item) → CoreKeeps o h → slice_get h.state.channels c ≡ Some side → slice_get side.requests 0 ≡ Some it
    → (is_queue_full side.channel Read ≡ false) × (is_queue_full side.channel Write ≡ false) → CoreKeeps o (record (admit c h it) { state = with_channel c (after_take it side) h.state })
taken_item o h c side (item.Request r) k there first free = take_request_keeps o h c side r (drop 1 side.requests) k there (first_item side.requests (item.Request r) first) free
taken_item o h c side (item.End p) k there first free = take_end_keeps o h c side p (drop 1 side.requests) k there (first_item side.requests (item.End p) first)

take_room : (o : Opening) (h : History) (c : ℕ) (side : ChannelSide) (it : Item) (b : Bool) → CoreKeeps o h → slice_get h.state.channels c ≡ Some side → slice_get side.requests 0 ≡ Some it
    → (is_queue_full side.channel Read || is_queue_full side.channel Write) ≡ b → CoreKeeps o (after_step (Take c) h (change_channel h.state c outcome.Taken (cond b (Err refusal.QueueFull) (Ok (after_take it side)))))
take_room o h c side it true k there first full = k
take_room o h c side it false k there first full =
    subst (λ (n : History). CoreKeeps o (record n { state = with_channel c (after_take it side) h.state })) (note_take h c side it there first)
    (taken_item o h c side it k there first (neither (is_queue_full side.channel Read) (is_queue_full side.channel Write) full))

take_first : (o : Opening) (h : History) (c : ℕ) (side : ChannelSide) (x : Option Item) → CoreKeeps o h → slice_get h.state.channels c ≡ Some side → slice_get side.requests 0 ≡ x
    → CoreKeeps o (after_step (Take c) h (change_channel h.state c outcome.Taken
    (option_map_or (λ it. cond (is_queue_full side.channel Read || is_queue_full side.channel Write) (Err refusal.QueueFull) (Ok (after_take it side))) x (Err refusal.Nothing))))
take_first o h c side None k there first = k
take_first o h c side (Some it) k there first = take_room o h c side it (is_queue_full side.channel Read || is_queue_full side.channel Write) k there first refl

take_side : (o : Opening) (h : History) (c : ℕ) (x : Option ChannelSide) → CoreKeeps o h → slice_get h.state.channels c ≡ x
    → CoreKeeps o (after_step (Take c) h (option_map_or (λ side. change_channel h.state c outcome.Taken (taken side)) x (Err refusal.NoSuch)))
take_side o h c None k there = k
take_side o h c (Some side) k there = take_first o h c side (slice_get side.requests 0) k there refl

-- Cycle

cycle_clock : (o : Opening) (h : History) (c : ℕ) (side : ChannelSide) (b : Bool) → CoreKeeps o h → slice_get h.state.channels c ≡ Some side → eqb side.channel.now CLOCK_STOP ≡ b
    → CoreKeeps o (after_step (Cycle c) h (change_channel h.state c outcome.Cycled (cond b (Err refusal.ClockSpent) (Ok (record side { channel = after_cycle side.channel })))))
cycle_clock o h c side true k there clock = k
cycle_clock o h c side false k there clock = cycle_keeps o h c side k there clock

cycle_side : (o : Opening) (h : History) (c : ℕ) (x : Option ChannelSide) → CoreKeeps o h → slice_get h.state.channels c ≡ x
    → CoreKeeps o (after_step (Cycle c) h (option_map_or (λ side. change_channel h.state c outcome.Cycled (cycled side)) x (Err refusal.NoSuch)))
cycle_side o h c None k there = k
cycle_side o h c (Some side) k there = cycle_clock o h c side (eqb side.channel.now CLOCK_STOP) k there refl

-- Deliver

deliver_room : (o : Opening) (h : History) (c : ℕ) (side : ChannelSide) (d : Completion) (port : PortSide) (b : Bool) → CoreKeeps o h → slice_get h.state.channels c ≡ Some side → slice_get side.channel.done 0 ≡ Some d
    → slice_get h.state.ports d.port ≡ Some port
    → CoreKeeps o (after_step (Deliver c) h (cond b (Err refusal.QueueFull) (made (with_port d.port (after_deliver d port) (with_channel c (sent side) h.state)) outcome.Delivered)))
deliver_room o h c side d port true k there done at = k
deliver_room o h c side d port false k there done at = deliver_keeps o h c side d port k there done at

deliver_port : (o : Opening) (h : History) (c : ℕ) (side : ChannelSide) (d : Completion) (x : Option PortSide) → CoreKeeps o h → slice_get h.state.channels c ≡ Some side → slice_get side.channel.done 0 ≡ Some d
    → slice_get h.state.ports d.port ≡ x → CoreKeeps o (after_step (Deliver c) h (option_map_or (deliver_to h.state c side d) x (Err refusal.QueueFull)))
deliver_port o h c side d None k there done at = k
deliver_port o h c side d (Some port) k there done at = deliver_room o h c side d port (is_completion_queue_full port) k there done at

deliver_done : (o : Opening) (h : History) (c : ℕ) (side : ChannelSide) (x : Option Completion) → CoreKeeps o h → slice_get h.state.channels c ≡ Some side → slice_get side.channel.done 0 ≡ x
    → CoreKeeps o (after_step (Deliver c) h (option_map_or (push_completion h.state c side) x (Err refusal.Nothing)))
deliver_done o h c side None k there done = k
deliver_done o h c side (Some d) k there done = deliver_port o h c side d (slice_get h.state.ports d.port) k there done refl

deliver_side : (o : Opening) (h : History) (c : ℕ) (x : Option ChannelSide) → CoreKeeps o h → slice_get h.state.channels c ≡ x → CoreKeeps o (after_step (Deliver c) h (option_map_or (deliver_by h.state c) x (Err refusal.NoSuch)))
deliver_side o h c None k there = k
deliver_side o h c (Some side) k there = deliver_done o h c side (slice_get side.channel.done 0) k there refl

-- Collect

collect_first : (o : Opening) (h : History) (p : ℕ) (port : PortSide) (x : Option Completion) → CoreKeeps o h → slice_get h.state.ports p ≡ Some port → slice_get port.completions 0 ≡ x
    → CoreKeeps o (after_step (Collect p) h (option_map_or (λ d. made (with_port p (after_collect d port) h.state) (outcome.Collected d.number)) x (Err refusal.Nothing)))
collect_first o h p port None k there first = k
collect_first o h p port (Some d) k there first = collect_keeps o h p port d k there first

collect_side : (o : Opening) (h : History) (p : ℕ) (x : Option PortSide) → CoreKeeps o h → slice_get h.state.ports p ≡ x → CoreKeeps o (after_step (Collect p) h (option_map_or (collect_by h.state p) x (Err refusal.NoSuch)))
collect_side o h p None k there = k
collect_side o h p (Some port) k there = collect_first o h p port (slice_get port.completions 0) k there refl

-- Release

note_release : (h : History) (p : ℕ) (port : PortSide) (a : Answer) → slice_get h.state.ports p ≡ Some port → nth_answer port.core.reorder 0 ≡ Some a → give p h a ≡ note (Release p) h
note_release h p port a there is =
    let front : Some a ≡ front_of h.state p = sym is ∙ ap (λ (x : Option PortSide). option_and_then (λ s. nth_answer s.core.reorder 0) x) (sym there) in
    ap (λ x. option_map_or (give p h) x h) front

release_front : (o : Opening) (h : History) (p : ℕ) (port : PortSide) (x : Option Answer) → CoreKeeps o h → slice_get h.state.ports p ≡ Some port → nth_answer port.core.reorder 0 ≡ x
    → CoreKeeps o (after_step (Release p) h (option_map_or (λ number. made (with_port p (after_release port) h.state) (outcome.Released number)) (option_map (λ (a : Answer). a.number) x) (Err refusal.Nothing)))
release_front o h p port None k there is = k
release_front o h p port (Some a) k there is =
    subst (λ (n : History). CoreKeeps o (record n { state = with_port p (after_release port) h.state })) (note_release h p port a there is) (release_keeps o h p port a k there is)

release_side : (o : Opening) (h : History) (p : ℕ) (x : Option PortSide) → CoreKeeps o h → slice_get h.state.ports p ≡ x → CoreKeeps o (after_step (Release p) h (option_map_or (release_by h.state p) x (Err refusal.NoSuch)))
release_side o h p None k there = k
release_side o h p (Some port) k there = release_front o h p port (nth_answer port.core.reorder 0) k there refl

-- End

end_tests : (o : Opening) (h : History) (p c : ℕ) (port : PortSide) (side : ChannelSide) (x y z : Bool) → CoreKeeps o h → slice_get h.state.ports p ≡ Some port → slice_get h.state.channels c ≡ Some side
    → CoreKeeps o (after_step (End p c) h (cond x (Err refusal.NotEmpty) (cond y (Err refusal.Finished) (cond z (Err (refusal.Busy c))
    (made (with_channel c (queued (item.End p) side) (with_port p (after_end c port) h.state)) outcome.Ended)))))
end_tests o h p c port side true y z k there at = k
end_tests o h p c port side false true z k there at = k
end_tests o h p c port side false false true k there at = k
end_tests o h p c port side false false false k there at = end_keeps o h p c port side k there at

end_channel : (o : Opening) (h : History) (p c : ℕ) (port : PortSide) (x : Option ChannelSide) → CoreKeeps o h → slice_get h.state.ports p ≡ Some port → slice_get h.state.channels c ≡ x
    → CoreKeeps o (after_step (End p c) h (option_map_or (end_at h.state p c port) x (Err refusal.NoSuch)))
end_channel o h p c port None k there at = k
end_channel o h p c port (Some side) k there at =
    end_tests o h p c port side (not (eqb (length port.core.reorder.outstanding) 0)) (unwrap_or (slice_get port.pushed c) false) (is_busy side) k there at

end_side : (o : Opening) (h : History) (p c : ℕ) (x : Option PortSide) → CoreKeeps o h → slice_get h.state.ports p ≡ x
    → CoreKeeps o (after_step (End p c) h (option_map_or (λ port. at_channel h.state c (end_at h.state p c port)) x (Err refusal.NoSuch)))
end_side o h p c None k there = k
end_side o h p c (Some port) k there = end_channel o h p c port (slice_get h.state.channels c) k there refl

-- Submit

note_submit : (h : History) (p : ℕ) (asked : Asked) (port : PortSide) (r : Request) → slice_get h.state.ports p ≡ Some port → request_at port.core asked ≡ Some r → accept p h r ≡ note (Submit p asked) h
note_submit h p asked port r there is =
    let request : Some r ≡ request_of h.state p asked = sym is ∙ ap (λ (x : Option PortSide). option_and_then (λ s. request_at s.core asked) x) (sym there) in
    ap (λ x. option_map_or (accept p h) x h) request

submit_busy : (o : Opening) (h : History) (p : ℕ) (asked : Asked) (port : PortSide) (r : Request) (side : ChannelSide) (b : Bool) → CoreKeeps o h → slice_get h.state.ports p ≡ Some port → refusal_of port.core asked ≡ None
    → request_at port.core asked ≡ Some r → slice_get h.state.channels r.place.channel ≡ Some side
    → CoreKeeps o (after_step (Submit p asked) h (cond b (Err (refusal.Busy r.place.channel))
    (made (with_channel r.place.channel (queued (item.Request r) side) (with_port p (after_submit asked port) h.state)) (outcome.Accepted r.number))))
submit_busy o h p asked port r side true k there free request at = k
submit_busy o h p asked port r side false k there free request at =
    subst (λ (n : History). CoreKeeps o (record n { state = with_channel r.place.channel (queued (item.Request r) side) (with_port p (after_submit asked port) h.state) })) (note_submit h p asked port r there request)
    (submit_keeps o h p port asked r side k there free request at)

submit_channel : (o : Opening) (h : History) (p : ℕ) (asked : Asked) (port : PortSide) (r : Request) (x : Option ChannelSide) → CoreKeeps o h → slice_get h.state.ports p ≡ Some port → refusal_of port.core asked ≡ None
    → request_at port.core asked ≡ Some r → slice_get h.state.channels r.place.channel ≡ x
    → CoreKeeps o (after_step (Submit p asked) h (option_map_or (push_on h.state p port asked r) x (Err refusal.NoSuch)))
submit_channel o h p asked port r None k there free request at = k
submit_channel o h p asked port r (Some side) k there free request at = submit_busy o h p asked port r side (is_busy side) k there free request at

submit_request : (o : Opening) (h : History) (p : ℕ) (asked : Asked) (port : PortSide) (x : Option Request) → CoreKeeps o h → slice_get h.state.ports p ≡ Some port → refusal_of port.core asked ≡ None
    → request_at port.core asked ≡ x → CoreKeeps o (after_step (Submit p asked) h (option_map_or (push_request h.state p port asked) x (Err refusal.OutOfRange)))
submit_request o h p asked port None k there free request = k
submit_request o h p asked port (Some r) k there free request = submit_channel o h p asked port r (slice_get h.state.channels r.place.channel) k there free request refl

submit_free : (o : Opening) (h : History) (p : ℕ) (asked : Asked) (port : PortSide) (x : Option PortError) → CoreKeeps o h → slice_get h.state.ports p ≡ Some port → refusal_of port.core asked ≡ x
    → CoreKeeps o (after_step (Submit p asked) h (option_map_or (λ cause. Err (refusal_from cause)) x (option_map_or (push_request h.state p port asked) (request_at port.core asked) (Err refusal.OutOfRange))))
submit_free o h p asked port None k there free = submit_request o h p asked port (request_at port.core asked) k there free refl
submit_free o h p asked port (Some cause) k there free = k

submit_side : (o : Opening) (h : History) (p : ℕ) (asked : Asked) (x : Option PortSide) → CoreKeeps o h → slice_get h.state.ports p ≡ x → CoreKeeps o (after_step (Submit p asked) h (option_map_or (submit_by h.state p asked) x (Err refusal.NoSuch)))
submit_side o h p asked None k there = k
submit_side o h p asked (Some port) k there = submit_free o h p asked port (refusal_of port.core asked) k there refl

-- every record

step_keeps : (o : Opening) (h : History) (event : Event) → CoreKeeps o h → CoreKeeps o (after_step event h (step h.state event))
step_keeps o h (Submit p asked) k = submit_side o h p asked (slice_get h.state.ports p) k refl
step_keeps o h (Take c) k = take_side o h c (slice_get h.state.channels c) k refl
step_keeps o h (Cycle c) k = cycle_side o h c (slice_get h.state.channels c) k refl
step_keeps o h (Deliver c) k = deliver_side o h c (slice_get h.state.channels c) k refl
step_keeps o h (Collect p) k = collect_side o h p (slice_get h.state.ports p) k refl
step_keeps o h (Release p) k = release_side o h p (slice_get h.state.ports p) k refl
step_keeps o h (End p c) k = end_side o h p c (slice_get h.state.ports p) k refl

answer_keeps : (o : Opening) (h : History) (event : Event) (answer : Result Outcome Refusal) → CoreKeeps o h → CoreKeeps o (after_answer h event answer)
answer_keeps o h event (Ok out) k = step_keeps o h event k
answer_keeps o h event (Err cause) k = k

events_keep : (o : Opening) (h : History) (events : List Answered) → CoreKeeps o h → CoreKeeps o (fold after h events)
events_keep o h [] k = k
events_keep o h (a ∷ events) k = events_keep o (after h a) events (answer_keeps o h a.event a.answer k)

pub run_keeps : (o : Opening) (events : List Answered) → CoreKeeps o (run o events)
run_keeps o events = events_keep o (begun o) events (begun_keeps o)
