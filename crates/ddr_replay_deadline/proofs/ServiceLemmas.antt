-- When a port's requests were served, as it is told: in the cycles of their own column commands.
use Rattle.std.proofs.Common.{◌≡◌, ◌≢◌, ◌≤◌, ◌<◌, ◌+◌, ℕ, suc, Bool, true, false, not, cond, eqb, List, [], ◌∷◌, ◌++◌, Option, Some, None, Result, Ok, Err, drop, is_none, length, set, refl, sym, ap, subst, ◌∙◌, inl, inr, arith}
use Rattle.std.specs.List.{slice_get}
use Rattle.std.specs.Option.{option_map, option_map_or, option_and_then, unwrap_or}
use Rattle.std.proofs.lemmas.Bool.{eqb-false, eqb-true}
use Rattle.std.proofs.lemmas.List.{length_push}
use Rattle.circular_buffer.proofs.Places.{slice_get-drop, slice_get-append_right}
use Rattle.ddr_timing.specs.declared.units.TheConstants.{CLOCK_STOP}
use Rattle.ddr_address_map.specs.Map.{place_of}
use Rattle.ddr_address_map.specs.Requests.{Request, Completion}
use Rattle.ddr_channel.specs.History.{Call, Owner}
use Rattle.ddr_channel.specs.State as channel_state
use Rattle.ddr_channel.proofs.ListLemmas.{at_map}
use Rattle.ddr_channel.proofs.PromiseLemmas.{promise_kept}
use Rattle.ddr_reorder.specs.declared.refusal.ReorderError.{ReorderError}
use Rattle.ddr_reorder.specs.declared.refusal.ReorderError.TheVariants.{Spent, WindowFull}
use Rattle.ddr_reorder.specs.declared.reply.Service.{Service}
use Rattle.ddr_reorder.specs.Replies.{Answer, nth_answer}
use Rattle.ddr_reorder.specs.State.{Outstanding, awaits, filled}
use Rattle.ddr_ports.specs.Asked.{Asked, echo_of, first_address, is_within_line, len_of}
use Rattle.ddr_ports.specs.Refusals as port_refusals
use Rattle.ddr_ports.specs.State.{after_fill, refusal_of, request_at, service_of}
use Rattle.ddr_ports.specs.declared.refusal.PortError.{PortError}
use Rattle.ddr_ports.specs.declared.refusal.PortError.TheVariants as port_error
use Rattle.ddr_rounds.proofs.StepCounts.{at_port_has, at_channel_has, either_has, maybe_has}
use Rattle.ddr_world.specs.declared.event.Outcome.{Outcome}
use Rattle.ddr_world.specs.declared.event.Outcome.TheVariants as outcome
use Rattle.ddr_world.specs.declared.event.Refusal.{Refusal}
use Rattle.ddr_world.specs.declared.event.Refusal.TheVariants as refusal
use Rattle.ddr_world.specs.declared.item.Item.TheVariants as item
use Rattle.ddr_world.specs.Events.{Event, Submit, Take, Cycle, Deliver, Collect, Release, End}
use Rattle.ddr_world.specs.History.{Opening, Whereabouts, History, accept, after_answer, after_step, front_of, give, next_item, note, request_of, with_next}
use Rattle.ddr_world.specs.Refusals.{refusal_from}
use Rattle.ddr_world.specs.State.{PortSide, ChannelSide, is_busy, is_completion_queue_full}
use Rattle.ddr_world.specs.Step.{Step, made, with_port, with_channel, at_channel, change_channel, queued, after_submit, push_on, push_request, submit_by, taken, cycled, sent, after_deliver, deliver_to, push_completion, deliver_by, after_collect, collect_by, after_release, release_by, after_end, end_at, step}
use Rattle.ddr_world.proofs.CoreCounts.{number_at}
use Rattle.ddr_world.proofs.CoreFrames.{before_or_last, with_next_other, with_next_same}
use Rattle.ddr_world.proofs.CoreKeeps.{ChannelKeeps, CoreKeeps, grows_by, replaced_at, requests_in, there_still}
use Rattle.ddr_world.proofs.CoreReplies.{done_answer}
use Rattle.ddr_core_deadline.specs.InCore.{call_of_answer, call_of_step}
use Rattle.ddr_core_deadline.proofs.EventLemmas.{IsMadeIn}
use Rattle.ddr_replay_deadline.proofs.GrowthLemmas.{Stays, admitted_same, asked_sent, calls_now, calls_owners, channel_at}
use Rattle.ddr_replay_deadline.proofs.OrderLemmas.{at_all}

-- the port's request at a place of its list was read or written in the cycle that is told, and is complete
pub record IsOwned (o : Opening) (sent : List Whereabouts) (calls : ℕ → List Call) (k : ℕ) (v : Service) : Type 0 where
  pub at : Whereabouts
  pub sent_at : slice_get sent k ≡ Some at
  pub column : ℕ
  pub owner : Owner
  pub owned : slice_get (channel_at o (calls at.channel)).owners column ≡ Some owner
  pub place : owner.place ≡ at.place
  pub issued : owner.cycle ≡ v.issued
  pub complete : v.due < (channel_at o (calls at.channel)).state.now

-- so it is with the completion of a request
abbrev pub IsTold : Opening → List Whereabouts → (ℕ → List Call) → Completion → Type 0
IsTold o sent calls d = (k : ℕ) × (d.number ≡ o.number + k) × IsOwned o sent calls k (service_of d)

-- and with each that is on its way to the port, or came
pub record IsServedSide (o : Opening) (sent : List Whereabouts) (calls : ℕ → List Call) (taken : ℕ) (side : PortSide) : Type 0 where
  pub queue : (j : ℕ) (d : Completion) → slice_get side.completions j ≡ Some d → IsTold o sent calls d
  pub filled : (j : ℕ) (e : Outstanding) (v : Service) → slice_get side.core.reorder.outstanding j ≡ Some e → e.service ≡ Some v → IsOwned o sent calls (taken + j) v
  -- and the numbers have not come to their end
  pub few : side.core.reorder.next ≤ CLOCK_STOP

abbrev pub AreServed : Opening → List PortSide → (ℕ → List Whereabouts) → (ℕ → List Answer) → (ℕ → List Call) → Type 0
AreServed o ports sent taken calls = (p : ℕ) (side : PortSide) → slice_get ports p ≡ Some side → IsServedSide o (sent p) calls (length (taken p)) side

abbrev pub AreServedIn : Opening → History → (ℕ → List Call) → Type 0
AreServedIn o h calls = AreServed o h.state.ports h.sent h.taken calls

-- what is told stays

abbrev AreMore : (ℕ → List Call) → (ℕ → List Call) → Type 0
AreMore calls calls' = (c : ℕ) → (more : List Call) × (calls' c ≡ calls c ++ more)

owned_still : (o : Opening) (was now : List Whereabouts) (calls calls' : ℕ → List Call) (k : ℕ) (v : Service) → Stays was now → AreMore calls calls' → IsOwned o was calls k v → IsOwned o now calls' k v
owned_still o was now calls calls' k v stays longer w =
    let more = longer w.at.channel in
    record {
      at = w.at;
      sent_at = stays k w.at w.sent_at;
      column = w.column;
      owner = w.owner;
      owned = ap (λ (cs : List Call). slice_get (channel_at o cs).owners w.column) more.1 ∙ calls_owners o (calls w.at.channel) more.0 w.column w.owner w.owned;
      place = w.place;
      issued = w.issued;
      complete = subst (λ (cs : List Call). v.due < (channel_at o cs).state.now) (sym more.1) (omega (arith, w.complete, calls_now o (calls w.at.channel) more.0));
    }

told_still : (o : Opening) (was now : List Whereabouts) (calls calls' : ℕ → List Call) (d : Completion) → Stays was now → AreMore calls calls' → IsTold o was calls d → IsTold o now calls' d
told_still o was now calls calls' d stays longer w = (w.0, w.1, owned_still o was now calls calls' w.0 (service_of d) stays longer w.2)

side_still : (o : Opening) (was now : List Whereabouts) (calls calls' : ℕ → List Call) (taken : ℕ) (side : PortSide) → Stays was now → AreMore calls calls' → IsServedSide o was calls taken side → IsServedSide o now calls' taken side
side_still o was now calls calls' taken side stays longer k = record {
  queue = λ j d at. told_still o was now calls calls' d stays longer (k.queue j d at);
  filled = λ j e v at is. owned_still o was now calls calls' (taken + j) v stays longer (k.filled j e v at is);
  few = k.few;
}

all_still : (o : Opening) (ports : List PortSide) (lists : ℕ → List Whereabouts) (taken : ℕ → List Answer) (calls calls' : ℕ → List Call) → AreMore calls calls' → AreServed o ports lists taken calls → AreServed o ports lists taken calls'
all_still o ports lists taken calls calls' longer k p side at = side_still o (lists p) (lists p) calls calls' (length (taken p)) side (λ i w here. here) longer (k p side at)

-- where one port changed
port_served : (o : Opening) (ports : List PortSide) (was now : ℕ → List Whereabouts) (taken taken' : ℕ → List Answer) (calls calls' : ℕ → List Call) (p : ℕ) (old new : PortSide) → AreServed o ports was taken calls → slice_get ports p ≡ Some old
    → ((q : ℕ) → Stays (was q) (now q)) → ((q : ℕ) → q ≢ p → taken' q ≡ taken q) → AreMore calls calls' → IsServedSide o (now p) calls' (length (taken' p)) new → AreServed o (set ports p new) now taken' calls'
port_served o ports was now taken taken' calls calls' p old new k there stays others longer is q side at = elim (replaced_at ports p q old new side there at) [
  | inl here ↦ subst (λ (s : PortSide). IsServedSide o (now q) calls' (length (taken' q)) s) (sym here.1) (subst (λ n. IsServedSide o (now n) calls' (length (taken' n)) new) (sym here.0) is)
  | inr other ↦ subst (λ (ts : List Answer). IsServedSide o (now q) calls' (length ts) side) (sym (others q other.0)) (side_still o (was q) (now q) calls calls' (length (taken q)) side (stays q) longer (k q side other.1))
]

-- behind a step

abbrev calls_after : History → (ℕ → List Call) → Event → Step → ℕ → List Call
calls_after h calls event r = λ c. calls c ++ call_of_step h.state c event r

abbrev ServedAfter : Opening → History → (ℕ → List Call) → Event → Step → Type 0
ServedAfter o h calls event r = AreServedIn o (after_step event h r) (calls_after h calls event r)

-- an event that makes no call
abbrev with_none : (ℕ → List Call) → ℕ → List Call
with_none calls = λ c. calls c ++ []

none_more : (calls : ℕ → List Call) → AreMore calls (with_none calls)
none_more calls c = ([], refl)

none_served : (o : Opening) (h : History) (calls : ℕ → List Call) → AreServedIn o h calls → AreServedIn o h (with_none calls)
none_served o h calls k = all_still o h.state.ports h.sent h.taken calls (with_none calls) (none_more calls) k

-- Submit

-- a port prepares a request while a number is left
number_left : (a b c d e f : Bool) (w x y z : PortError) (s t : ReorderError) → cond a (Some w) (cond b (Some x) (cond c (Some y) (cond d (Some z) (option_map port_refusals.refusal_from (cond e (Some s) (cond f (Some t) None)))))) ≡ None → e ≡ false
number_left true b c d e f w x y z s t is = absurd (let impossible = is in cc)
number_left false true c d e f w x y z s t is = absurd (let impossible = is in cc)
number_left false false true d e f w x y z s t is = absurd (let impossible = is in cc)
number_left false false false true e f w x y z s t is = absurd (let impossible = is in cc)
number_left false false false false true f w x y z s t is = absurd (let impossible = is in cc)
number_left false false false false false f w x y z s t is = refl

next_left : (port : PortSide) (asked : Asked) → refusal_of port.core asked ≡ None → eqb port.core.reorder.next CLOCK_STOP ≡ false
next_left port asked free =
    let outside = is_none (place_of port.core.geometry (first_address asked)) in
    let full = eqb (length port.core.reorder.outstanding) port.core.reorder.window in
    number_left port.core.finished outside (eqb (len_of asked) 0) (not (is_within_line asked)) (eqb port.core.reorder.next CLOCK_STOP) full port_error.Finished port_error.OutOfRange port_error.EmptyLength
    port_error.CrossesLine Spent WindowFull free

submitted_side : (o : Opening) (was now : List Whereabouts) (calls : ℕ → List Call) (taken : ℕ) (port : PortSide) (asked : Asked) → Stays was now → refusal_of port.core asked ≡ None → IsServedSide o was calls taken port
    → IsServedSide o now (with_none calls) taken (after_submit asked port)
submitted_side o was now calls taken port asked stays free k = record {
  queue = λ j d at. told_still o was now calls (with_none calls) d stays (none_more calls) (k.queue j d at);
  filled = λ j e v at is. elim (before_or_last port.core.reorder.outstanding (record { number = port.core.reorder.next; echo = echo_of asked; line = None; service = None }) e j at) [
    | inl before ↦ owned_still o was now calls (with_none calls) (taken + j) v stays (none_more calls) (k.filled j e v before is)
    | inr last ↦ absurd (let impossible : None ≡ Some v = sym (ap (λ (x : Outstanding). x.service) last.1) ∙ is in cc)
  ];
  few = omega (arith, k.few, eqb-false port.core.reorder.next CLOCK_STOP (next_left port asked free));
}

submit_made : (o : Opening) (h : History) (calls : ℕ → List Call) (p : ℕ) (asked : Asked) (port : PortSide) (r : Request) → AreServedIn o h calls → slice_get h.state.ports p ≡ Some port → refusal_of port.core asked ≡ None
    → request_at port.core asked ≡ Some r → AreServed o (set h.state.ports p (after_submit asked port)) (note (Submit p asked) h).sent (note (Submit p asked) h).taken (with_none calls)
submit_made o h calls p asked port r k there free prepared =
    let request : Some r ≡ request_of h.state p asked = sym prepared ∙ ap (λ (x : Option PortSide). option_and_then (λ s. request_at s.core asked) x) (sym there) in
    subst (λ (x : Option Request). AreServed o (set h.state.ports p (after_submit asked port)) (option_map_or (accept p h) x h).sent (option_map_or (accept p h) x h).taken (with_none calls)) request
    (port_served o h.state.ports h.sent (accept p h r).sent h.taken h.taken calls (with_none calls) p port (after_submit asked port) k there (λ q. asked_sent q p h (Some r)) (λ q other. refl) (none_more calls)
    (submitted_side o (h.sent p) ((accept p h r).sent p) calls (length (h.taken p)) port asked (asked_sent p p h (Some r)) free (k p port there)))

submit_busy : (o : Opening) (h : History) (calls : ℕ → List Call) (p : ℕ) (asked : Asked) (port : PortSide) (r : Request) (side : ChannelSide) (b : Bool) → AreServedIn o h calls → slice_get h.state.ports p ≡ Some port
    → refusal_of port.core asked ≡ None → request_at port.core asked ≡ Some r
    → ServedAfter o h calls (Submit p asked) (cond b (Err (refusal.Busy r.place.channel)) (made (with_channel r.place.channel (queued (item.Request r) side) (with_port p (after_submit asked port) h.state)) (outcome.Accepted r.number)))
submit_busy o h calls p asked port r side true k there free prepared = none_served o h calls k
submit_busy o h calls p asked port r side false k there free prepared = submit_made o h calls p asked port r k there free prepared

submit_request : (o : Opening) (h : History) (calls : ℕ → List Call) (p : ℕ) (asked : Asked) (port : PortSide) (x : Option Request) → AreServedIn o h calls → slice_get h.state.ports p ≡ Some port → refusal_of port.core asked ≡ None
    → request_at port.core asked ≡ x → ServedAfter o h calls (Submit p asked) (option_map_or (push_request h.state p port asked) x (Err refusal.OutOfRange))
submit_request o h calls p asked port None k there free prepared = none_served o h calls k
submit_request o h calls p asked port (Some r) k there free prepared =
    at_channel_has (ServedAfter o h calls (Submit p asked)) h.state r.place.channel (push_on h.state p port asked r) (slice_get h.state.channels r.place.channel) refl (none_served o h calls k)
    (λ side found. submit_busy o h calls p asked port r side (is_busy side) k there free prepared)

submit_free : (o : Opening) (h : History) (calls : ℕ → List Call) (p : ℕ) (asked : Asked) (port : PortSide) (x : Option PortError) → AreServedIn o h calls → slice_get h.state.ports p ≡ Some port → refusal_of port.core asked ≡ x
    → ServedAfter o h calls (Submit p asked) (option_map_or (λ cause. Err (refusal_from cause)) x (option_map_or (push_request h.state p port asked) (request_at port.core asked) (Err refusal.OutOfRange)))
submit_free o h calls p asked port None k there free = submit_request o h calls p asked port (request_at port.core asked) k there free refl
submit_free o h calls p asked port (Some cause) k there free = none_served o h calls k

submit_serves : (o : Opening) (h : History) (calls : ℕ → List Call) (p : ℕ) (asked : Asked) → AreServedIn o h calls → ServedAfter o h calls (Submit p asked) (step h.state (Submit p asked))
submit_serves o h calls p asked k =
    at_port_has (ServedAfter o h calls (Submit p asked)) h.state p (submit_by h.state p asked) (slice_get h.state.ports p) refl (none_served o h calls k)
    (λ port there. submit_free o h calls p asked port (refusal_of port.core asked) k there refl)

-- Take, and Cycle

step_more : (h : History) (calls : ℕ → List Call) (event : Event) (r : Step) → AreMore calls (calls_after h calls event r)
step_more h calls event r c = (call_of_step h.state c event r, refl)

take_noted : (o : Opening) (h : History) (calls calls' : ℕ → List Call) (t : ℕ) → AreMore calls calls' → AreServedIn o h calls → AreServed o h.state.ports (note (Take t) h).sent (note (Take t) h).taken calls'
take_noted o h calls calls' t longer k =
    let same = admitted_same t h (next_item h.state t) in
    subst (λ (f : ℕ → List Whereabouts). AreServed o h.state.ports f (note (Take t) h).taken calls') (sym same.0)
    (subst (λ (f : ℕ → List Answer). AreServed o h.state.ports h.sent f calls') (sym same.1) (all_still o h.state.ports h.sent h.taken calls calls' longer k))

take_serves : (o : Opening) (h : History) (calls : ℕ → List Call) (t : ℕ) → AreServedIn o h calls → ServedAfter o h calls (Take t) (step h.state (Take t))
take_serves o h calls t k =
    at_channel_has (ServedAfter o h calls (Take t)) h.state t (λ side. change_channel h.state t outcome.Taken (taken side)) (slice_get h.state.channels t) refl (none_served o h calls k) (λ side found. by_taken (taken side))
  where
    by_taken : (r : Result ChannelSide Refusal) → ServedAfter o h calls (Take t) (change_channel h.state t outcome.Taken r)
    by_taken (Ok new) = take_noted o h calls (calls_after h calls (Take t) (made (with_channel t new h.state) outcome.Taken)) t (step_more h calls (Take t) (made (with_channel t new h.state) outcome.Taken)) k
    by_taken (Err cause) = none_served o h calls k

cycle_serves : (o : Opening) (h : History) (calls : ℕ → List Call) (t : ℕ) → AreServedIn o h calls → ServedAfter o h calls (Cycle t) (step h.state (Cycle t))
cycle_serves o h calls t k =
    at_channel_has (ServedAfter o h calls (Cycle t)) h.state t (λ side. change_channel h.state t outcome.Cycled (cycled side)) (slice_get h.state.channels t) refl (none_served o h calls k) (λ side found. by_cycled (cycled side))
  where
    by_cycled : (r : Result ChannelSide Refusal) → ServedAfter o h calls (Cycle t) (change_channel h.state t outcome.Cycled r)
    by_cycled (Ok new) =
        all_still o h.state.ports h.sent h.taken calls (calls_after h calls (Cycle t) (made (with_channel t new h.state) outcome.Cycled)) (step_more h calls (Cycle t) (made (with_channel t new h.state) outcome.Cycled)) k
    by_cycled (Err cause) = none_served o h calls k

-- Deliver

-- a completion that is done tells of its own column command
done_told : (o : Opening) (h : History) (calls : ℕ → List Call) (c : ℕ) (side : ChannelSide) (d : Completion) → CoreKeeps o h → IsMadeIn o c (calls c) h → slice_get h.state.channels c ≡ Some side → slice_get side.channel.done 0 ≡ Some d
    → IsTold o (h.sent d.port) calls d
done_told o h calls c side d core k there done =
    let by = k side there in
    let keeps : ChannelKeeps o (h.admitted c) (h.accepted c) side =
    record { calls = calls c; calls_are = by.are; state = by.state; admitted_are = by.admitted_are; accepted_are = (core.channels c side there).accepted_are } in
    let run = channel_at o (calls c) in
    let answer = done_answer o (h.admitted c) (h.accepted c) side d keeps done in
    let owner = answer.owner in
    let r = answer.request in
    let more = grows_by run.accepted (h.accepted c) (requests_in side.requests) (sym keeps.accepted_are ∙ ap (λ (rs : List Request). rs ++ requests_in side.requests) (sym keeps.admitted_are)) in
    let back = core.accepted c owner.place r (there_still run.accepted (h.accepted c) owner.place r more answer.there) in
    let port : r.port ≡ d.port = ap (λ (x : Completion). x.port) answer.is in
    let number : r.number ≡ d.number = ap (λ (x : Completion). x.number) answer.is in
    let first : slice_get run.state.done 0 ≡ Some d = ap (λ (s : channel_state.State). slice_get s.done 0) (sym by.state) ∙ done in
    let at : slice_get (run.popped ++ run.state.done) (length run.popped) ≡ Some d = slice_get-append_right run.popped run.state.done (length run.popped) 0 (omega arith) ∙ first in (
      back.index,
      sym number ∙ back.number,
      record {
        at = record { channel = c; place = owner.place };
        sent_at = ap (λ n. slice_get (h.sent n) back.index) (sym port) ∙ back.sent_at;
        column = answer.index;
        owner = owner;
        owned = answer.owned;
        place = refl;
        issued = ap (λ (x : Completion). x.issued) answer.is;
        complete = at_all (λ (x : Completion). x.due < run.state.now) (run.popped ++ run.state.done) (length run.popped) d (promise_kept o.config o.cycle (calls c) by.are).complete at;
      },
    )

delivered_side : (o : Opening) (sent : List Whereabouts) (calls calls' : ℕ → List Call) (taken : ℕ) (port : PortSide) (d : Completion) → AreMore calls calls' → IsTold o sent calls d → IsServedSide o sent calls taken port
    → IsServedSide o sent calls' taken (after_deliver d port)
delivered_side o sent calls calls' taken port d longer told k = record {
  queue = λ j x at. elim (before_or_last port.completions d x j at) [
    | inl before ↦ told_still o sent sent calls calls' x (λ i w here. here) longer (k.queue j x before)
    | inr last ↦ subst (λ (y : Completion). IsTold o sent calls' y) (sym last.1) (told_still o sent sent calls calls' d (λ i w here. here) longer told)
  ];
  filled = λ j e v at is. owned_still o sent sent calls calls' (taken + j) v (λ i w here. here) longer (k.filled j e v at is);
  few = k.few;
}

deliver_serves : (o : Opening) (h : History) (calls : ℕ → List Call) (t : ℕ) → CoreKeeps o h → IsMadeIn o t (calls t) h → AreServedIn o h calls → ServedAfter o h calls (Deliver t) (step h.state (Deliver t))
deliver_serves o h calls t core by k = at_channel_has (ServedAfter o h calls (Deliver t)) h.state t (deliver_by h.state t) (slice_get h.state.channels t) refl (none_served o h calls k) (λ side found.
    maybe_has (ServedAfter o h calls (Deliver t)) (push_completion h.state t side) (Err refusal.Nothing) (slice_get side.channel.done 0) (none_served o h calls k) (λ d first.
    maybe_has (ServedAfter o h calls (Deliver t)) (deliver_to h.state t side d) (Err refusal.QueueFull) (slice_get h.state.ports d.port) (none_served o h calls k) (λ port there.
    either_has (ServedAfter o h calls (Deliver t)) (is_completion_queue_full port) (Err refusal.QueueFull) (delivers side d port) (none_served o h calls k)
    (delivered side d port found first there))))
  where
    delivers : ChannelSide → Completion → PortSide → Step
    delivers side d port = made (with_port d.port (after_deliver d port) (with_channel t (sent side) h.state)) outcome.Delivered

    delivered : (side : ChannelSide) (d : Completion) (port : PortSide) → slice_get h.state.channels t ≡ Some side → slice_get side.channel.done 0 ≡ Some d → slice_get h.state.ports d.port ≡ Some port → ServedAfter o h calls (Deliver t) (delivers side d port)
    delivered side d port found first there =
        let next = calls_after h calls (Deliver t) (delivers side d port) in
        let longer = step_more h calls (Deliver t) (delivers side d port) in
        port_served o h.state.ports h.sent h.sent h.taken h.taken calls next d.port port (after_deliver d port) k there (λ q i w here. here) (λ q other. refl) longer
        (delivered_side o (h.sent d.port) calls next (length (h.taken d.port)) port d longer (done_told o h calls t side d core by found first) (k d.port port there))

-- Collect

-- the outstanding number that the line is for is that of the completion, any other one is as before
fill_owned : (o : Opening) (sent : List Whereabouts) (calls calls' : ℕ → List Call) (n : ℕ) (e : Outstanding) (d : Completion) (v : Service) (b : Bool) → eqb e.number d.number ≡ b → e.number ≡ o.number + n → AreMore calls calls'
    → IsTold o sent calls d → ((w : Service) → e.service ≡ Some w → IsOwned o sent calls n w) → (cond b (record e { line = Some d.line; service = Some (service_of d) }) e).service ≡ Some v → IsOwned o sent calls' n v
fill_owned o sent calls calls' n e d v true test number longer told was is =
    let same : service_of d ≡ v = cc in
    let index : told.0 ≡ n = omega (arith, told.1, number, eqb-true e.number d.number test) in
    subst (λ m. IsOwned o sent calls' m v) index (subst (λ (w : Service). IsOwned o sent calls' told.0 w) same (owned_still o sent sent calls calls' told.0 (service_of d) (λ i w here. here) longer told.2))
fill_owned o sent calls calls' n e d v false test number longer told was is = owned_still o sent sent calls calls' n v (λ i w here. here) longer (was v is)

later_told : (o : Opening) (sent : List Whereabouts) (calls : ℕ → List Call) (completions : List Completion) → ((j : ℕ) (d : Completion) → slice_get completions j ≡ Some d → IsTold o sent calls d)
    → (j : ℕ) (d : Completion) → slice_get (drop 1 completions) j ≡ Some d → IsTold o sent calls d
later_told o sent calls completions all j d at = all (suc j) d (sym (slice_get-drop 1 completions j (suc j) (omega arith)) ∙ at)

collected_side : (o : Opening) (h : History) (calls : ℕ → List Call) (p : ℕ) (port : PortSide) (d : Completion) (b : Bool) → CoreKeeps o h → slice_get h.state.ports p ≡ Some port → slice_get port.completions 0 ≡ Some d
    → IsServedSide o (h.sent p) calls (length (h.taken p)) port → IsServedSide o (h.sent p) (with_none calls) (length (h.taken p)) (record port { core = cond b (after_fill d port.core) port.core; completions = drop 1 port.completions })
collected_side o h calls p port d true core there first k =
    let xs = port.core.reorder.outstanding in
    record {
      queue = λ j x at. told_still o (h.sent p) (h.sent p) calls (with_none calls) x (λ i w here. here) (none_more calls) (later_told o (h.sent p) calls port.completions k.queue j x at);
      filled = λ j e v at is.
          let found = at_map (filled d.number (service_of d) d.line) xs j e at in
          let number = number_at (o.number + length (h.taken p)) xs j found.0 (core.ports p port there).numbers found.1 in
          fill_owned o (h.sent p) calls (with_none calls) (length (h.taken p) + j) found.0 d v (eqb found.0.number d.number) refl (omega (arith, number)) (none_more calls) (k.queue 0 d first) (λ w here. k.filled j found.0 w found.1 here)
          (ap (λ (x : Outstanding). x.service) found.2 ∙ is);
      few = k.few;
    }
collected_side o h calls p port d false core there first k = record {
  queue = λ j x at. told_still o (h.sent p) (h.sent p) calls (with_none calls) x (λ i w here. here) (none_more calls) (later_told o (h.sent p) calls port.completions k.queue j x at);
  filled = λ j e v at is. owned_still o (h.sent p) (h.sent p) calls (with_none calls) (length (h.taken p) + j) v (λ i w here. here) (none_more calls) (k.filled j e v at is);
  few = k.few;
}

collect_serves : (o : Opening) (h : History) (calls : ℕ → List Call) (p : ℕ) → CoreKeeps o h → AreServedIn o h calls → ServedAfter o h calls (Collect p) (step h.state (Collect p))
collect_serves o h calls p core k = at_port_has (ServedAfter o h calls (Collect p)) h.state p (collect_by h.state p) (slice_get h.state.ports p) refl (none_served o h calls k) (λ port there.
    maybe_has (ServedAfter o h calls (Collect p)) (λ (d : Completion). made (with_port p (after_collect d port) h.state) (outcome.Collected d.number)) (Err refusal.Nothing) (slice_get port.completions 0) (none_served o h calls k) (λ d first.
    port_served o h.state.ports h.sent h.sent h.taken h.taken calls (with_none calls) p port (after_collect d port) k there (λ q i w here. here) (λ q other. refl) (none_more calls)
    (collected_side o h calls p port d (awaits port.core.reorder d.number d.echo) core there first (k p port there))))

-- Release

released_side : (o : Opening) (sent : List Whereabouts) (calls : ℕ → List Call) (taken : List Answer) (a : Answer) (port : PortSide) → IsServedSide o sent calls (length taken) port
    → IsServedSide o sent (with_none calls) (length (taken ++ a ∷ [])) (after_release port)
released_side o sent calls taken a port k = record {
  queue = λ j d at. told_still o sent sent calls (with_none calls) d (λ i w here. here) (none_more calls) (k.queue j d at);
  filled = λ j e v at is.
      let index : length taken + suc j ≡ length (taken ++ a ∷ []) + j = omega (arith, length_push taken a) in
      subst (λ n. IsOwned o sent (with_none calls) n v) index
      (owned_still o sent sent calls (with_none calls) (length taken + suc j) v (λ i w here. here) (none_more calls) (k.filled (suc j) e v (sym (slice_get-drop 1 port.core.reorder.outstanding j (suc j) (omega arith)) ∙ at) is));
  few = k.few;
}

release_made : (o : Opening) (h : History) (calls : ℕ → List Call) (p : ℕ) (port : PortSide) (a : Answer) → AreServedIn o h calls → slice_get h.state.ports p ≡ Some port → nth_answer port.core.reorder 0 ≡ Some a
    → AreServed o (set h.state.ports p (after_release port)) (note (Release p) h).sent (note (Release p) h).taken (with_none calls)
release_made o h calls p port a k there is =
    let front : Some a ≡ front_of h.state p = sym is ∙ ap (λ (x : Option PortSide). option_and_then (λ s. nth_answer s.core.reorder 0) x) (sym there) in
    subst (λ (x : Option Answer). AreServed o (set h.state.ports p (after_release port)) (option_map_or (give p h) x h).sent (option_map_or (give p h) x h).taken (with_none calls)) front
    (port_served o h.state.ports h.sent h.sent h.taken (with_next h.taken p a) calls (with_none calls) p port (after_release port) k there (λ q i w here. here) (λ q other. with_next_other h.taken p a q other) (none_more calls)
    (subst (λ (ts : List Answer). IsServedSide o (h.sent p) (with_none calls) (length ts) (after_release port)) (sym (with_next_same h.taken p a)) (released_side o (h.sent p) calls (h.taken p) a port (k p port there))))

release_front : (o : Opening) (h : History) (calls : ℕ → List Call) (p : ℕ) (port : PortSide) (x : Option Answer) → AreServedIn o h calls → slice_get h.state.ports p ≡ Some port → nth_answer port.core.reorder 0 ≡ x
    → ServedAfter o h calls (Release p) (option_map_or (λ number. made (with_port p (after_release port) h.state) (outcome.Released number)) (option_map (λ (a : Answer). a.number) x) (Err refusal.Nothing))
release_front o h calls p port None k there is = none_served o h calls k
release_front o h calls p port (Some a) k there is = release_made o h calls p port a k there is

release_serves : (o : Opening) (h : History) (calls : ℕ → List Call) (p : ℕ) → AreServedIn o h calls → ServedAfter o h calls (Release p) (step h.state (Release p))
release_serves o h calls p k =
    at_port_has (ServedAfter o h calls (Release p)) h.state p (release_by h.state p) (slice_get h.state.ports p) refl (none_served o h calls k) (λ port there. release_front o h calls p port (nth_answer port.core.reorder 0) k there refl)

-- End

ended_side : (o : Opening) (sent : List Whereabouts) (calls : ℕ → List Call) (taken c : ℕ) (port : PortSide) → IsServedSide o sent calls taken port → IsServedSide o sent (with_none calls) taken (after_end c port)
ended_side o sent calls taken c port k = record {
  queue = λ j d at. told_still o sent sent calls (with_none calls) d (λ i w here. here) (none_more calls) (k.queue j d at);
  filled = λ j e v at is. owned_still o sent sent calls (with_none calls) (taken + j) v (λ i w here. here) (none_more calls) (k.filled j e v at is);
  few = k.few;
}

end_serves : (o : Opening) (h : History) (calls : ℕ → List Call) (p c : ℕ) → AreServedIn o h calls → ServedAfter o h calls (End p c) (step h.state (End p c))
end_serves o h calls p c k = at_port_has (ServedAfter o h calls (End p c)) h.state p (λ port. at_channel h.state c (end_at h.state p c port)) (slice_get h.state.ports p) refl (none_served o h calls k) (λ port there.
    at_channel_has (ServedAfter o h calls (End p c)) h.state c (end_at h.state p c port) (slice_get h.state.channels c) refl (none_served o h calls k) (λ side found.
    either_has (ServedAfter o h calls (End p c)) (not (eqb (length port.core.reorder.outstanding) 0)) (Err refusal.NotEmpty) _ (none_served o h calls k)
    (either_has (ServedAfter o h calls (End p c)) (unwrap_or (slice_get port.pushed c) false) (Err refusal.Finished) _ (none_served o h calls k)
    (either_has (ServedAfter o h calls (End p c)) (is_busy side) (Err (refusal.Busy c)) (made (with_channel c (queued (item.End p) side) (with_port p (after_end c port) h.state)) outcome.Ended) (none_served o h calls k)
    (port_served o h.state.ports h.sent h.sent h.taken h.taken calls (with_none calls) p port (after_end c port) k there (λ q i w here. here) (λ q other. refl) (none_more calls)
    (ended_side o (h.sent p) calls (length (h.taken p)) c port (k p port there)))))))

-- every event

step_serves : (o : Opening) (h : History) (calls : ℕ → List Call) (event : Event) → CoreKeeps o h → ((c : ℕ) → IsMadeIn o c (calls c) h) → AreServedIn o h calls → ServedAfter o h calls event (step h.state event)
step_serves o h calls (Submit p asked) core by k = submit_serves o h calls p asked k
step_serves o h calls (Take t) core by k = take_serves o h calls t k
step_serves o h calls (Cycle t) core by k = cycle_serves o h calls t k
step_serves o h calls (Deliver t) core by k = deliver_serves o h calls t core (by t) k
step_serves o h calls (Collect p) core by k = collect_serves o h calls p core k
step_serves o h calls (Release p) core by k = release_serves o h calls p k
step_serves o h calls (End p t) core by k = end_serves o h calls p t k

pub answer_serves : (o : Opening) (h : History) (calls : ℕ → List Call) (event : Event) (answer : Result Outcome Refusal) → CoreKeeps o h → ((c : ℕ) → IsMadeIn o c (calls c) h) → AreServedIn o h calls
    → AreServedIn o (after_answer h event answer) (λ c. calls c ++ call_of_answer h.state c event answer)
answer_serves o h calls event (Ok out) core by k = step_serves o h calls event core by k
answer_serves o h calls event (Err cause) core by k = none_served o h calls k
