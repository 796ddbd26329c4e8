-- What was told of the channels' parts of a round is what their traces have more.
use Rattle.std.proofs.Common.{◌≡◌, ◌≢◌, ℕ, zero, suc, Bool, true, false, cond, List, [], ◌∷◌, ◌++◌, Option, Some, None, Result, Ok, Err, IsTrue, refl, sym, ap, subst, ◌∙◌, append_assoc, inl, inr, arith}
use Rattle.std.specs.List.{fold, slice_get, slice_set}
use Rattle.std.specs.Option.{option_map, option_and_then, option_map_or}
use Rattle.std.specs.Prelude.{◌==◌, ◌||◌, ◌⊎◌}
use Rattle.std.proofs.lemmas.Bool.Decides.{eqb_tells}
use Rattle.std.proofs.lemmas.List.{append-nil, map-id}
use Rattle.std.proofs.lemmas.List.Sums.{fold-append}
use Rattle.std.proofs.lemmas.Option.{slice_get-map}
use Rattle.ddr_timing.specs.declared.units.TheConstants.{CLOCK_STOP}
use Rattle.ddr_trace.specs.declared.command.Entry.{Entry}
use Rattle.ddr_address_map.specs.Requests.{Completion}
use Rattle.ddr_address_map.specs.declared.request.Kind.TheVariants.{Read, Write}
use Rattle.ddr_channel.specs.declared.issued.Issued.{Issued}
use Rattle.ddr_channel.specs.Cycle.{after_cycle}
use Rattle.ddr_channel.specs.Quiet as quiet
use Rattle.ddr_channel.specs.State as channel_state
use Rattle.ddr_channel.specs.State.{is_queue_full}
use Rattle.ddr_channel.specs.Told.{issued_in, with_issued}
use Rattle.ddr_channel.proofs.ListLemmas.{All-at}
use Rattle.ddr_channel.proofs.QuietLemmas.{cycles_idle}
use Rattle.ddr_channel.proofs.ToldLemmas.{told_traced}
use Rattle.ddr_world.specs.declared.event.Outcome.{Outcome}
use Rattle.ddr_world.specs.declared.event.Outcome.TheVariants as outcome
use Rattle.ddr_world.specs.declared.event.Refusal.{Refusal}
use Rattle.ddr_world.specs.declared.event.Refusal.TheVariants as refusal
use Rattle.ddr_world.specs.Answer.{IsAnswered}
use Rattle.ddr_world.specs.Refusals.{refusal_from}
use Rattle.ddr_reorder.specs.Replies.{front_number}
use Rattle.ddr_ports.specs.Asked.{Asked}
use Rattle.ddr_ports.specs.State.{refusal_of, request_at}
use Rattle.ddr_ports.specs.declared.refusal.PortError.{PortError}
use Rattle.ddr_world.specs.declared.item.Item.{Item}
use Rattle.ddr_world.specs.declared.item.Item.TheVariants as item
use Rattle.ddr_world.specs.Events.{Event, Submit, Take, Cycle, Deliver, Collect, Release, End}
use Rattle.ddr_world.specs.Kept.{Kept, KeptSide, side_of, state_of}
use Rattle.ddr_world.specs.Promise.{trace_at}
use Rattle.ddr_world.specs.Quiet.{IsQuiet, IsQuietFor, IsQuietSide, passed, side_passed}
use Rattle.ddr_world.specs.State.{ChannelSide, State, is_busy, is_completion_queue_full}
use Rattle.ddr_world.specs.Step.{Step, made, with_port, with_channel, change_channel, taken, cycled, after_take, sent, after_deliver, deliver_to, push_completion, deliver_by, deliver, after_collect, collect_by, collect, queued, after_submit, push_on, push_request, submit_by, submit, after_release, release_by, release, step}
use Rattle.ddr_world.specs.Told.{TellsOf}
use Rattle.ddr_rounds.specs.declared.told.Told.{Told}
use Rattle.ddr_rounds.specs.declared.told.Told.TheVariants as tell
use Rattle.ddr_rounds.specs.Rounds.{channel_served, channels_served, is_popping, items_of, made_state, ports_collected, until_refused}
use Rattle.ddr_rounds.specs.Telling.{IsHeard, channel_told, channels_told, entries_told, entry_told, issue_told, release_told, submit_told}
use Rattle.ddr_rounds.proofs.EventLemmas.{repeated_stays}
use Rattle.ddr_rounds.proofs.StepCounts.{at_channel_has, at_port_has, either_has, maybe_has, slice_get-set}

-- the commands of a side, if there is one
abbrev pub trace_in : Option ChannelSide → List Entry
trace_in o = option_map_or (λ (side : ChannelSide). side.channel.trace) o []

-- a channel that changes and keeps its trace
pub set_still : (xs : List ChannelSide) (c d : ℕ) (old new : ChannelSide) → slice_get xs c ≡ Some old → new.channel.trace ≡ old.channel.trace → trace_in (slice_get (slice_set xs c new) d) ≡ trace_in (slice_get xs d)
set_still [] c d old new is same = refl
set_still (x ∷ xs) zero zero old new is same = same ∙ ap trace_in (sym is)
set_still (x ∷ xs) zero (suc d) old new is same = refl
set_still (x ∷ xs) (suc c) zero old new is same = refl
set_still (x ∷ xs) (suc c) (suc d) old new is same = set_still xs c d old new is same

-- an event that pops keeps every trace

abbrev pub KeepsTrace : ℕ → State → Step → Type 0
KeepsTrace d s (Ok m) = trace_at m.state d ≡ trace_at s d
KeepsTrace d s (Err cause) = Unit {0}

took : (d : ℕ) (s : State) (c : ℕ) (side : ChannelSide) (it : Item) → slice_get s.channels c ≡ Some side → KeepsTrace d s (change_channel s c outcome.Taken (Ok (after_take it side)))
took d s c side (item.Request r) found = set_still s.channels c d side (after_take (item.Request r) side) found refl
took d s c side (item.End p) found = set_still s.channels c d side (after_take (item.End p) side) found refl

took_or_full : (d : ℕ) (s : State) (c : ℕ) (side : ChannelSide) (it : Item) (b : Bool) → slice_get s.channels c ≡ Some side → KeepsTrace d s (change_channel s c outcome.Taken (cond b (Err refusal.QueueFull) (Ok (after_take it side))))
took_or_full d s c side it true found = tt
took_or_full d s c side it false found = took d s c side it found

take_still : (d : ℕ) (s : State) (c : ℕ) (side : ChannelSide) (o : Option Item) → slice_get s.channels c ≡ Some side
    → KeepsTrace d s (change_channel s c outcome.Taken (option_map_or (λ it. cond (is_queue_full side.channel Read || is_queue_full side.channel Write) (Err refusal.QueueFull) (Ok (after_take it side))) o (Err refusal.Nothing)))
take_still d s c side None found = tt
take_still d s c side (Some it) found = took_or_full d s c side it (is_queue_full side.channel Read || is_queue_full side.channel Write) found

deliver_still : (d : ℕ) (s : State) (c : ℕ) → KeepsTrace d s (deliver s c)
deliver_still d s c = at_channel_has (KeepsTrace d s) s c (deliver_by s c) (slice_get s.channels c) refl tt (λ side found.
    maybe_has (KeepsTrace d s) (push_completion s c side) (Err refusal.Nothing) (slice_get side.channel.done 0) tt (λ x first.
    maybe_has (KeepsTrace d s) (deliver_to s c side x) (Err refusal.QueueFull) (slice_get s.ports x.port) tt (λ port there.
    either_has (KeepsTrace d s) (is_completion_queue_full port) (Err refusal.QueueFull) (made (with_port x.port (after_deliver x port) (with_channel c (sent side) s)) outcome.Delivered) tt
    (set_still s.channels c d side (sent side) found refl))))

collect_still : (d : ℕ) (s : State) (p : ℕ) → KeepsTrace d s (collect s p)
collect_still d s p = at_port_has (KeepsTrace d s) s p (collect_by s p) (slice_get s.ports p) refl tt (λ port there.
    maybe_has (KeepsTrace d s) (λ (x : Completion). made (with_port p (after_collect x port) s) (outcome.Collected x.number)) (Err refusal.Nothing) (slice_get port.completions 0) tt (λ x first. refl))

step_still : (d : ℕ) (s : State) (event : Event) → IsTrue (is_popping event) → KeepsTrace d s (step s event)
step_still d s (Take c) is = at_channel_has (KeepsTrace d s) s c (λ side. change_channel s c outcome.Taken (taken side)) (slice_get s.channels c) refl tt (λ side found. take_still d s c side (slice_get side.requests 0) found)
step_still d s (Deliver c) is = deliver_still d s c
step_still d s (Collect p) is = collect_still d s p
step_still d s (Submit p asked) is = absurd (let impossible = is in cc)
step_still d s (Cycle c) is = absurd (let impossible = is in cc)
step_still d s (Release p) is = absurd (let impossible = is in cc)
step_still d s (End p c) is = absurd (let impossible = is in cc)

pub popped_still : (d : ℕ) (event : Event) (s : State) → IsTrue (is_popping event) → trace_at (until_refused event s) d ≡ trace_at s d
popped_still d event s popping = repeated_stays (λ t. trace_at t d) event (λ t next o is. subst (KeepsTrace d t) is (step_still d t event popping)) (items_of s event) s

-- a cycle adds what is told of it

-- in a channel
with_told : (o : Option Issued) (c : ℕ) (trace : List Entry) → with_issued o trace ≡ trace ++ entries_told c (issue_told c o)
with_told None c trace = sym (append-nil trace)
with_told (Some i) c trace = elim (eqb_tells c c) as (λ _. trace ++ i.entry ∷ [] ≡ trace ++ (cond (c == c) (i.entry ∷ []) [] ++ [])) [
  | inl is ↦ ap (λ (b : Bool). trace ++ (cond b (i.entry ∷ []) [] ++ [])) (sym is.0)
  | inr is ↦ absurd (is.1 refl)
]

-- and in no other
none_told : (o : Option Issued) (c d : ℕ) → c ≢ d → entries_told d (issue_told c o) ≡ []
none_told None c d other = refl
none_told (Some i) c d other = elim (eqb_tells c d) as (λ _. cond (c == d) (i.entry ∷ []) [] ++ [] ≡ []) [
  | inl is ↦ absurd (other is.1)
  | inr is ↦ ap (λ (b : Bool). cond b (i.entry ∷ []) [] ++ []) is.0
]

set_elsewhere : (xs : List ChannelSide) (c d : ℕ) (new : ChannelSide) → c ≢ d → slice_get (slice_set xs c new) d ≡ slice_get xs d
set_elsewhere [] c d new other = refl
set_elsewhere (x ∷ xs) zero zero new other = absurd (other refl)
set_elsewhere (x ∷ xs) zero (suc d) new other = refl
set_elsewhere (x ∷ xs) (suc c) zero new other = refl
set_elsewhere (x ∷ xs) (suc c) (suc d) new other = set_elsewhere xs c d new (λ e. other (ap suc e))

set_told : (xs : List ChannelSide) (c d : ℕ) (old new : ChannelSide) (o : Option Issued) → ((c ≡ d) ⊎ (c ≢ d)) → slice_get xs c ≡ Some old → new.channel.trace ≡ with_issued o old.channel.trace
    → trace_in (slice_get (slice_set xs c new) d) ≡ trace_in (slice_get xs d) ++ entries_told d (issue_told c o)
set_told xs c d old new o (inl same) is traced =
    subst (λ e. trace_in (slice_get (slice_set xs c new) e) ≡ trace_in (slice_get xs e) ++ entries_told e (issue_told c o)) same
    (ap trace_in (slice_get-set xs c old new is) ∙ traced ∙ with_told o c old.channel.trace ∙ ap (λ x. trace_in x ++ entries_told c (issue_told c o)) (sym is))
set_told xs c d old new o (inr other) is traced =
    ap trace_in (set_elsewhere xs c d new other) ∙ sym (append-nil (trace_in (slice_get xs d))) ∙ ap (λ es. trace_in (slice_get xs d) ++ es) (sym (none_told o c d other))

decided : (c d : ℕ) → (c ≡ d) ⊎ (c ≢ d)
decided c d = elim (eqb_tells c d) as (λ _. (c ≡ d) ⊎ (c ≢ d)) [
  | inl is ↦ inl is.1
  | inr is ↦ inr is.1
]

-- what is told of a cycle
abbrev pub cycle_told : ℕ → State → List Told
cycle_told c s = option_map_or (λ (side : ChannelSide). issue_told c (issued_in side.channel)) (slice_get s.channels c) []

abbrev Traced : ℕ → ℕ → State → Step → Type 0
Traced d c s (Ok m) = trace_at m.state d ≡ trace_at s d ++ entries_told d (cycle_told c s)
Traced d c s (Err cause) = Unit {0}

side_traced : (d c : ℕ) (s : State) (side : ChannelSide) (b : Bool) → slice_get s.channels c ≡ Some side → Traced d c s (change_channel s c outcome.Cycled (cond b (Err refusal.ClockSpent) (Ok (record side { channel = after_cycle side.channel }))))
side_traced d c s side true found = tt
side_traced d c s side false found =
    set_told s.channels c d side (record side { channel = after_cycle side.channel }) (issued_in side.channel) (decided c d) found (told_traced side.channel)
    ∙ ap (λ (o : Option ChannelSide). trace_at s d ++ entries_told d (option_map_or (λ (x : ChannelSide). issue_told c (issued_in x.channel)) o [])) (sym found)

cycle_traced : (d c : ℕ) (s next : State) (o : Outcome) → step s (Cycle c) ≡ made next o → trace_at next d ≡ trace_at s d ++ entries_told d (cycle_told c s)
cycle_traced d c s next o is = subst (Traced d c s) is (at_channel_has (Traced d c s) s c (λ side. change_channel s c outcome.Cycled (cycled side)) (slice_get s.channels c) refl tt (λ side found. side_traced d c s side (side.channel.now == CLOCK_STOP) found))

-- a channel's part of a round

part_traced : (d c : ℕ) (s done : State) (r : Step) → step s (Cycle c) ≡ r → option_map (until_refused (Deliver c)) (made_state r) ≡ Some done → trace_at done d ≡ trace_at s d ++ entries_told d (cycle_told c s)
part_traced d c s done (Ok m) is served =
    let here : until_refused (Deliver c) m.state ≡ done = cc in
    ap (λ (t : State). trace_at t d) (sym here) ∙ popped_still d (Deliver c) m.state refl ∙ cycle_traced d c s m.state m.outcome is
part_traced d c s done (Err cause) is served = absurd (let impossible = served in cc)

pub channel_traced : (d c : ℕ) (s done : State) → channel_served c s ≡ Some done → trace_at done d ≡ trace_at s d ++ entries_told d (channel_told c s)
channel_traced d c s done served =
    let popped = until_refused (Take c) s in
    part_traced d c popped done (step popped (Cycle c)) refl served ∙ ap (λ es. es ++ entries_told d (channel_told c s)) (popped_still d (Take c) s refl)

-- those of several

pub entries_append : (d : ℕ) (xs ys : List Told) → entries_told d (xs ++ ys) ≡ entries_told d xs ++ entries_told d ys
entries_append d [] ys = refl
entries_append d (x ∷ xs) ys = ap (λ es. entry_told d x ++ es) (entries_append d xs ys) ∙ sym (append_assoc (entry_told d x) (entries_told d xs) (entries_told d ys))

next_traced : (d c : ℕ) (s done : State) (before_it : List Told) (o : Option State) → ((mid : State) → o ≡ Some mid → trace_at mid d ≡ trace_at s d ++ entries_told d before_it) → option_and_then (channel_served c) o ≡ Some done
    → trace_at done d ≡ trace_at s d ++ entries_told d (before_it ++ option_map_or (channel_told c) o [])
next_traced d c s done before_it None before served = absurd (let impossible = served in cc)
next_traced d c s done before_it (Some mid) before served =
    channel_traced d c mid done served
    ∙ ap (λ es. es ++ entries_told d (channel_told c mid)) (before mid refl)
    ∙ append_assoc (trace_at s d) (entries_told d before_it) (entries_told d (channel_told c mid))
    ∙ ap (λ es. trace_at s d ++ es) (sym (entries_append d before_it (channel_told c mid)))

pub channels_traced : (d n : ℕ) (s done : State) → channels_served n s ≡ Some done → trace_at done d ≡ trace_at s d ++ entries_told d (channels_told n s)
channels_traced d zero s done served =
    let here : s ≡ done = cc in
    ap (λ (t : State). trace_at t d) (sym here) ∙ sym (append-nil (trace_at s d))
channels_traced d (suc c) s done served = next_traced d c s done (channels_told c s) (channels_served c s) (λ mid is. channels_traced d c s mid is) served

-- what the core told of a cycle is what the definition says

pub told_by : (c : ℕ) (before after : Kept) (o : Option Issued) → TellsOf c before after o → cycle_told c (state_of before) ≡ issue_told c o
told_by c before after o is =
    ap (λ (x : Option ChannelSide). option_map_or (λ (side : ChannelSide). issue_told c (issued_in side.channel)) x []) (slice_get-map side_of before.channels c)
    ∙ ap (λ (x : Option KeptSide). option_map_or (λ (side : ChannelSide). issue_told c (issued_in side.channel)) (option_map side_of x) []) is.before_is
    ∙ ap (issue_told c) (sym is.told.exact)

pub channel_told_by : (c : ℕ) (s : State) (before after : Kept) (o : Option Issued) → state_of before ≡ until_refused (Take c) s → TellsOf c before after o → issue_told c o ≡ channel_told c s
channel_told_by c s before after o popped is = sym (told_by c before after o is) ∙ ap (cycle_told c) popped

-- the watcher heard of one channel more
told_on : {W : Type 0} (hears : W → Told → W) (c : ℕ) (s now : State) (begin before next : W) → channels_served c s ≡ Some now → before ≡ fold hears begin (channels_told c s) → next ≡ fold hears before (channel_told c now) → next ≡ fold hears begin (channels_told (suc c) s)
told_on hears c s now begin before next served heard more =
    more
    ∙ ap (λ w. fold hears w (channel_told c now)) heard
    ∙ sym (fold-append hears begin (channels_told c s) (channel_told c now))
    ∙ ap (λ (o : Option State). fold hears begin (channels_told c s ++ option_map_or (channel_told c) o [])) (sym served)

pub told_more : {W : Type 0} (hears : W → Told → W) (c n : ℕ) (s now : State) (begin before next : W) → channels_served c s ≡ Some now → before ≡ fold hears begin (channels_told c s) → next ≡ fold hears before (channel_told c now) → n ≡ suc c → next ≡ fold hears begin (channels_told n s)
told_more hears c n s now begin before next served heard more e = told_on hears c s now begin before next served heard more ∙ ap (λ k. fold hears begin (channels_told k s)) (sym e)

-- what was heard of one part, and of the next

pub heard_nothing : {W : Type 0} (hears : W → Told → W) (w : W) (s next : State) → ((c : ℕ) → trace_at next c ≡ trace_at s c) → IsHeard hears w w s next
heard_nothing hears w s next same = record { told = []; heard = refl; traces = λ c. same c ∙ sym (append-nil (trace_at s c)) }

pub heard_then : {W : Type 0} (hears : W → Told → W) (a b d : W) (s t u : State) → IsHeard hears a b s t → IsHeard hears b d t u → IsHeard hears a d s u
heard_then hears a b d s t u first second = record {
  told = first.told ++ second.told;
  heard = second.heard ∙ ap (λ w. fold hears w second.told) first.heard ∙ sym (fold-append hears a first.told second.told);
  traces = λ c. second.traces c
      ∙ ap (λ es. es ++ entries_told c second.told) (first.traces c)
      ∙ append_assoc (trace_at s c) (entries_told c first.told) (entries_told c second.told)
      ∙ ap (λ es. trace_at s c ++ es) (sym (entries_append c first.told second.told));
}

pub channel_heard : {W : Type 0} (hears : W → Told → W) (c : ℕ) (s done : State) (before after : W) → channel_served c s ≡ Some done → after ≡ fold hears before (channel_told c s) → IsHeard hears before after s done
channel_heard hears c s done before after served heard = record { told = channel_told c s; heard = heard; traces = λ d. channel_traced d c s done served }

-- quiet cycles keep every trace

some_passed : (count : ℕ) (o : Option ChannelSide) → ((side : ChannelSide) → o ≡ Some side → quiet.IsQuiet count side.channel) → trace_in (option_map (side_passed count) o) ≡ trace_in o
some_passed count None is = refl
some_passed count (Some side) is = ap (λ (x : channel_state.State). x.trace) (cycles_idle count side.channel (is side refl))

passed_by : (count d : ℕ) (s : State) → IsQuietFor count s → trace_at (passed count s) d ≡ trace_at s d
passed_by count d s is =
    ap trace_in (slice_get-map (side_passed count) s.channels d)
    ∙ some_passed count (slice_get s.channels d) (λ side there. (All-at (IsQuietSide count) s.channels d side is.channels there).channel)

none_passed : (d : ℕ) (s : State) → trace_at (passed 0 s) d ≡ trace_at s d
none_passed d s = ap (λ (xs : List ChannelSide). trace_in (slice_get xs d)) (map-id s.channels)

pub passed_still : (count d : ℕ) (s : State) → IsQuiet count s → trace_at (passed count s) d ≡ trace_at s d
passed_still zero d s is = none_passed d s
passed_still (suc count) d s is = passed_by (suc count) d s (is (omega arith))

pub passed_heard : {W : Type 0} (hears : W → Told → W) (before after : W) (count : ℕ) (s next : State) → IsQuiet count s → next ≡ passed count s → after ≡ hears before (tell.Passed count) → IsHeard hears before after s next
passed_heard hears before after count s next is state heard = record {
  told = tell.Passed count ∷ [];
  heard = heard;
  traces = λ d. ap (λ (t : State). trace_at t d) state ∙ passed_still count d s is ∙ sym (append-nil (trace_at s d));
}

-- the ports' part keeps every trace
pub collected_still : (n d : ℕ) (s : State) → trace_at (ports_collected n s) d ≡ trace_at s d
collected_still zero d s = refl
collected_still (suc p) d s = popped_still d (Collect p) (ports_collected p s) refl ∙ collected_still p d s

pub collected_heard : {W : Type 0} (hears : W → Told → W) (before after : W) (n : ℕ) (s mid next : State) → IsHeard hears before after s mid → next ≡ ports_collected n mid → IsHeard hears before after s next
collected_heard hears before after n s mid next is state =
    heard_then hears before after after s mid next is (heard_nothing hears after mid next (λ d. ap (λ (t : State). trace_at t d) state ∙ collected_still n d mid))

-- what a port is asked for keeps every trace

submit_still : (d : ℕ) (s : State) (p : ℕ) (asked : Asked) → KeepsTrace d s (submit s p asked)
submit_still d s p asked = at_port_has (KeepsTrace d s) s p (submit_by s p asked) (slice_get s.ports p) refl tt (λ port there.
    maybe_has (KeepsTrace d s) (λ (cause : PortError). Err (refusal_from cause)) (option_map_or (push_request s p port asked) (request_at port.core asked) (Err refusal.OutOfRange)) (refusal_of port.core asked)
    (maybe_has (KeepsTrace d s) (push_request s p port asked) (Err refusal.OutOfRange) (request_at port.core asked) tt (λ r prepared.
    at_channel_has (KeepsTrace d s) s r.place.channel (push_on s p port asked r) (slice_get s.channels r.place.channel) refl tt (λ side found.
    either_has (KeepsTrace d s) (is_busy side) (Err (refusal.Busy r.place.channel)) (made (with_channel r.place.channel (queued (item.Request r) side) (with_port p (after_submit asked port) s)) (outcome.Accepted r.number)) tt
    (set_still s.channels r.place.channel d side (queued (item.Request r) side) found refl))))
    (λ cause is. tt))

release_still : (d : ℕ) (s : State) (p : ℕ) → KeepsTrace d s (release s p)
release_still d s p = at_port_has (KeepsTrace d s) s p (release_by s p) (slice_get s.ports p) refl tt (λ port there.
    maybe_has (KeepsTrace d s) (λ number. made (with_port p (after_release port) s) (outcome.Released number)) (Err refusal.Nothing) (front_number port.core.reorder) tt (λ number front. refl))

answered_still : (d : ℕ) (k next : Kept) (event : Event) (r : Result Outcome Refusal) → KeepsTrace d (state_of k) (step (state_of k) event) → IsAnswered k next event r → trace_at (state_of next) d ≡ trace_at (state_of k) d
answered_still d k next event (Ok o) keeps a = subst (KeepsTrace d (state_of k)) a.ok keeps
answered_still d k next event (Err cause) keeps a = ap (λ (t : State). trace_at t d) a.err

none_of_submit : (d p : ℕ) (r : Result Outcome Refusal) → entries_told d (submit_told p r) ≡ []
none_of_submit d p (Ok (outcome.Accepted number)) = refl
none_of_submit d p (Ok outcome.Taken) = refl
none_of_submit d p (Ok outcome.Cycled) = refl
none_of_submit d p (Ok outcome.Delivered) = refl
none_of_submit d p (Ok (outcome.Collected number)) = refl
none_of_submit d p (Ok (outcome.Released number)) = refl
none_of_submit d p (Ok outcome.Ended) = refl
none_of_submit d p (Err cause) = refl

none_of_release : (d p : ℕ) (r : Result Outcome Refusal) → entries_told d (release_told p r) ≡ []
none_of_release d p (Ok (outcome.Accepted number)) = refl
none_of_release d p (Ok outcome.Taken) = refl
none_of_release d p (Ok outcome.Cycled) = refl
none_of_release d p (Ok outcome.Delivered) = refl
none_of_release d p (Ok (outcome.Collected number)) = refl
none_of_release d p (Ok (outcome.Released number)) = refl
none_of_release d p (Ok outcome.Ended) = refl
none_of_release d p (Err cause) = refl

with_none : (xs ys zs : List Entry) → xs ≡ ys → zs ≡ [] → xs ≡ ys ++ zs
with_none xs ys zs same none = same ∙ sym (append-nil ys) ∙ ap (λ es. ys ++ es) (sym none)

-- a request that a port is asked for issues nothing
pub submit_traces : (d : ℕ) (k next : Kept) (p : ℕ) (asked : Asked) (r : Result Outcome Refusal) → IsAnswered k next (Submit p asked) r → trace_at (state_of next) d ≡ trace_at (state_of k) d
submit_traces d k next p asked r a = answered_still d k next (Submit p asked) r (submit_still d (state_of k) p asked) a

pub submit_heard : {W : Type 0} (hears : W → Told → W) (before after : W) (k next : Kept) (p : ℕ) (asked : Asked) (r : Result Outcome Refusal) → IsAnswered k next (Submit p asked) r → after ≡ fold hears before (submit_told p r) → IsHeard hears before after (state_of k) (state_of next)
submit_heard hears before after k next p asked r a heard = record {
  told = submit_told p r;
  heard = heard;
  traces = λ d. with_none (trace_at (state_of next) d) (trace_at (state_of k) d) (entries_told d (submit_told p r)) (answered_still d k next (Submit p asked) r (submit_still d (state_of k) p asked) a) (none_of_submit d p r);
}

pub release_heard : {W : Type 0} (hears : W → Told → W) (before after : W) (k next : Kept) (p : ℕ) (r : Result Outcome Refusal) → IsAnswered k next (Release p) r → after ≡ fold hears before (release_told p r) → IsHeard hears before after (state_of k) (state_of next)
release_heard hears before after k next p r a heard = record {
  told = release_told p r;
  heard = heard;
  traces = λ d. with_none (trace_at (state_of next) d) (trace_at (state_of k) d) (entries_told d (release_told p r)) (answered_still d k next (Release p) r (release_still d (state_of k) p) a) (none_of_release d p r);
}
