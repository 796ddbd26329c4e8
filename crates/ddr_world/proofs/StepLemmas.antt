-- What an event makes of the fields of the core.
use Rattle.std.proofs.Common.{◌≡◌, ◌≤◌, ℕ, Bool, true, false, not, cond, eqb, List, Option, Some, None, IfSome, Result, Ok, Err, length, refl, sym, ap, ap₂, subst, ◌∙◌, IsTrue}
use Rattle.std.specs.List.{slice_get, slice_set}
use Rattle.std.specs.Option.{option_map, option_map_or, unwrap_or}
use Rattle.std.proofs.lemmas.List.{map-set, set-get_or}
use Rattle.std.proofs.lemmas.Option.{slice_get-map, slice_get_past, get_or_from_slice_get}
use Rattle.std.proofs.Math.Seq.{map-set_same}
use Rattle.ddr_address_map.specs.Requests.{Request, Completion}
use Rattle.ddr_reorder.specs.Replies.{front_number}
use Rattle.ddr_timing.specs.declared.units.TheConstants.{CLOCK_STOP}
use Rattle.ddr_channel.specs.Cycle.{after_cycle}
use Rattle.ddr_ports.specs.Asked.{Asked}
use Rattle.ddr_ports.specs.State.{refusal_of, request_at}
use Rattle.ddr_ports.specs.declared.refusal.PortError.{PortError}
use Rattle.ddr_world.specs.declared.event.Outcome.{Outcome}
use Rattle.ddr_world.specs.declared.event.Outcome.TheVariants as outcome
use Rattle.ddr_world.specs.declared.event.Refusal.{Refusal}
use Rattle.ddr_world.specs.declared.event.Refusal.TheVariants as refusal
use Rattle.ddr_world.specs.declared.item.Item.TheVariants as item
use Rattle.ddr_world.specs.Answer.{IsRefused, WantsMemory, IsAnswered}
use Rattle.ddr_channel.specs.Room.{wants_memory}
use Rattle.ddr_world.specs.Events.{Event, Submit, Take, Cycle, Deliver, Collect, Release, End}
use Rattle.ddr_world.specs.Kept.{KeptSide, Kept, side_of, state_of}
use Rattle.ddr_world.specs.Refusals.{refusal_from}
use Rattle.ddr_world.specs.State.{PortSide, ChannelSide, State, is_busy, is_completion_queue_full}
use Rattle.ddr_world.specs.Step.{Step, IsRefusedFor, made, with_port, with_channel, at_port, at_channel, change_channel, cycled, queued, after_submit, push_on, push_request, submit_by, sent, after_deliver, deliver_to, push_completion, deliver_by, after_collect, collect_by, after_release, release_by, after_end, end_at, step}

-- the side of a number

pub at_port_is : (k : Kept) (p : ℕ) (side : PortSide) (f : PortSide → Step) → slice_get k.ports p ≡ Some side → at_port (state_of k) p f ≡ f side
at_port_is k p side f is = ap (λ o. option_map_or f o (Err refusal.NoSuch)) is

pub at_channel_is : (k : Kept) (c : ℕ) (side : KeptSide) (f : ChannelSide → Step) → slice_get k.channels c ≡ Some side → at_channel (state_of k) c f ≡ f (side_of side)
at_channel_is k c side f is = ap (λ o. option_map_or f o (Err refusal.NoSuch)) (slice_get-map side_of k.channels c ∙ ap (option_map side_of) is)

pub no_port : (k : Kept) (p : ℕ) (f : PortSide → Step) → length k.ports ≤ p → at_port (state_of k) p f ≡ Err refusal.NoSuch
no_port k p f out = ap (λ o. option_map_or f o (Err refusal.NoSuch)) (slice_get_past k.ports p out)

pub no_channel : (k : Kept) (c : ℕ) (f : ChannelSide → Step) → length k.channels ≤ c → at_channel (state_of k) c f ≡ Err refusal.NoSuch
no_channel k c f out = ap (λ o. option_map_or f o (Err refusal.NoSuch)) (slice_get-map side_of k.channels c ∙ ap (option_map side_of) (slice_get_past k.channels c out))

-- the state after a side changed

pub channel_set : (k : Kept) (c : ℕ) (side : KeptSide) → state_of (record k { channels = slice_set k.channels c side }) ≡ with_channel c (side_of side) (state_of k)
channel_set k c side = ap (λ (cs : List ChannelSide). record (state_of k) { channels = cs }) (map-set side_of k.channels c side)

pub channel_same : (k : Kept) (c : ℕ) (old new : KeptSide) → slice_get k.channels c ≡ Some old → side_of new ≡ side_of old → state_of (record k { channels = slice_set k.channels c new }) ≡ state_of k
channel_same k c old new is same =
    ap (λ (cs : List ChannelSide). record (state_of k) { channels = cs })
    (map-set_same side_of k.channels c new old (same ∙ ap side_of (sym (get_or_from_slice_get k.channels c old old is))))

pub port_same : (k : Kept) (p : ℕ) (old new : PortSide) → slice_get k.ports p ≡ Some old → new ≡ old → record k { ports = slice_set k.ports p new } ≡ k
port_same k p old new is same =
    ap (λ (ps : List PortSide). record k { ports = ps })
    (ap (slice_set k.ports p) (same ∙ sym (get_or_from_slice_get k.ports p old old is)) ∙ set-get_or k.ports p old)

-- an answer

pub is_refused : (event : Event) (cause : Refusal) (s : Step) → s ≡ Err cause → IsRefused cause event s
is_refused (Submit p asked) cause s is = is
is_refused (Take c) cause s is = is
is_refused (Cycle c) cause s is = subst (IsRefusedFor cause) (sym is) refl
is_refused (Deliver c) cause s is = is
is_refused (Collect p) cause s is = is
is_refused (Release p) cause s is = is
is_refused (End p c) cause s is = is

-- what the step refuses by name is not refused for want of memory

no_want_clock : (s : State) (c : ℕ) (side : ChannelSide) (stopped : Bool)
    → change_channel s c outcome.Cycled (cond stopped (Err refusal.ClockSpent) (Ok (record side { channel = after_cycle side.channel }))) ≡ Err refusal.OutOfMemory → ⊥
no_want_clock s c side true is = cc
no_want_clock s c side false is = cc

no_want_cycle : (s : State) (c : ℕ) (x : Option ChannelSide) → option_map_or (λ side. change_channel s c outcome.Cycled (cycled side)) x (Err refusal.NoSuch) ≡ Err refusal.OutOfMemory → ⊥
no_want_cycle s c None is = cc
no_want_cycle s c (Some side) is = no_want_clock s c side (eqb side.channel.now CLOCK_STOP) is

no_want : (k : Kept) (event : Event) (cause : Refusal) → step (state_of k) event ≡ Err cause → cause ≡ refusal.OutOfMemory → WantsMemory k event
no_want k (Submit p asked) cause is memory = tt
no_want k (Take c) cause is memory = tt
no_want k (Cycle c) cause is memory = absurd (no_want_cycle (state_of k) c (slice_get (state_of k).channels c) (is ∙ ap (λ (name : Refusal). Err name) memory))
no_want k (Deliver c) cause is memory = tt
no_want k (Collect p) cause is memory = tt
no_want k (Release p) cause is memory = tt
no_want k (End p c) cause is memory = tt

pub answered : (k k' : Kept) (event : Event) (o : Outcome) (s : State) → step (state_of k) event ≡ made s o → state_of k' ≡ s → k'.config ≡ k.config → k'.keeps ≡ k.keeps → IsAnswered k k' event (Ok o)
answered k k' event o s is state config keeps = record { ok = is ∙ ap (λ t. made t o) (sym state); refused = tt; memory = tt; err = tt; config = config; keeps = keeps }

pub refused : (k k' : Kept) (event : Event) (cause : Refusal) → step (state_of k) event ≡ Err cause → state_of k' ≡ state_of k → k'.config ≡ k.config → k'.keeps ≡ k.keeps → IsAnswered k k' event (Err cause)
refused k k' event cause is state config keeps = record {
  ok = tt;
  refused = is_refused event cause (step (state_of k) event) is;
  memory = no_want k event cause is;
  err = state;
  config = config;
  keeps = keeps;
}

-- an event of one channel alone

pub channel_made : (k : Kept) (c : ℕ) (old new : KeptSide) (event : Event) (o : Outcome) (f : ChannelSide → Result ChannelSide Refusal)
    → step (state_of k) event ≡ at_channel (state_of k) c (λ side. change_channel (state_of k) c o (f side)) → slice_get k.channels c ≡ Some old → f (side_of old) ≡ Ok (side_of new)
    → IsAnswered k (record k { channels = slice_set k.channels c new }) event (Ok o)
channel_made k c old new event o f is there made_is =
    answered k (record k { channels = slice_set k.channels c new }) event o (with_channel c (side_of new) (state_of k))
    (is ∙ at_channel_is k c old (λ side. change_channel (state_of k) c o (f side)) there ∙ ap (change_channel (state_of k) c o) made_is)
    (channel_set k c new) refl refl

pub channel_refused : (k : Kept) (c : ℕ) (old new : KeptSide) (event : Event) (o : Outcome) (cause : Refusal) (f : ChannelSide → Result ChannelSide Refusal)
    → step (state_of k) event ≡ at_channel (state_of k) c (λ side. change_channel (state_of k) c o (f side)) → slice_get k.channels c ≡ Some old → f (side_of old) ≡ Err cause → side_of new ≡ side_of old
    → IsAnswered k (record k { channels = slice_set k.channels c new }) event (Err cause)
channel_refused k c old new event o cause f is there refused_is same =
    refused k (record k { channels = slice_set k.channels c new }) event cause
    (is ∙ at_channel_is k c old (λ side. change_channel (state_of k) c o (f side)) there ∙ ap (change_channel (state_of k) c o) refused_is)
    (channel_same k c old new there same) refl refl

refused_for : (s : State) (c : ℕ) (o : Outcome) (cause : Refusal) (r : Result ChannelSide Refusal) → IsRefusedFor cause r → IsRefusedFor cause (change_channel s c o r)
refused_for s c o cause (Ok side) is = is
refused_for s c o cause (Err name) is = is

-- a cycle, which want of memory may stop too
pub cycle_refused : (k : Kept) (c : ℕ) (old new : KeptSide) (o : Outcome) (cause : Refusal) (f : ChannelSide → Result ChannelSide Refusal)
    → step (state_of k) (Cycle c) ≡ at_channel (state_of k) c (λ side. change_channel (state_of k) c o (f side)) → slice_get k.channels c ≡ Some old → IsRefusedFor cause (f (side_of old)) → (cause ≡ refusal.OutOfMemory → IsTrue (wants_memory old.channel))
    → side_of new ≡ side_of old
    → IsAnswered k (record k { channels = slice_set k.channels c new }) (Cycle c) (Err cause)
cycle_refused k c old new o cause f is there refused_is wanted same = record {
  ok = tt;
  refused = subst (IsRefusedFor cause) (sym (is ∙ at_channel_is k c old (λ side. change_channel (state_of k) c o (f side)) there)) (refused_for (state_of k) c o cause (f (side_of old)) refused_is);
  memory = λ memory. subst (λ (x : Option KeptSide). IfSome x (λ side. IsTrue (wants_memory side.channel))) (sym there) (wanted memory);
  err = channel_same k c old new there same;
  config = refl;
  keeps = refl;
}

-- no port or no channel of that number
pub no_such_port : (k : Kept) (p : ℕ) (event : Event) (f : PortSide → Step) → step (state_of k) event ≡ at_port (state_of k) p f → length k.ports ≤ p → IsAnswered k k event (Err refusal.NoSuch)
no_such_port k p event f is out = refused k k event refusal.NoSuch (is ∙ no_port k p f out) refl refl refl

-- an event of one port alone

pub port_made : (k : Kept) (p : ℕ) (old new : PortSide) (event : Event) (o : Outcome) (f : PortSide → Step) (after : PortSide)
    → step (state_of k) event ≡ at_port (state_of k) p f → slice_get k.ports p ≡ Some old → f old ≡ made (with_port p after (state_of k)) o → new ≡ after
    → IsAnswered k (record k { ports = slice_set k.ports p new }) event (Ok o)
port_made k p old new event o f after is there made_is same =
    answered k (record k { ports = slice_set k.ports p new }) event o (with_port p after (state_of k)) (is ∙ at_port_is k p old f there ∙ made_is)
    (ap (λ (side : PortSide). with_port p side (state_of k)) same) refl refl

pub port_refused : (k : Kept) (p : ℕ) (old new : PortSide) (event : Event) (cause : Refusal) (f : PortSide → Step)
    → step (state_of k) event ≡ at_port (state_of k) p f → slice_get k.ports p ≡ Some old → f old ≡ Err cause → new ≡ old
    → IsAnswered k (record k { ports = slice_set k.ports p new }) event (Err cause)
port_refused k p old new event cause f is there refused_is same =
    refused k (record k { ports = slice_set k.ports p new }) event cause (is ∙ at_port_is k p old f there ∙ refused_is)
    (ap state_of (port_same k p old new there same)) refl refl

-- Collect

collected_by : (k : Kept) (p : ℕ) (old new : PortSide) (number : ℕ) (o : Option Completion) → slice_get k.ports p ≡ Some old → slice_get old.completions 0 ≡ o
    → Some number ≡ option_map (λ (d : Completion). d.number) o → IfSome o (λ d. new ≡ after_collect d old)
    → IsAnswered k (record k { ports = slice_set k.ports p new }) (Collect p) (Ok (outcome.Collected number))
collected_by k p old new number None there e numbered is = absurd (let impossible = numbered in cc)
collected_by k p old new number (Some d) there e numbered is =
    let number_is : d.number ≡ number = cc in
    port_made k p old new (Collect p) (outcome.Collected number) (collect_by (state_of k) p) (after_collect d old) refl there
    (ap (λ o. option_map_or (λ (x : Completion). made (with_port p (after_collect x old) (state_of k)) (outcome.Collected x.number)) o (Err refusal.Nothing)) e
    ∙ ap (λ n. made (with_port p (after_collect d old) (state_of k)) (outcome.Collected n)) number_is) is

pub collect_made : (k : Kept) (p : ℕ) (old new : PortSide) (number : ℕ) → slice_get k.ports p ≡ Some old
    → Some number ≡ option_map (λ (d : Completion). d.number) (slice_get old.completions 0) → IfSome (slice_get old.completions 0) (λ d. new ≡ after_collect d old)
    → IsAnswered k (record k { ports = slice_set k.ports p new }) (Collect p) (Ok (outcome.Collected number))
collect_made k p old new number there numbered is = collected_by k p old new number (slice_get old.completions 0) there refl numbered is

none_of : {X Y : Type 0} (f : X → Y) (o : Option X) → None ≡ option_map f o → o ≡ None
none_of f None is = refl
none_of f (Some x) is = absurd (let impossible = is in cc)

pub collect_refused : (k : Kept) (p : ℕ) (old new : PortSide) → slice_get k.ports p ≡ Some old
    → None ≡ option_map (λ (d : Completion). d.number) (slice_get old.completions 0) → new ≡ old
    → IsAnswered k (record k { ports = slice_set k.ports p new }) (Collect p) (Err refusal.Nothing)
collect_refused k p old new there none same =
    port_refused k p old new (Collect p) refusal.Nothing (collect_by (state_of k) p) refl there
    (ap (λ o. option_map_or (λ (x : Completion). made (with_port p (after_collect x old) (state_of k)) (outcome.Collected x.number)) o (Err refusal.Nothing))
    (none_of (λ (d : Completion). d.number) (slice_get old.completions 0) none)) same

-- Release

pub release_made : (k : Kept) (p : ℕ) (old new : PortSide) (number : ℕ) → slice_get k.ports p ≡ Some old → Some number ≡ front_number old.core.reorder → new ≡ after_release old
    → IsAnswered k (record k { ports = slice_set k.ports p new }) (Release p) (Ok (outcome.Released number))
release_made k p old new number there numbered is =
    port_made k p old new (Release p) (outcome.Released number) (release_by (state_of k) p) (after_release old) refl there
    (ap (λ o. option_map_or (λ n. made (with_port p (after_release old) (state_of k)) (outcome.Released n)) o (Err refusal.Nothing)) (sym numbered)) is

pub release_refused : (k : Kept) (p : ℕ) (old new : PortSide) → slice_get k.ports p ≡ Some old → None ≡ front_number old.core.reorder → new ≡ old
    → IsAnswered k (record k { ports = slice_set k.ports p new }) (Release p) (Err refusal.Nothing)
release_refused k p old new there none same =
    port_refused k p old new (Release p) refusal.Nothing (release_by (state_of k) p) refl there
    (ap (λ o. option_map_or (λ n. made (with_port p (after_release old) (state_of k)) (outcome.Released n)) o (Err refusal.Nothing)) (sym none)) same

-- Submit

submit_of : (k : Kept) (p : ℕ) (old : PortSide) (asked : Asked) (r : Request) (side : KeptSide) → slice_get k.ports p ≡ Some old → refusal_of old.core asked ≡ None → request_at old.core asked ≡ Some r
    → slice_get k.channels r.place.channel ≡ Some side → step (state_of k) (Submit p asked) ≡ push_on (state_of k) p old asked r (side_of side)
submit_of k p old asked r side there free prepared channel =
    at_port_is k p old (submit_by (state_of k) p asked) there
    ∙ ap₂ (λ causes requests. option_map_or (λ cause. Err (refusal_from cause)) causes (option_map_or (push_request (state_of k) p old asked) requests (Err refusal.OutOfRange))) free prepared
    ∙ at_channel_is k r.place.channel side (push_on (state_of k) p old asked r) channel

pub submit_refused : (k : Kept) (p : ℕ) (old new : PortSide) (asked : Asked) (cause : PortError) → slice_get k.ports p ≡ Some old → refusal_of old.core asked ≡ Some cause → new ≡ old
    → IsAnswered k (record k { ports = slice_set k.ports p new }) (Submit p asked) (Err (refusal_from cause))
submit_refused k p old new asked cause there is same =
    port_refused k p old new (Submit p asked) (refusal_from cause) (submit_by (state_of k) p asked) refl there
    (ap (λ causes. option_map_or (λ (e : PortError). Err (refusal_from e)) causes (option_map_or (push_request (state_of k) p old asked) (request_at old.core asked) (Err refusal.OutOfRange))) is) same

pub submit_busy : (k : Kept) (p : ℕ) (old new : PortSide) (asked : Asked) (r : Request) (side : KeptSide) → slice_get k.ports p ≡ Some old → refusal_of old.core asked ≡ None → request_at old.core asked ≡ Some r
    → slice_get k.channels r.place.channel ≡ Some side → is_busy (side_of side) ≡ true → new ≡ old
    → IsAnswered k (record k { ports = slice_set k.ports p new }) (Submit p asked) (Err (refusal.Busy r.place.channel))
submit_busy k p old new asked r side there free prepared channel busy same =
    refused k (record k { ports = slice_set k.ports p new }) (Submit p asked) (refusal.Busy r.place.channel)
    (submit_of k p old asked r side there free prepared channel
    ∙ ap (λ b. cond b (Err (refusal.Busy r.place.channel)) (made (with_channel r.place.channel (queued (item.Request r) (side_of side)) (with_port p (after_submit asked old) (state_of k))) (outcome.Accepted r.number))) busy)
    (ap state_of (port_same k p old new there same)) refl refl

pub submit_made : (k : Kept) (p : ℕ) (old new : PortSide) (asked : Asked) (r : Request) (side side' : KeptSide) → slice_get k.ports p ≡ Some old → refusal_of old.core asked ≡ None → request_at old.core asked ≡ Some r
    → slice_get k.channels r.place.channel ≡ Some side → is_busy (side_of side) ≡ false → new ≡ after_submit asked old → side_of side' ≡ queued (item.Request r) (side_of side)
    → IsAnswered k (record k { ports = slice_set k.ports p new; channels = slice_set k.channels r.place.channel side' }) (Submit p asked) (Ok (outcome.Accepted r.number))
submit_made k p old new asked r side side' there free prepared channel busy is queued_is =
    let c = r.place.channel in
    answered k (record k { ports = slice_set k.ports p new; channels = slice_set k.channels c side' }) (Submit p asked) (outcome.Accepted r.number)
    (with_channel c (queued (item.Request r) (side_of side)) (with_port p (after_submit asked old) (state_of k)))
    (submit_of k p old asked r side there free prepared channel
    ∙ ap (λ b. cond b (Err (refusal.Busy c)) (made (with_channel c (queued (item.Request r) (side_of side)) (with_port p (after_submit asked old) (state_of k))) (outcome.Accepted r.number))) busy)
    (channel_set (record k { ports = slice_set k.ports p new }) c side'
    ∙ ap₂ (λ (x : PortSide) (y : ChannelSide). with_channel c y (with_port p x (state_of k))) is queued_is) refl refl

-- Deliver

deliver_of : (k : Kept) (c : ℕ) (side : KeptSide) (d : Completion) → slice_get k.channels c ≡ Some side → slice_get side.channel.done 0 ≡ Some d
    → step (state_of k) (Deliver c) ≡ push_completion (state_of k) c (side_of side) d
deliver_of k c side d there done =
    at_channel_is k c side (deliver_by (state_of k) c) there
    ∙ ap (λ o. option_map_or (push_completion (state_of k) c (side_of side)) o (Err refusal.Nothing)) done

pub deliver_nothing : (k : Kept) (c : ℕ) (side : KeptSide) → slice_get k.channels c ≡ Some side → None ≡ option_map (λ (d : Completion). d.port) (slice_get side.channel.done 0)
    → IsAnswered k k (Deliver c) (Err refusal.Nothing)
deliver_nothing k c side there none =
    refused k k (Deliver c) refusal.Nothing
    (at_channel_is k c side (deliver_by (state_of k) c) there
    ∙ ap (λ o. option_map_or (push_completion (state_of k) c (side_of side)) o (Err refusal.Nothing)) (none_of (λ (d : Completion). d.port) (slice_get side.channel.done 0) none)) refl refl refl

no_queue : (k : Kept) (c p : ℕ) (side : KeptSide) (o : Option Completion) → slice_get k.channels c ≡ Some side → slice_get side.channel.done 0 ≡ o → Some p ≡ option_map (λ (d : Completion). d.port) o
    → length k.ports ≤ p → IsAnswered k k (Deliver c) (Err refusal.QueueFull)
no_queue k c p side None there done for out = absurd (let impossible = for in cc)
no_queue k c p side (Some d) there done for out =
    let port_is : p ≡ d.port = cc in
    refused k k (Deliver c) refusal.QueueFull
    (deliver_of k c side d there done
    ∙ ap (λ o. option_map_or (deliver_to (state_of k) c (side_of side) d) o (Err refusal.QueueFull)) (slice_get_past k.ports d.port (subst (λ n. length k.ports ≤ n) port_is out))) refl refl refl

pub deliver_nowhere : (k : Kept) (c p : ℕ) (side : KeptSide) → slice_get k.channels c ≡ Some side → Some p ≡ option_map (λ (d : Completion). d.port) (slice_get side.channel.done 0)
    → length k.ports ≤ p → IsAnswered k k (Deliver c) (Err refusal.QueueFull)
deliver_nowhere k c p side there for out = no_queue k c p side (slice_get side.channel.done 0) there refl for out

full_queue : (k : Kept) (c p : ℕ) (side : KeptSide) (port : PortSide) (o : Option Completion) → slice_get k.channels c ≡ Some side → slice_get side.channel.done 0 ≡ o → Some p ≡ option_map (λ (d : Completion). d.port) o
    → slice_get k.ports p ≡ Some port → is_completion_queue_full port ≡ true → IsAnswered k k (Deliver c) (Err refusal.QueueFull)
full_queue k c p side port None there done for at full = absurd (let impossible = for in cc)
full_queue k c p side port (Some d) there done for at full =
    let port_is : p ≡ d.port = cc in
    refused k k (Deliver c) refusal.QueueFull
    (deliver_of k c side d there done
    ∙ ap (λ o. option_map_or (deliver_to (state_of k) c (side_of side) d) o (Err refusal.QueueFull)) (ap (slice_get k.ports) (sym port_is) ∙ at)
    ∙ ap (λ b. cond b (Err refusal.QueueFull) (made (with_port d.port (after_deliver d port) (with_channel c (sent (side_of side)) (state_of k))) outcome.Delivered)) full) refl refl refl

pub deliver_full : (k : Kept) (c p : ℕ) (side : KeptSide) (port : PortSide) → slice_get k.channels c ≡ Some side → Some p ≡ option_map (λ (d : Completion). d.port) (slice_get side.channel.done 0)
    → slice_get k.ports p ≡ Some port → is_completion_queue_full port ≡ true → IsAnswered k k (Deliver c) (Err refusal.QueueFull)
deliver_full k c p side port there for at full = full_queue k c p side port (slice_get side.channel.done 0) there refl for at full

pub deliver_made : (k : Kept) (c p : ℕ) (side side' : KeptSide) (port port' : PortSide) (d : Completion) → slice_get k.channels c ≡ Some side → Some p ≡ option_map (λ (d : Completion). d.port) (slice_get side.channel.done 0)
    → Some d ≡ slice_get side.channel.done 0 → slice_get k.ports p ≡ Some port → is_completion_queue_full port ≡ false → side_of side' ≡ sent (side_of side) → port' ≡ after_deliver d port
    → IsAnswered k (record k { ports = slice_set k.ports p port'; channels = slice_set k.channels c side' }) (Deliver c) (Ok outcome.Delivered)
deliver_made k c p side side' port port' d there for done at free sent_is is =
    let port_is : p ≡ d.port = let both = for ∙ ap (option_map (λ (x : Completion). x.port)) (sym done) in cc in
    answered k (record k { ports = slice_set k.ports p port'; channels = slice_set k.channels c side' }) (Deliver c) outcome.Delivered
    (with_port d.port (after_deliver d port) (with_channel c (sent (side_of side)) (state_of k)))
    (deliver_of k c side d there (sym done)
    ∙ ap (λ o. option_map_or (deliver_to (state_of k) c (side_of side) d) o (Err refusal.QueueFull)) (ap (slice_get k.ports) (sym port_is) ∙ at)
    ∙ ap (λ b. cond b (Err refusal.QueueFull) (made (with_port d.port (after_deliver d port) (with_channel c (sent (side_of side)) (state_of k))) outcome.Delivered)) free)
    (channel_set (record k { ports = slice_set k.ports p port' }) c side'
    ∙ ap₂ (λ (x : PortSide) (y : ChannelSide). with_channel c y (with_port p x (state_of k))) is sent_is
    ∙ ap (λ n. with_port n (after_deliver d port) (with_channel c (sent (side_of side)) (state_of k))) port_is) refl refl

-- End

end_of : (k : Kept) (p c : ℕ) (port : PortSide) (side : KeptSide) → slice_get k.ports p ≡ Some port → slice_get k.channels c ≡ Some side
    → step (state_of k) (End p c) ≡ end_at (state_of k) p c port (side_of side)
end_of k p c port side there channel =
    at_port_is k p port (λ x. at_channel (state_of k) c (end_at (state_of k) p c x)) there ∙ at_channel_is k c side (end_at (state_of k) p c port) channel

-- the three tests of an End, one after another
chosen_end : (s : State) (p c : ℕ) (port : PortSide) (side : ChannelSide) (outstanding ended busy : Bool)
    → eqb (length port.core.reorder.outstanding) 0 ≡ not outstanding → unwrap_or (slice_get port.pushed c) false ≡ ended → is_busy side ≡ busy
    → end_at s p c port side ≡ cond outstanding (Err refusal.NotEmpty) (cond ended (Err refusal.Finished) (cond busy (Err (refusal.Busy c)) (made (with_channel c (queued (item.End p) side) (with_port p (after_end c port) s)) outcome.Ended)))
chosen_end s p c port side true ended busy o e b = ap (λ x. cond (not x) (Err refusal.NotEmpty) (cond (unwrap_or (slice_get port.pushed c) false) (Err refusal.Finished) (cond (is_busy side) (Err (refusal.Busy c)) (made (with_channel c (queued (item.End p) side) (with_port p (after_end c port) s)) outcome.Ended)))) o
chosen_end s p c port side false ended busy o e b =
    ap (λ x. cond (not x) (Err refusal.NotEmpty) (cond (unwrap_or (slice_get port.pushed c) false) (Err refusal.Finished) (cond (is_busy side) (Err (refusal.Busy c)) (made (with_channel c (queued (item.End p) side) (with_port p (after_end c port) s)) outcome.Ended)))) o
    ∙ ap₂ (λ x y. cond x (Err refusal.Finished) (cond y (Err (refusal.Busy c)) (made (with_channel c (queued (item.End p) side) (with_port p (after_end c port) s)) outcome.Ended))) e b

pub end_refused : (k : Kept) (p c : ℕ) (port : PortSide) (side : KeptSide) (outstanding ended busy : Bool) (cause : Refusal) → slice_get k.ports p ≡ Some port → slice_get k.channels c ≡ Some side
    → eqb (length port.core.reorder.outstanding) 0 ≡ not outstanding → unwrap_or (slice_get port.pushed c) false ≡ ended → is_busy (side_of side) ≡ busy
    → cond outstanding (Err refusal.NotEmpty) (cond ended (Err refusal.Finished) (cond busy (Err (refusal.Busy c)) (made (with_channel c (queued (item.End p) (side_of side)) (with_port p (after_end c port) (state_of k))) outcome.Ended))) ≡ Err cause
    → IsAnswered k k (End p c) (Err cause)
end_refused k p c port side outstanding ended busy cause there channel o e b is =
    refused k k (End p c) cause (end_of k p c port side there channel ∙ chosen_end (state_of k) p c port (side_of side) outstanding ended busy o e b ∙ is) refl refl refl

pub end_made : (k : Kept) (p c : ℕ) (port port' : PortSide) (side side' : KeptSide) → slice_get k.ports p ≡ Some port → slice_get k.channels c ≡ Some side
    → eqb (length port.core.reorder.outstanding) 0 ≡ true → unwrap_or (slice_get port.pushed c) false ≡ false → is_busy (side_of side) ≡ false
    → port' ≡ after_end c port → side_of side' ≡ queued (item.End p) (side_of side)
    → IsAnswered k (record k { ports = slice_set k.ports p port'; channels = slice_set k.channels c side' }) (End p c) (Ok outcome.Ended)
end_made k p c port port' side side' there channel o e b is queued_is =
    answered k (record k { ports = slice_set k.ports p port'; channels = slice_set k.channels c side' }) (End p c) outcome.Ended
    (with_channel c (queued (item.End p) (side_of side)) (with_port p (after_end c port) (state_of k)))
    (end_of k p c port side there channel ∙ chosen_end (state_of k) p c port (side_of side) false false false o e b)
    (channel_set (record k { ports = slice_set k.ports p port' }) c side'
    ∙ ap₂ (λ (x : PortSide) (y : ChannelSide). with_channel c y (with_port p x (state_of k))) is queued_is) refl refl
