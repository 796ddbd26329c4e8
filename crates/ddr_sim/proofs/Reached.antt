-- Each state that a run goes through before its Ends is what a record of events makes of the core, none of which is an End.
use Rattle.std.proofs.Common.{◌≡◌, ◌-◌, ℕ, zero, suc, Bool, true, false, cond, List, [], ◌∷◌, ◌++◌, Option, Some, None, IfSome, Ok, Err, IfOk, All, length, refl, sym, ap, subst, ◌∙◌}
use Rattle.std.specs.Prelude.{◌==◌, ◌||◌}
use Rattle.std.specs.List.{range_with_len, slice_get}
use Rattle.std.specs.Option.{option_map, option_and_then, option_map_or}
use Rattle.std.proofs.lemmas.List.{length-replicate, length-set}
use Rattle.std.proofs.lemmas.List.Elements.{All-drop, All-map, All-nil, All-push, All-replicate, All-set}
use Rattle.std.proofs.lemmas.List.FromFn.{length-map-range_with_len}
use Rattle.std.proofs.lemmas.List.Sums.{fold-append}
use Rattle.ddr_timing.specs.declared.config.Config.{Config}
use Rattle.ddr_timing.specs.declared.units.TheConstants.{CLOCK_STOP}
use Rattle.ddr_address_map.specs.Requests.{Completion}
use Rattle.ddr_address_map.specs.declared.request.Kind.TheVariants.{Read, Write}
use Rattle.ddr_channel.proofs.ListLemmas.{All-at}
use Rattle.ddr_channel.specs.Cycle.{after_cycle}
use Rattle.ddr_channel.specs.State.{is_queue_full}
use Rattle.ddr_ports.specs.Asked.{Asked}
use Rattle.ddr_ports.specs.State.{refusal_of, request_at}
use Rattle.ddr_ports.specs.declared.refusal.PortError.{PortError}
use Rattle.ddr_reorder.specs.Replies.{Answer, front_number}
use Rattle.ddr_world.specs.declared.event.Outcome.TheVariants as outcome
use Rattle.ddr_world.specs.declared.event.Refusal.TheVariants as refusal
use Rattle.ddr_world.specs.declared.item.Item.{Item}
use Rattle.ddr_world.specs.declared.item.Item.TheVariants as item
use Rattle.ddr_world.specs.Events.{Event, Submit, Take, Cycle, Deliver, Collect, Release, End}
use Rattle.ddr_world.specs.History as history
use Rattle.ddr_world.specs.History.{Opening, Answered, History, front_of}
use Rattle.ddr_world.specs.Refusals.{refusal_from}
use Rattle.ddr_world.specs.State.{PortSide, ChannelSide, State, is_busy, is_completion_queue_full, opened, opened_port, opened_channel}
use Rattle.ddr_world.specs.Step.{Step, made, with_port, with_channel, change_channel, queued, after_submit, push_on, push_request, submit_by, taken, cycled, sent, after_deliver, deliver_to, push_completion, deliver_by, after_collect, collect_by, after_release, release_by, after_take, step}
use Rattle.ddr_rounds.specs.Rounds.{after, after_step, channel_served, channels_served, items_of, made_state, outstanding, repeated, until_refused}
use Rattle.ddr_rounds.proofs.StepCounts.{at_channel_has, at_port_has, either_has, maybe_has}
use Rattle.ddr_text.specs.declared.fault.Fault.TheVariants as faults
use Rattle.ddr_text.specs.Replies.{reply_text}
use Rattle.ddr_text.specs.Script.{Instruction, Ask, Rounds}
use Rattle.ddr_sim.specs.Rounds.{Run, Course, ◌then◌, port_served, ports_served, replied, round, round_closed, rounds, stopped}
use Rattle.ddr_sim.specs.Runs.{after_submit as after_answer, all_followed, begun, followed, served_out, submitted}

-- a core in which no End was pushed

abbrev pub IsRequest : Item → Type 0
IsRequest (item.Request r) = Unit {0}
IsRequest (item.End p) = ⊥

pub record IsUnendedPort (config : Config) (port : PortSide) : Type 0 where
  pub pushed_are : length port.pushed ≡ config.geometry.channels
  pub pushed : All (λ ended. ended ≡ false) port.pushed

pub record IsUnendedSide (config : Config) (side : ChannelSide) : Type 0 where
  pub noted_are : length side.noted ≡ config.limits.ports
  pub requests : All IsRequest side.requests

pub record IsUnended (config : Config) (s : State) : Type 0 where
  pub ports_are : length s.ports ≡ config.limits.ports
  pub channels_are : length s.channels ≡ config.geometry.channels
  pub ports : All (IsUnendedPort config) s.ports
  pub channels : All (IsUnendedSide config) s.channels

opened_unended : (config : Config) → IsUnended config (opened config 0 0)
opened_unended config = record {
  ports_are = length-map-range_with_len (opened_port config 0) 0 config.limits.ports;
  channels_are = length-replicate config.geometry.channels (opened_channel config 0);
  ports = All-map (IsUnendedPort config) (opened_port config 0) (range_with_len 0 config.limits.ports) (λ k d within. record {
    pushed_are = length-replicate config.geometry.channels false;
    pushed = All-replicate (λ ended. ended ≡ false) config.geometry.channels false refl;
  });
  channels = All-replicate (IsUnendedSide config) config.geometry.channels (opened_channel config 0) (record {
    noted_are = length-replicate config.limits.ports false;
    requests = All-nil IsRequest;
  });
}

-- one port or one channel changed

port_still : (config : Config) (s : State) (p : ℕ) (old new : PortSide) → IsUnended config s → slice_get s.ports p ≡ Some old → new.pushed ≡ old.pushed → IsUnended config (with_port p new s)
port_still config s p old new is there same =
    let was = All-at (IsUnendedPort config) s.ports p old is.ports there in
    record {
      ports_are = length-set s.ports p new ∙ is.ports_are;
      channels_are = is.channels_are;
      ports = All-set (IsUnendedPort config) s.ports p new (record {
        pushed_are = ap (λ (xs : List Bool). length xs) same ∙ was.pushed_are;
        pushed = subst (All (λ ended. ended ≡ false)) (sym same) was.pushed;
      }) is.ports;
      channels = is.channels;
    }

side_still : (config : Config) (s : State) (c : ℕ) (new : ChannelSide) → IsUnended config s → IsUnendedSide config new → IsUnended config (with_channel c new s)
side_still config s c new is side = record {
  ports_are = is.ports_are;
  channels_are = length-set s.channels c new ∙ is.channels_are;
  ports = is.ports;
  channels = All-set (IsUnendedSide config) s.channels c new side is.channels;
}

side_at : (config : Config) (s : State) (c : ℕ) (side : ChannelSide) → IsUnended config s → slice_get s.channels c ≡ Some side → IsUnendedSide config side
side_at config s c side is there = All-at (IsUnendedSide config) s.channels c side is.channels there

-- what an event makes

abbrev StaysUnended : Config → Step → Type 0
StaysUnended config (Ok m) = IsUnended config m.state
StaysUnended config (Err cause) = Unit {0}

submit_stays : (config : Config) (s : State) (p : ℕ) (asked : Asked) → IsUnended config s → StaysUnended config (step s (Submit p asked))
submit_stays config s p asked is = at_port_has (StaysUnended config) s p (submit_by s p asked) (slice_get s.ports p) refl tt (λ port there.
    maybe_has (StaysUnended config) (λ (cause : PortError). Err (refusal_from cause)) (option_map_or (push_request s p port asked) (request_at port.core asked) (Err refusal.OutOfRange)) (refusal_of port.core asked)
    (maybe_has (StaysUnended config) (push_request s p port asked) (Err refusal.OutOfRange) (request_at port.core asked) tt (λ r prepared.
    at_channel_has (StaysUnended config) s r.place.channel (push_on s p port asked r) (slice_get s.channels r.place.channel) refl tt (λ side found.
    let was = side_at config s r.place.channel side is found in
    either_has (StaysUnended config) (is_busy side) (Err (refusal.Busy r.place.channel)) (made (with_channel r.place.channel (queued (item.Request r) side) (with_port p (after_submit asked port) s)) (outcome.Accepted r.number)) tt
    (side_still config (with_port p (after_submit asked port) s) r.place.channel (queued (item.Request r) side) (port_still config s p port (after_submit asked port) is there refl)
    (record { noted_are = was.noted_are; requests = All-push IsRequest side.requests (item.Request r) was.requests tt })))))
    (λ cause refused. tt))

took : (config : Config) (s : State) (c : ℕ) (side : ChannelSide) (it : Item) (full : Bool) → IsUnended config s → IsUnendedSide config side
    → StaysUnended config (change_channel s c outcome.Taken (cond full (Err refusal.QueueFull) (Ok (after_take it side))))
took config s c side it true is was = tt
took config s c side (item.Request r) false is was = side_still config s c (after_take (item.Request r) side) is (record { noted_are = was.noted_are; requests = All-drop IsRequest 1 side.requests was.requests })
took config s c side (item.End p) false is was =
    side_still config s c (after_take (item.End p) side) is (record { noted_are = length-set side.noted p true ∙ was.noted_are; requests = All-drop IsRequest 1 side.requests was.requests })

take_first : (config : Config) (s : State) (c : ℕ) (side : ChannelSide) (first : Option Item) → IsUnended config s → IsUnendedSide config side
    → StaysUnended config (change_channel s c outcome.Taken (option_map_or (λ it. cond (is_queue_full side.channel Read || is_queue_full side.channel Write) (Err refusal.QueueFull) (Ok (after_take it side))) first (Err refusal.Nothing)))
take_first config s c side None is was = tt
take_first config s c side (Some it) is was = took config s c side it (is_queue_full side.channel Read || is_queue_full side.channel Write) is was

take_stays : (config : Config) (s : State) (c : ℕ) → IsUnended config s → StaysUnended config (step s (Take c))
take_stays config s c is = at_channel_has (StaysUnended config) s c (λ side. change_channel s c outcome.Taken (taken side)) (slice_get s.channels c) refl tt (λ side found.
    take_first config s c side (slice_get side.requests 0) is (side_at config s c side is found))

cycle_clock : (config : Config) (s : State) (c : ℕ) (side : ChannelSide) (stopped : Bool) → IsUnended config s → IsUnendedSide config side
    → StaysUnended config (change_channel s c outcome.Cycled (cond stopped (Err refusal.ClockSpent) (Ok (record side { channel = after_cycle side.channel }))))
cycle_clock config s c side true is was = tt
cycle_clock config s c side false is was = side_still config s c (record side { channel = after_cycle side.channel }) is (record { noted_are = was.noted_are; requests = was.requests })

cycle_stays : (config : Config) (s : State) (c : ℕ) → IsUnended config s → StaysUnended config (step s (Cycle c))
cycle_stays config s c is = at_channel_has (StaysUnended config) s c (λ side. change_channel s c outcome.Cycled (cycled side)) (slice_get s.channels c) refl tt (λ side found.
    cycle_clock config s c side (side.channel.now == CLOCK_STOP) is (side_at config s c side is found))

deliver_stays : (config : Config) (s : State) (c : ℕ) → IsUnended config s → StaysUnended config (step s (Deliver c))
deliver_stays config s c is = at_channel_has (StaysUnended config) s c (deliver_by s c) (slice_get s.channels c) refl tt (λ side found.
    let was = side_at config s c side is found in
    maybe_has (StaysUnended config) (push_completion s c side) (Err refusal.Nothing) (slice_get side.channel.done 0) tt (λ d first.
    maybe_has (StaysUnended config) (deliver_to s c side d) (Err refusal.QueueFull) (slice_get s.ports d.port) tt (λ port there.
    either_has (StaysUnended config) (is_completion_queue_full port) (Err refusal.QueueFull) (made (with_port d.port (after_deliver d port) (with_channel c (sent side) s)) outcome.Delivered) tt
    (port_still config (with_channel c (sent side) s) d.port port (after_deliver d port) (side_still config s c (sent side) is (record { noted_are = was.noted_are; requests = was.requests })) there refl))))

collect_stays : (config : Config) (s : State) (p : ℕ) → IsUnended config s → StaysUnended config (step s (Collect p))
collect_stays config s p is = at_port_has (StaysUnended config) s p (collect_by s p) (slice_get s.ports p) refl tt (λ port there.
    maybe_has (StaysUnended config) (λ (d : Completion). made (with_port p (after_collect d port) s) (outcome.Collected d.number)) (Err refusal.Nothing) (slice_get port.completions 0) tt (λ d first.
    port_still config s p port (after_collect d port) is there refl))

release_stays : (config : Config) (s : State) (p : ℕ) → IsUnended config s → StaysUnended config (step s (Release p))
release_stays config s p is = at_port_has (StaysUnended config) s p (release_by s p) (slice_get s.ports p) refl tt (λ port there.
    maybe_has (StaysUnended config) (λ number. made (with_port p (after_release port) s) (outcome.Released number)) (Err refusal.Nothing) (front_number port.core.reorder) tt (λ number front.
    port_still config s p port (after_release port) is there refl))

-- every event but an End
abbrev pub IsNoEnd : Event → Type 0
IsNoEnd (End p c) = ⊥
IsNoEnd _ = Unit {0}

step_stays : (config : Config) (s : State) (event : Event) → IsNoEnd event → IsUnended config s → StaysUnended config (step s event)
step_stays config s (Submit p asked) other is = submit_stays config s p asked is
step_stays config s (Take c) other is = take_stays config s c is
step_stays config s (Cycle c) other is = cycle_stays config s c is
step_stays config s (Deliver c) other is = deliver_stays config s c is
step_stays config s (Collect p) other is = collect_stays config s p is
step_stays config s (Release p) other is = release_stays config s p is
step_stays config s (End p c) other is = absurd other

-- what a record of events makes of the core of a run

abbrev pub opening_of : Config → Opening
opening_of config = record { config = config; keeps = true; cycle = 0; number = 0 }

pub record IsReached (config : Config) (s : State) : Type 0 where
  pub events : List Answered
  pub is : (history.run (opening_of config) events).state ≡ s
  pub unended : IsUnended config s

noted_state : (h : History) (event : Event) (r : Step) → (history.after_step event h r).state ≡ after_step h.state r
noted_state h event (Ok m) = refl
noted_state h event (Err cause) = refl

after_stays : (config : Config) (s : State) (r : Step) → IsUnended config s → StaysUnended config r → IsUnended config (after_step s r)
after_stays config s (Ok m) is stays = stays
after_stays config s (Err cause) is stays = is

event_reached : (config : Config) (s : State) (event : Event) → IsNoEnd event → IsReached config s → IsReached config (after s event)
event_reached config s event other r =
    let o = opening_of config in
    let h = history.run o r.events in
    let a : Answered = record { event = event; answer = Ok outcome.Taken } in
    record {
      events = r.events ++ a ∷ [];
      is = ap (λ (g : History). g.state) (fold-append history.after (history.begun o) r.events (a ∷ [])) ∙ noted_state h event (step h.state event) ∙ ap (λ (t : State). after t event) r.is;
      unended = after_stays config s (step s event) r.unended (step_stays config s event other r.unended);
    }

made_reached : (config : Config) (s next : State) (event : Event) (r : Step) → IsNoEnd event → IsReached config s → step s event ≡ r → after_step s r ≡ next → IsReached config next
made_reached config s next event r other reached is same = subst (IsReached config) (ap (after_step s) is ∙ same) (event_reached config s event other reached)

made_on : (config : Config) (s : State) (event : Event) (f : State → State) (r : Step) → IsNoEnd event → IsReached config s → step s event ≡ r → ((next : State) → IsReached config next → IsReached config (f next))
    → IsReached config (option_map_or f (made_state r) s)
made_on config s event f (Ok m) other reached is on = on m.state (made_reached config s m.state event (Ok m) other reached is refl)
made_on config s event f (Err cause) other reached is on = reached

repeated_reached : (config : Config) (n : ℕ) (event : Event) (s : State) → IsNoEnd event → IsReached config s → IsReached config (repeated n event s)
repeated_reached config zero event s other r = r
repeated_reached config (suc n) event s other r = made_on config s event (repeated n event) (step s event) other r refl (λ next there. repeated_reached config n event next other there)

-- the channels' part of a round

channel_reached : (config : Config) (c : ℕ) (s : State) → IsReached config s → IfSome (channel_served c s) (IsReached config)
channel_reached config c s r = by_step (step took_all (Cycle c)) refl
  where
    took_all : State
    took_all = until_refused (Take c) s

    by_step : (x : Step) → step took_all (Cycle c) ≡ x → IfSome (option_map (until_refused (Deliver c)) (made_state x)) (IsReached config)
    by_step (Ok m) is =
        repeated_reached config (items_of m.state (Deliver c)) (Deliver c) m.state tt
        (made_reached config took_all m.state (Cycle c) (Ok m) tt (repeated_reached config (items_of s (Take c)) (Take c) s tt r) is refl)
    by_step (Err cause) is = tt

next_reached : (config : Config) (c : ℕ) (o : Option State) → IfSome o (IsReached config) → IfSome (option_and_then (channel_served c) o) (IsReached config)
next_reached config c None r = tt
next_reached config c (Some s) r = channel_reached config c s r

channels_reached : (config : Config) (n : ℕ) (s : State) → IsReached config s → IfSome (channels_served n s) (IsReached config)
channels_reached config zero s r = r
channels_reached config (suc c) s r = next_reached config c (channels_served c s) (channels_reached config c s r)

-- the ports' part

maybe_on : (config : Config) (run : Run) (f : Answer → Run) (o : Option Answer) → IsReached config run.state → ((a : Answer) → IsReached config (f a).state) → IsReached config (option_map_or f o run).state
maybe_on config run f None r on = r
maybe_on config run f (Some a) r on = on a

replied_reached : (config : Config) (n p : ℕ) (run : Run) → IsReached config run.state → IsReached config (replied n p run).state
replied_reached config zero p run r = r
replied_reached config (suc n) p run r =
    maybe_on config run (λ a. replied n p (record run { state = after run.state (Release p); text = run.text ++ reply_text p a })) (front_of run.state p) r (λ a.
    replied_reached config n p (record run { state = after run.state (Release p); text = run.text ++ reply_text p a }) (event_reached config run.state (Release p) tt r))

port_reached : (config : Config) (p : ℕ) (run : Run) → IsReached config run.state → IsReached config (port_served p run).state
port_reached config p run r =
    let collected : Run = record run { state = until_refused (Collect p) run.state } in
    replied_reached config (items_of collected.state (Release p)) p collected (repeated_reached config (items_of run.state (Collect p)) (Collect p) run.state tt r)

ports_reached : (config : Config) (n : ℕ) (run : Run) → IsReached config run.state → IsReached config (ports_served n run).state
ports_reached config zero run r = r
ports_reached config (suc p) run r = port_reached config p (ports_served p run) (ports_reached config p run r)

-- the parts of a run

abbrev pub IsReachedRun : Config → Run → Type 0
IsReachedRun config run = IsReached config run.state

-- nothing is outstanding
abbrev pub IsServedRun : Config → Run → Type 0
IsServedRun config run = IsReached config run.state × ((outstanding run.state == 0) ≡ true)

pub ok_then : (P Q : Run → Type 0) (course : Course) (next : Run → Course) → IfOk course P → ((run : Run) → P run → IfOk (next run) Q) → IfOk (course then next) Q
ok_then P Q (Ok run) next is on = on run is
ok_then P Q (Err stop) next is on = tt

closed_reached : (config : Config) (run : Run) (o : Option State) → IfSome o (IsReached config) → IfOk (round_closed config run o) (IsReachedRun config)
closed_reached config run None r = tt
closed_reached config run (Some s) r = ports_reached config config.limits.ports (record run { state = s; left = run.left - 1 }) r

either_ok : (P : Run → Type 0) (b : Bool) (x y : Course) → IfOk x P → IfOk y P → IfOk (cond b x y) P
either_ok P true x y p q = p
either_ok P false x y p q = q

round_reached : (config : Config) (run : Run) → IsReachedRun config run → IfOk (round config run) (IsReachedRun config)
round_reached config run r =
    either_ok (IsReachedRun config) (run.left == 0) (stopped faults.ScriptLimit run) (round_closed config run (channels_served config.geometry.channels run.state)) tt
    (closed_reached config run (channels_served config.geometry.channels run.state) (channels_reached config config.geometry.channels run.state r))

rounds_reached : (config : Config) (n : ℕ) (run : Run) → IsReachedRun config run → IfOk (rounds config n run) (IsReachedRun config)
rounds_reached config zero run r = r
rounds_reached config (suc n) run r = ok_then (IsReachedRun config) (IsReachedRun config) (round config run) (rounds config n) (round_reached config run r) (λ next there. rounds_reached config n next there)

submitted_reached : (config : Config) (p : ℕ) (asked : Asked) (run : Run) → IsReachedRun config run → IsReachedRun config (submitted p asked run)
submitted_reached config p asked run r = by_step (step run.state (Submit p asked)) refl
  where
    by_step : (x : Step) → step run.state (Submit p asked) ≡ x → IsReached config (after_answer p run x).state
    by_step (Ok m) is = made_reached config run.state m.state (Submit p asked) (Ok m) tt r is refl
    by_step (Err cause) is = r

followed_reached : (config : Config) (instruction : Instruction) (run : Run) → IsReachedRun config run → IfOk (followed config instruction run) (IsReachedRun config)
followed_reached config (Ask p asked) run r = submitted_reached config p asked run r
followed_reached config (Rounds n) run r = rounds_reached config n run r

all_followed_reached : (config : Config) (instructions : List Instruction) (run : Run) → IsReachedRun config run → IfOk (all_followed config instructions run) (IsReachedRun config)
all_followed_reached config [] run r = r
all_followed_reached config (instruction ∷ more) run r =
    ok_then (IsReachedRun config) (IsReachedRun config) (followed config instruction run) (all_followed config more) (followed_reached config instruction run r) (λ next there. all_followed_reached config more next there)

served_if : (config : Config) (run : Run) (other : Course) (idle : Bool) → (outstanding run.state == 0) ≡ idle → IsReachedRun config run → IfOk other (IsServedRun config) → IfOk (cond idle (Ok run) other) (IsServedRun config)
served_if config run other true is r rest = (r, is)
served_if config run other false is r rest = rest

served_out_reached : (config : Config) (n : ℕ) (run : Run) → IsReachedRun config run → IfOk (served_out config n run) (IsServedRun config)
served_out_reached config zero run r = served_if config run (stopped faults.ScriptLimit run) (outstanding run.state == 0) refl r tt
served_out_reached config (suc n) run r =
    served_if config run (round config run then served_out config n) (outstanding run.state == 0) refl r
    (ok_then (IsReachedRun config) (IsServedRun config) (round config run) (served_out config n) (round_reached config run r) (λ next there. served_out_reached config n next there))

-- up to the Ends
pub run_reached : (config : Config) (instructions : List Instruction) → IfOk (all_followed config instructions (begun config) then λ next. served_out config next.left next) (IsServedRun config)
run_reached config instructions =
    ok_then (IsReachedRun config) (IsServedRun config) (all_followed config instructions (begun config)) (λ next. served_out config next.left next)
    (all_followed_reached config instructions (begun config) (record { events = []; is = refl; unended = opened_unended config }))
    (λ next there. served_out_reached config next.left next there)
