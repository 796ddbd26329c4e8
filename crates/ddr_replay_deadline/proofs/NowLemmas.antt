-- The clocks of the channels in a turn: each channel makes one cycle, and nothing else changes a clock.
use Rattle.std.proofs.Common.{◌≡◌, ◌≢◌, ◌≤◌, ◌<◌, ◌+◌, ℕ, zero, suc, ◌||◌, Bool, true, false, not, cond, eqb, List, Option, Some, None, Result, Ok, Err, IfOk, length, set, refl, sym, ap, subst, ◌∙◌, inl, inr, arith}
use Rattle.std.specs.List.{slice_get}
use Rattle.std.specs.Option.{option_map, option_map_or, option_and_then, unwrap_or}
use Rattle.std.proofs.lemmas.Option.{slice_get_within}
use Rattle.ddr_timing.specs.declared.units.TheConstants.{CLOCK_STOP}
use Rattle.ddr_address_map.specs.Requests.{Completion}
use Rattle.ddr_address_map.specs.declared.request.Kind.TheVariants.{Read, Write}
use Rattle.ddr_channel.specs.Cycle.{after_cycle}
use Rattle.ddr_channel.specs.State.{is_queue_full}
use Rattle.ddr_ports.specs.Asked.{Asked}
use Rattle.ddr_ports.specs.State.{refusal_of, request_at}
use Rattle.ddr_ports.specs.declared.refusal.PortError.{PortError}
use Rattle.ddr_reorder.specs.Replies.{front_number}
use Rattle.ddr_rounds.specs.Rounds.{channel_served, channels_served, items_of, made_state, repeated, until_refused}
use Rattle.ddr_rounds.proofs.StepCounts.{at_port_has, at_channel_has, either_has, maybe_has}
use Rattle.ddr_world.specs.declared.event.Outcome.{Outcome}
use Rattle.ddr_world.specs.declared.event.Outcome.TheVariants as outcome
use Rattle.ddr_world.specs.declared.event.Refusal.{Refusal}
use Rattle.ddr_world.specs.declared.event.Refusal.TheVariants as refusal
use Rattle.ddr_world.specs.declared.item.Item.{Item}
use Rattle.ddr_world.specs.declared.item.Item.TheVariants as item
use Rattle.ddr_world.specs.Events.{Event, Submit, Take, Cycle, Deliver, Collect, Release, End}
use Rattle.ddr_world.specs.Refusals.{refusal_from}
use Rattle.ddr_world.specs.State.{ChannelSide, State, is_busy, is_completion_queue_full}
use Rattle.ddr_world.specs.Step.{Step, made, with_port, with_channel, at_channel, change_channel, queued, after_submit, push_on, push_request, submit_by, after_take, taken, cycled, sent, after_deliver, deliver_to, push_completion, deliver_by, after_collect, collect_by, after_release, release_by, after_end, end_at, step}
use Rattle.ddr_world.proofs.CoreKeeps.{replaced_at}
use Rattle.ddr_core_deadline.specs.InRounds.{IsNoCycle}
use Rattle.ddr_replay_deadline.proofs.AdmitLemmas.{cycle_clock}

-- of the clock of each channel this holds
abbrev pub Clocks : (ℕ → ℕ → Type 0) → List ChannelSide → Type 0
Clocks P sides = (c : ℕ) (side : ChannelSide) → slice_get sides c ≡ Some side → P c side.channel.now

-- it is this one
abbrev pub AreNow : ℕ → State → Type 0
AreNow clock s = Clocks (λ c now. now ≡ clock) s.channels

abbrev Leaves : (ℕ → ℕ → Type 0) → Step → Type 0
Leaves P (Ok m) = Clocks P m.state.channels
Leaves P (Err cause) = Unit {0}

set_clocks : (P Q : ℕ → ℕ → Type 0) (sides : List ChannelSide) (c : ℕ) (old new : ChannelSide) → Clocks P sides → slice_get sides c ≡ Some old → (P c old.channel.now → Q c new.channel.now) → ((i now : ℕ) → i ≢ c → P i now → Q i now)
    → Clocks Q (set sides c new)
set_clocks P Q sides c old new was is here others i side there = elim (replaced_at sides c i old new side is there) [
  | inl same ↦ subst (λ (s : ChannelSide). Q i s.channel.now) (sym same.1) (subst (λ n. Q n new.channel.now) (sym same.0) (here (was c old is)))
  | inr other ↦ others i side.channel.now other.0 (was i side other.1)
]

-- a channel whose clock stays
still_clocks : (P : ℕ → ℕ → Type 0) (sides : List ChannelSide) (c : ℕ) (old new : ChannelSide) → Clocks P sides → slice_get sides c ≡ Some old → new.channel.now ≡ old.channel.now → Clocks P (set sides c new)
still_clocks P sides c old new was is same = set_clocks P P sides c old new was is (λ here. subst (P c) (sym same) here) (λ i now other here. here)

-- every event that is no cycle

submit_clocks : (P : ℕ → ℕ → Type 0) (s : State) (p : ℕ) (asked : Asked) → Clocks P s.channels → Leaves P (step s (Submit p asked))
submit_clocks P s p asked was = at_port_has (Leaves P) s p (submit_by s p asked) (slice_get s.ports p) refl tt (λ port there.
    maybe_has (Leaves P) (λ (cause : PortError). Err (refusal_from cause)) (option_map_or (push_request s p port asked) (request_at port.core asked) (Err refusal.OutOfRange)) (refusal_of port.core asked)
    (maybe_has (Leaves P) (push_request s p port asked) (Err refusal.OutOfRange) (request_at port.core asked) tt (λ r prepared.
    at_channel_has (Leaves P) s r.place.channel (push_on s p port asked r) (slice_get s.channels r.place.channel) refl tt (λ side found.
    either_has (Leaves P) (is_busy side) (Err (refusal.Busy r.place.channel)) (made (with_channel r.place.channel (queued (item.Request r) side) (with_port p (after_submit asked port) s)) (outcome.Accepted r.number)) tt
    (still_clocks P s.channels r.place.channel side (queued (item.Request r) side) was found refl))))
    (λ cause is. tt))

taken_clock : (side : ChannelSide) (x : Option Item) (b : Bool) → IfOk (option_map_or (λ it. cond b (Err refusal.QueueFull) (Ok (after_take it side))) x (Err refusal.Nothing)) (λ (new : ChannelSide). new.channel.now ≡ side.channel.now)
taken_clock side None b = tt
taken_clock side (Some it) true = tt
taken_clock side (Some (item.Request r)) false = refl
taken_clock side (Some (item.End p)) false = refl

change_clocks : (P Q : ℕ → ℕ → Type 0) (s : State) (c : ℕ) (o : Outcome) (side : ChannelSide) (r : Result ChannelSide Refusal) → Clocks P s.channels → slice_get s.channels c ≡ Some side
    → IfOk r (λ (new : ChannelSide). P c side.channel.now → Q c new.channel.now) → ((i now : ℕ) → i ≢ c → P i now → Q i now) → Leaves Q (change_channel s c o r)
change_clocks P Q s c o side (Ok new) was found here others = set_clocks P Q s.channels c side new was found here others
change_clocks P Q s c o side (Err cause) was found here others = tt

same_clock : (P : ℕ → ℕ → Type 0) (c : ℕ) (side : ChannelSide) (r : Result ChannelSide Refusal) → IfOk r (λ (new : ChannelSide). new.channel.now ≡ side.channel.now) → IfOk r (λ (new : ChannelSide). P c side.channel.now → P c new.channel.now)
same_clock P c side (Ok new) same = λ here. subst (P c) (sym same) here
same_clock P c side (Err cause) same = tt

take_clocks : (P : ℕ → ℕ → Type 0) (s : State) (c : ℕ) → Clocks P s.channels → Leaves P (step s (Take c))
take_clocks P s c was = at_channel_has (Leaves P) s c (λ side. change_channel s c outcome.Taken (taken side)) (slice_get s.channels c) refl tt (λ side found.
    change_clocks P P s c outcome.Taken side (taken side) was found
    (same_clock P c side (taken side) (taken_clock side (slice_get side.requests 0) (is_queue_full side.channel Read || is_queue_full side.channel Write))) (λ i now other here. here))

deliver_clocks : (P : ℕ → ℕ → Type 0) (s : State) (c : ℕ) → Clocks P s.channels → Leaves P (step s (Deliver c))
deliver_clocks P s c was = at_channel_has (Leaves P) s c (deliver_by s c) (slice_get s.channels c) refl tt (λ side found.
    maybe_has (Leaves P) (push_completion s c side) (Err refusal.Nothing) (slice_get side.channel.done 0) tt (λ d first.
    maybe_has (Leaves P) (deliver_to s c side d) (Err refusal.QueueFull) (slice_get s.ports d.port) tt (λ port there.
    either_has (Leaves P) (is_completion_queue_full port) (Err refusal.QueueFull) (made (with_port d.port (after_deliver d port) (with_channel c (sent side) s)) outcome.Delivered) tt
    (still_clocks P s.channels c side (sent side) was found refl))))

collect_clocks : (P : ℕ → ℕ → Type 0) (s : State) (p : ℕ) → Clocks P s.channels → Leaves P (step s (Collect p))
collect_clocks P s p was = at_port_has (Leaves P) s p (collect_by s p) (slice_get s.ports p) refl tt (λ port there.
    maybe_has (Leaves P) (λ (d : Completion). made (with_port p (after_collect d port) s) (outcome.Collected d.number)) (Err refusal.Nothing) (slice_get port.completions 0) tt (λ d first. was))

release_clocks : (P : ℕ → ℕ → Type 0) (s : State) (p : ℕ) → Clocks P s.channels → Leaves P (step s (Release p))
release_clocks P s p was = at_port_has (Leaves P) s p (release_by s p) (slice_get s.ports p) refl tt (λ port there.
    maybe_has (Leaves P) (λ number. made (with_port p (after_release port) s) (outcome.Released number)) (Err refusal.Nothing) (front_number port.core.reorder) tt (λ number front. was))

end_clocks : (P : ℕ → ℕ → Type 0) (s : State) (p c : ℕ) → Clocks P s.channels → Leaves P (step s (End p c))
end_clocks P s p c was = at_port_has (Leaves P) s p (λ port. at_channel s c (end_at s p c port)) (slice_get s.ports p) refl tt (λ port there.
    at_channel_has (Leaves P) s c (end_at s p c port) (slice_get s.channels c) refl tt (λ side found.
    either_has (Leaves P) (not (eqb (length port.core.reorder.outstanding) 0)) (Err refusal.NotEmpty) _ tt
    (either_has (Leaves P) (unwrap_or (slice_get port.pushed c) false) (Err refusal.Finished) _ tt
    (either_has (Leaves P) (is_busy side) (Err (refusal.Busy c)) (made (with_channel c (queued (item.End p) side) (with_port p (after_end c port) s)) outcome.Ended) tt
    (still_clocks P s.channels c side (queued (item.End p) side) was found refl)))))

step_clocks : (P : ℕ → ℕ → Type 0) (s : State) (event : Event) → IsNoCycle event → Clocks P s.channels → Leaves P (step s event)
step_clocks P s (Submit p asked) other was = submit_clocks P s p asked was
step_clocks P s (Take c) other was = take_clocks P s c was
step_clocks P s (Cycle c) other was = absurd other
step_clocks P s (Deliver c) other was = deliver_clocks P s c was
step_clocks P s (Collect p) other was = collect_clocks P s p was
step_clocks P s (Release p) other was = release_clocks P s p was
step_clocks P s (End p c) other was = end_clocks P s p c was

-- one that is made
pub made_clocks : (P : ℕ → ℕ → Type 0) (s next : State) (event : Event) (o : Outcome) → IsNoCycle event → step s event ≡ made next o → Clocks P s.channels → Clocks P next.channels
made_clocks P s next event o other is was = subst (Leaves P) is (step_clocks P s event other was)

-- and however often it is made
repeated_clocks : (P : ℕ → ℕ → Type 0) (n : ℕ) (event : Event) (s : State) → IsNoCycle event → Clocks P s.channels → Clocks P (repeated n event s).channels
repeated_clocks P zero event s other was = was
repeated_clocks P (suc n) event s other was = by_step (step s event) (step_clocks P s event other was) (λ t. repeated_clocks P n event t other)
  where
    by_step : (r : Step) → Leaves P r → ((t : State) → Clocks P t.channels → Clocks P (repeated n event t).channels) → Clocks P (option_map_or (repeated n event) (made_state r) s).channels
    by_step (Ok m) left later = later m.state left
    by_step (Err cause) left later = was

pub until_clocks : (P : ℕ → ℕ → Type 0) (event : Event) (s : State) → IsNoCycle event → Clocks P s.channels → Clocks P (until_refused event s).channels
until_clocks P event s other was = repeated_clocks P (items_of s event) event s other was

-- a cycle of one channel

cycled_clock : (P Q : ℕ → ℕ → Type 0) (c : ℕ) (side : ChannelSide) (b : Bool) → ((now : ℕ) → P c now → Q c (now + 1))
    → IfOk (cond b (Err refusal.ClockSpent) (Ok (record side { channel = after_cycle side.channel }))) (λ (new : ChannelSide). P c side.channel.now → Q c new.channel.now)
cycled_clock P Q c side true on = tt
cycled_clock P Q c side false on = λ here. subst (Q c) (sym (cycle_clock side.channel)) (on side.channel.now here)

cycle_clocks : (P Q : ℕ → ℕ → Type 0) (s : State) (c : ℕ) → ((now : ℕ) → P c now → Q c (now + 1)) → ((i now : ℕ) → i ≢ c → P i now → Q i now) → Clocks P s.channels → Leaves Q (step s (Cycle c))
cycle_clocks P Q s c on others was = at_channel_has (Leaves Q) s c (λ side. change_channel s c outcome.Cycled (cycled side)) (slice_get s.channels c) refl tt (λ side found.
    change_clocks P Q s c outcome.Cycled side (cycled side) was found (cycled_clock P Q c side (eqb side.channel.now CLOCK_STOP) on) others)

channel_clocks : (P Q : ℕ → ℕ → Type 0) (c : ℕ) (s next : State) → ((now : ℕ) → P c now → Q c (now + 1)) → ((i now : ℕ) → i ≢ c → P i now → Q i now) → channel_served c s ≡ Some next → Clocks P s.channels → Clocks Q next.channels
channel_clocks P Q c s next on others served was =
    let popped = until_refused (Take c) s in
    by_step (step popped (Cycle c)) served (cycle_clocks P Q popped c on others (until_clocks P (Take c) s tt was))
  where
    by_step : (r : Step) → option_map (until_refused (Deliver c)) (made_state r) ≡ Some next → Leaves Q r → Clocks Q next.channels
    by_step (Ok m) is left =
        let same : until_refused (Deliver c) m.state ≡ next = cc in
        subst (λ (t : State). Clocks Q t.channels) same (until_clocks Q (Deliver c) m.state tt left)
    by_step (Err cause) is left = absurd (let impossible = is in cc)

-- the first so many have made theirs
abbrev IsBetween : ℕ → ℕ → ℕ → ℕ → Type 0
IsBetween n clock c now = (c < n → now ≡ clock + 1) × (n ≤ c → now ≡ clock)

between_on : (n clock now : ℕ) → IsBetween n clock n now → IsBetween (suc n) clock n (now + 1)
between_on n clock now was = (λ before. omega (arith, was.1 (omega arith)), λ behind. absurd (omega (arith, behind)))

between_still : (n clock i now : ℕ) → i ≢ n → IsBetween n clock i now → IsBetween (suc n) clock i now
between_still n clock i now other was = (λ before. was.0 (omega (arith, before, other)), λ behind. was.1 (omega (arith, behind)))

channels_between : (clock n : ℕ) (s next : State) → channels_served n s ≡ Some next → AreNow clock s → Clocks (IsBetween n clock) next.channels
channels_between clock zero s next served was =
    let same : s ≡ next = cc in
    λ c side at. (λ before. absurd (omega (arith, before)), λ behind. was c side (ap (λ (t : State). slice_get t.channels c) same ∙ at))
channels_between clock (suc n) s next served was = by_served (channels_served n s) served (λ mid is. channels_between clock n s mid is was)
  where
    by_served : (x : Option State) → option_and_then (channel_served n) x ≡ Some next → ((mid : State) → x ≡ Some mid → Clocks (IsBetween n clock) mid.channels) → Clocks (IsBetween (suc n) clock) next.channels
    by_served None is first = absurd (let impossible = is in cc)
    by_served (Some mid) is first = channel_clocks (IsBetween n clock) (IsBetween (suc n) clock) n mid next (between_on n clock) (between_still n clock) is (first mid refl)

-- each channel has made its cycle
pub channels_now : (clock n : ℕ) (s next : State) → channels_served n s ≡ Some next → length next.channels ≤ n → AreNow clock s → AreNow (clock + 1) next
channels_now clock n s next served few was c side at =
    let between = channels_between clock n s next served was c side at in
    between.0 (omega (arith, few, slice_get_within next.channels c side at))
