-- For how long nothing is chosen in a channel, and for how long it is quiet: before that cycle, and before what is first in flight is due.
use Rattle.std.proofs.Common.{◌≡◌, ℕ, zero, suc, ◌+◌, ◌-◌, ◌<◌, ◌≤◌, Bool, true, false, not, cond, eqb, ltb, map, drop, List, [], ◌∷◌, ◌++◌, Option, Some, None, length, refl, sym, ap, ap₂, subst, ◌∙◌, arith}
use Rattle.std.specs.List.{filter, slice_get}
use Rattle.std.specs.Option.{option_map, IfSome}
use Rattle.std.proofs.lemmas.Bool.{lt-ltb, ltb-true}
use Rattle.circular_buffer.specs.Buffer.{Buffer, buffer}
use Rattle.ddr_timing.specs.declared.units.TheConstants.{CLOCK_STOP}
use Rattle.ddr_legality.specs.Bus.{Bus}
use Rattle.ddr_legality.specs.Bus as bus
use Rattle.ddr_legality.specs.Kept as legality
use Rattle.ddr_address_map.specs.Requests.{Completion}
use Rattle.ddr_refresh.specs.Refreshes.{Refreshes, after_tick, after_ticks}
use Rattle.ddr_arbiter.specs.declared.choice.Choice.{Choice}
use Rattle.ddr_arbiter.specs.declared.choice.Choice.TheVariants as choice
use Rattle.ddr_arbiter.specs.Choice as arbiter
use Rattle.ddr_arbiter.specs.Quiet.{later, IsQuietUntil}
use Rattle.ddr_arbiter.specs.Situation.{Situation}
use Rattle.ddr_channel.specs.declared.channel.Channel.TheInside.{Inside}
use Rattle.ddr_channel.specs.Choice.{bus_of, choice_of, policy_of, has_room, rank_refreshes, refreshes_of, situation_of}
use Rattle.ddr_channel.specs.Cycle.{at_choice, drained, issued, ticked, after_cycle}
use Rattle.ddr_channel.specs.Issue.{refreshes_with}
use Rattle.ddr_channel.specs.Quiet.{IsIdleNext, IsQuiet, IsStillUntil, after_cycles, drain_after}
use Rattle.ddr_channel.specs.Kept.{state_of, AgreesWith}
use Rattle.ddr_channel.specs.Sound.{AreDue, IsSound}
use Rattle.ddr_channel.specs.State.{State, after_pop}
use Rattle.ddr_channel.specs.Told.{issued_by, issued_in}
use Rattle.ddr_channel.specs.View.{kept_of, IsWhole}
use Rattle.ddr_channel.proofs.ChannelLemmas.{same_room}
use Rattle.ddr_channel.proofs.CycleLemmas.{Made, after, awake, state_after, whole_after}
use Rattle.ddr_channel.proofs.QuietLemmas.{idled, cycle_idle, cycles_clock, cycles_sound, debts_passed, drain_stays, fields_passed, state_idled, state_passed}
use Rattle.ddr_channel.proofs.SoundLemmas.{due_from, none_due, IsSound-after_pop}

-- the situation, cycles later

ticks_join : (m n : ℕ) (rs : List Refreshes) → map (after_ticks n) (map (after_ticks m) rs) ≡ map (after_ticks (m + n)) rs
ticks_join m n [] = refl
ticks_join m n (r ∷ rs) =
    let both : (r.ticks + m) + n ≡ r.ticks + (m + n) = omega arith in
    ap₂ (λ t (xs : List Refreshes). record r { ticks = t } ∷ xs) both (ticks_join m n rs)

no_ticks : (rs : List Refreshes) → map (after_ticks 0) rs ≡ rs
no_ticks [] = refl
no_ticks (r ∷ rs) =
    let same : r.ticks + 0 ≡ r.ticks = omega arith in
    ap₂ (λ t (xs : List Refreshes). record r { ticks = t } ∷ xs) same (no_ticks rs)

later_join : (m n : ℕ) (s : Situation) → later n (later m s) ≡ later (m + n) s
later_join m n s =
    let now : (s.bus.now + m) + n ≡ s.bus.now + (m + n) = omega arith in
    let ticks = ticks_join m n s.refreshes in
    λ i. record s { bus = record s.bus { now = now i }; refreshes = ticks i }

later_none : (s : Situation) → later 0 s ≡ s
later_none s =
    let now : s.bus.now + 0 ≡ s.bus.now = omega arith in
    let ticks = no_ticks s.refreshes in
    λ i. record s { bus = record s.bus { now = now i }; refreshes = ticks i }

refreshes_idled : (s : State) (ranks : ℕ) → ranks ≤ 2 → s.start ≤ s.now → map after_tick (refreshes_of (idled s) ranks) ≡ map (after_ticks 1) (map after_tick (refreshes_of s ranks))
refreshes_idled s zero few begun = refl
refreshes_idled s (suc zero) few begun =
    let more : ((s.now + 1) - s.start) + 1 ≡ ((s.now - s.start) + 1) + 1 = omega (arith, begun) in
    ap (λ n. record (rank_refreshes s 0) { ticks = n } ∷ []) more
refreshes_idled s (suc (suc zero)) few begun =
    let more : ((s.now + 1) - s.start) + 1 ≡ ((s.now - s.start) + 1) + 1 = omega (arith, begun) in
    ap (λ n. record (rank_refreshes s 0) { ticks = n } ∷ record (rank_refreshes s 1) { ticks = n } ∷ []) more
refreshes_idled s (suc (suc (suc ranks))) few begun = absurd (omega arith)

pub situation_idled : (s : State) → s.start ≤ s.now → situation_of (at_choice (idled s)) ≡ later 1 (situation_of (at_choice s))
situation_idled s begun =
    let refreshes = refreshes_idled s s.config.geometry.ranks s.config.geometry.ranks_range.1 begun in
    let drain = drain_stays s in
    let room : has_room (at_choice (idled s)) ≡ has_room (at_choice s) = same_room (idled s) ∙ sym (same_room s) in
    λ i. record { waiting = s.pending; bus = bus_of (idled s); refreshes = refreshes i; policy = policy_of s.config; drain = drain i; room = room i }

-- a cycle in which nothing is chosen

-- what it makes of a state: what is due completes, and the drain mode and the clock go on
abbrev pub stilled : State → State
stilled s = ticked (at_choice s)

pub still_made : (s : State) → choice_of (at_choice s) ≡ choice.Nothing → after_cycle s ≡ stilled s
still_made s chosen =
    let t = at_choice s in
    let nothing : ticked (issued choice.Nothing t) ≡ ticked t = refl in
    ap (λ (c : Choice). ticked (issued c t)) chosen ∙ nothing

-- it issues nothing
pub still_issued : (s : State) → choice_of (at_choice s) ≡ choice.Nothing → None ≡ issued_in s
still_issued s chosen = sym (ap (issued_by (at_choice s)) chosen)

situation_still : (s : State) → s.start ≤ s.now → choice_of (at_choice s) ≡ choice.Nothing → situation_of (at_choice (after_cycle s)) ≡ later 1 (situation_of (at_choice s))
situation_still s begun chosen =
    let refreshes = refreshes_idled s s.config.geometry.ranks s.config.geometry.ranks_range.1 begun in
    let drain = drain_stays s in
    let room : has_room (at_choice (stilled s)) ≡ has_room (at_choice s) = same_room (stilled s) in
    let next : situation_of (at_choice (stilled s)) ≡ later 1 (situation_of (at_choice s)) =
    λ i. record { waiting = s.pending; bus = bus_of (idled s); refreshes = refreshes i; policy = policy_of s.config; drain = drain i; room = room i } in
    ap (λ (t : State). situation_of (at_choice t)) (still_made s chosen) ∙ next

until_later : (end : ℕ) (s : Situation) → IsQuietUntil end s → IsQuietUntil end (later 1 s)
until_later end s until count before =
    subst (λ (x : Situation). arbiter.choice_of x ≡ choice.Nothing) (sym (later_join 1 count s)) (until (1 + count) (omega (arith, before)))

-- before the cycle that is kept nothing is chosen now
pub still_now : (end : ℕ) (s : State) → IsStillUntil end s → s.now < end → choice_of (at_choice s) ≡ choice.Nothing
still_now end s still before =
    subst (λ (x : Situation). arbiter.choice_of x ≡ choice.Nothing) (later_none (situation_of (at_choice s))) (still 0 (omega (arith, before)))

-- and so it is after such a cycle
pub still_next : (end : ℕ) (s : State) → s.start ≤ s.now → choice_of (at_choice s) ≡ choice.Nothing → IsStillUntil end s → IsStillUntil end (after_cycle s)
still_next end s begun chosen still =
    subst (IsQuietUntil end) (sym (situation_still s begun chosen)) (until_later end (situation_of (at_choice s)) still)

-- after quiet cycles
still_passed : (count end : ℕ) (s : State) → IsQuiet count s → s.start ≤ s.now → IsStillUntil end s → IsStillUntil end (after_cycles count s)
still_passed zero end s quiet begun still = still
still_passed (suc count) end s quiet begun still =
    let later_on = subst (λ (t : State). t.start ≤ t.now) (sym (cycle_idle s quiet.0)) (omega (arith, begun)) in
    still_passed count end (after_cycle s) quiet.1 later_on (still_next end s begun quiet.0.issues still)

-- after a completion was taken, where there was room
dropped_less : {X : Type 0} (xs : List X) → length (drop 1 xs) ≤ length xs
dropped_less [] = omega arith
dropped_less (x ∷ xs) = omega arith

pub still_popped : (end : ℕ) (s : State) → length s.flight + length s.done < s.config.limits.done → IsStillUntil end s → IsStillUntil end (after_pop s)
still_popped end s below still =
    let had : has_room (at_choice s) ≡ true = same_room s ∙ lt-ltb (length s.flight + length s.done) s.config.limits.done below in
    let has : has_room (at_choice (after_pop s)) ≡ true =
    same_room (after_pop s) ∙ lt-ltb (length s.flight + length (drop 1 s.done)) s.config.limits.done (omega (arith, below, dropped_less s.done)) in
    let room = had ∙ sym has in
    subst (IsQuietUntil end) (λ i. record (situation_of (at_choice s)) { room = room i }) still

-- how long

-- what is first in flight is due first
pub due_until : (end now : ℕ) (flight : List Completion) (first : Option Completion) → slice_get flight 0 ≡ first → AreDue now flight → IfSome first (λ d. end ≤ d.due) → AreDue end flight
due_until end now [] first is due later = tt
due_until end now (d ∷ ds) None is due later = cc
due_until end now (d ∷ ds) (Some e) is due later =
    let same : d ≡ e = cc in
    (omega (arith, later, ap (λ (c : Completion). c.due) same), due.1)

quiet_before : (count end : ℕ) (s : State) → count ≤ end - s.now → s.start ≤ s.now → end ≤ CLOCK_STOP → AreDue end s.flight → IsQuietUntil end (situation_of (at_choice s)) → IsQuiet count s
quiet_before zero end s within begun clock due until = tt
quiet_before (suc count) end s within begun clock due until =
    let found = situation_of (at_choice s) in
    let none = none_due s.now s.flight (due_from end (s.now + 1) s.flight (omega arith) due) in
    let idle : IsIdleNext s = record {
      clock = omega arith;
      completes = none.0;
      issues = subst (λ (x : Situation). arbiter.choice_of x ≡ choice.Nothing) (later_none found) (until 0 (omega arith));
    } in
    let next : IsQuietUntil end (situation_of (at_choice (idled s))) = λ more before.
    subst (λ (x : Situation). arbiter.choice_of x ≡ choice.Nothing) (sym (ap (later more) (situation_idled s begun) ∙ later_join 1 more found)) (until (1 + more) (omega (arith, before))) in
    let rest = quiet_before count end (idled s) (omega arith) (omega arith) clock due next in
    (idle, subst (IsQuiet count) (sym (cycle_idle s idle)) rest)

-- up to a cycle that comes before the first choice and before the first completion
pub quiet_from : (end chosen : ℕ) (s : State) (first : Option Completion) → end ≤ chosen → end ≤ CLOCK_STOP → IfSome first (λ d. end ≤ d.due) → slice_get s.flight 0 ≡ first → AreDue s.now s.flight → s.start ≤ s.now →
    IsQuietUntil chosen (situation_of (at_choice s)) → IsQuiet (end - s.now) s
quiet_from end chosen s first sooner clock later is due begun until =
    quiet_before (end - s.now) end s (omega arith) begun clock (due_until end s.now s.flight first is due later) (λ count before. until count (omega (arith, before, sooner)))

-- a channel's fields with another cycle before which nothing is chosen, whether a rank has to be refreshed until then or not
pub whole_asleep : (a : Inside) (end : ℕ) (owes : Bool) → IsWhole a → IsStillUntil end (state_of (kept_of a)) → IsWhole (record a { still_until = end; owes_refresh = owes })
whole_asleep a end owes whole still = record {
  sound = whole.sound;
  of_config = whole.of_config;
  clock = whole.clock;
  reads = whole.reads;
  writes = whole.writes;
  debts = whole.debts;
  flight_room = whole.flight_room;
  done_room = whole.done_room;
  agrees = whole.agrees;
  still = still;
}

-- a channel's fields after many quiet cycles
pub whole_passed : (a : Inside) (count : ℕ) (drain : Bool) (debts : List Refreshes) (legality : legality.Kept) → IsWhole a → IsQuiet count (state_of (kept_of a)) → drain ≡ drain_after count (state_of (kept_of a)) →
    debts ≡ map (after_ticks count) a.debts → legality.bus ≡ bus.passed count a.legality.bus → IsWhole (fields_passed a drain debts legality)
whole_passed a count drain debts legality whole quiet drain_is debts_are on_bus =
    let s = state_of (kept_of a) in
    let idled = state_idled a count drain debts legality drain_is on_bus in
    record {
      sound = subst IsSound (sym (state_passed a count drain debts legality quiet drain_is on_bus)) (cycles_sound count s whole.sound);
      of_config = ap (λ (b : Bus). b.config) on_bus ∙ whole.of_config;
      clock = omega (arith, cycles_clock count s quiet whole.clock, ap (λ (b : Bus). b.now) on_bus);
      reads = whole.reads;
      writes = whole.writes;
      debts = debts_are ∙ ap (map (after_ticks count)) whole.debts ∙ debts_passed count s whole.sound.begun ∙ sym (ap (λ (t : State). refreshes_of t 2) idled);
      flight_room = whole.flight_room;
      done_room = whole.done_room;
      agrees = subst (λ (b : Bus). AgreesWith a.config b.trace a.rows) (sym on_bus) whole.agrees;
      still = subst (IsStillUntil a.still_until) (sym (state_passed a count drain debts legality quiet drain_is on_bus)) (still_passed count a.still_until s quiet whole.sound.begun whole.still);
    }

-- a channel's fields after a cycle in which nothing is chosen

-- without a command the debts are those that were counted
counted_none : (rank : ℕ) (o : Option Refreshes) → o ≡ option_map (refreshes_with rank None) o
counted_none rank None = refl
counted_none rank (Some r) = refl

abbrev pub fields_stilled : Inside → Bool → List Refreshes → Buffer Completion → Buffer Completion → legality.Kept → Inside
fields_stilled a drain debts flight done legality = record a { drain = drain; debts = debts; flight = flight; done = done; legality = legality }

-- what is known of them
pub record Stilled (a : Inside) (drain : Bool) (debts : List Refreshes) (flight done : Buffer Completion) (legality : legality.Kept) : Type 0 where
  pub chosen : choice_of (at_choice (state_of (kept_of a))) ≡ choice.Nothing
  pub mode : drain ≡ (drained (state_of (kept_of a))).drain
  pub debts_are : debts ≡ map after_tick a.debts
  pub flight_is : flight ≡ buffer (filter (λ d. not (eqb d.due a.legality.bus.now)) a.flight.items) a.flight.capacity
  pub done_is : done ≡ buffer (a.done.items ++ filter (λ d. eqb d.due a.legality.bus.now) a.flight.items) a.done.capacity
  pub on_bus : legality.bus ≡ bus.ticked a.legality.bus

made_still : (a : Inside) (drain : Bool) (debts : List Refreshes) (flight done : Buffer Completion) (legality : legality.Kept) → Stilled a drain debts flight done legality →
    Made a choice.Nothing None a.pending drain flight done legality.bus a.rows
made_still a drain debts flight done legality still = record {
  chosen = sym still.chosen;
  command = refl;
  on_bus = still.on_bus;
  mode = still.mode;
  done_is = ap (λ (b : Buffer Completion). b.items) still.done_is;
  holds = record {
    pending_are = refl;
    flight_is = sym (ap (λ (b : Buffer Completion). b.items) still.flight_is);
    bytes = λ address. refl;
  };
}

pub state_stilled : (a : Inside) (drain : Bool) (debts : List Refreshes) (flight done : Buffer Completion) (legality : legality.Kept) → Stilled a drain debts flight done legality →
    state_of (kept_of (fields_stilled a drain debts flight done legality)) ≡ after_cycle (state_of (kept_of a))
state_stilled a drain debts flight done legality still =
    state_after a choice.Nothing None a.pending drain debts flight done legality a.rows (made_still a drain debts flight done legality still)

pub whole_stilled : (a : Inside) (drain : Bool) (debts : List Refreshes) (flight done : Buffer Completion) (legality : legality.Kept) → IsWhole a → a.legality.bus.now < CLOCK_STOP →
    Stilled a drain debts flight done legality → IsWhole (fields_stilled a drain debts flight done legality)
whole_stilled a drain debts flight done legality whole clock still =
    let s = state_of (kept_of a) in
    let made = made_still a drain debts flight done legality still in
    let counted : (rank : ℕ) → slice_get debts rank ≡ option_map (refreshes_with rank None) (slice_get (map after_tick a.debts) rank) =
    λ rank. ap (λ (rs : List Refreshes). slice_get rs rank) still.debts_are ∙ counted_none rank (slice_get (map after_tick a.debts) rank) in
    let agrees = subst (λ (b : Bus). AgreesWith a.config b.trace a.rows) (sym still.on_bus) whole.agrees in
    let woken = whole_after a choice.Nothing None a.pending drain debts flight done legality a.rows whole made clock counted refl refl
    (ap (λ (b : Buffer Completion). b.capacity) still.flight_is) (ap (λ (b : Buffer Completion). b.capacity) still.done_is) agrees in
    whole_asleep (after a a.pending drain debts flight done legality a.rows) a.still_until a.owes_refresh woken
    (subst (IsStillUntil a.still_until) (sym (state_stilled a drain debts flight done legality still)) (still_next a.still_until s whole.sound.begun still.chosen whole.still))

-- the cycle that is kept then: where there was no room, none
pub still_taken : (had_room : Bool) (until end : ℕ) (s : State) → had_room ≡ ltb (length s.flight + length s.done) s.config.limits.done → end ≡ cond had_room until 0 → IsStillUntil until s → IsStillUntil end (after_pop s)
still_taken true until end s had is still =
    subst (λ n. IsStillUntil n (after_pop s)) (sym is) (still_popped until s (ltb-true (length s.flight + length s.done) s.config.limits.done (sym had)) still)
still_taken false until end s had is still = subst (λ n. IsStillUntil n (after_pop s)) (sym is) (awake 0 (after_pop s) (omega arith))

-- a channel's fields after a completion was taken
pub whole_popped : (a : Inside) (done : Buffer Completion) (end : ℕ) → IsWhole a → done ≡ buffer (drop 1 a.done.items) a.done.capacity → IsStillUntil end (after_pop (state_of (kept_of a))) →
    IsWhole (record a { done = done; still_until = end })
whole_popped a done end whole done_is still =
    let popped : state_of (kept_of (record a { done = done; still_until = end })) ≡ after_pop (state_of (kept_of a)) = ap (λ (b : Buffer Completion). state_of (kept_of (record a { done = b; still_until = end }))) done_is in
    record {
      sound = subst IsSound (sym popped) (IsSound-after_pop (state_of (kept_of a)) whole.sound);
      of_config = whole.of_config;
      clock = whole.clock;
      reads = whole.reads;
      writes = whole.writes;
      debts = whole.debts;
      flight_room = whole.flight_room;
      done_room = ap (λ (b : Buffer Completion). b.capacity) done_is ∙ whole.done_room;
      agrees = whole.agrees;
      still = subst (IsStillUntil end) (sym popped) still;
    }
