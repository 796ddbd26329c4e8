-- Rounds find all taken, and leave nothing done.
use Rattle.std.proofs.Common.{◌≡◌, ◌≢◌, ◌≤◌, ℕ, zero, suc, List, [], ◌∷◌, ◌++◌, Option, Some, None, IfOk, IfSome, IsSome, OnOk, Result, Ok, Err, append-nil, append_assoc, refl, sym, ap, subst, ◌∙◌, true, arith}
use Rattle.std.specs.List.{slice_get, fold}
use Rattle.std.specs.Option.{option_map, option_map_or, option_and_then}
use Rattle.std.proofs.lemmas.List.Sums.{fold-append}
use Rattle.ddr_timing.specs.declared.config.Config.{Config}
use Rattle.ddr_latency.specs.Bound.{leaves_room}
use Rattle.ddr_rounds.specs.Rounds.{IsRefusedBehind, channel_served, channels_served, items_of, made_state, ports_collected, repeated, round, rounds, until_refused}
use Rattle.ddr_rounds.proofs.StepCounts.{made_pops}
use Rattle.ddr_world.specs.declared.event.Outcome.{Outcome}
use Rattle.ddr_world.specs.declared.event.Refusal.{Refusal}
use Rattle.ddr_world.specs.declared.event.Refusal.TheVariants.{QueueFull}
use Rattle.ddr_world.specs.Events.{Event, Submit, Take, Cycle, Deliver, Collect, Release, End}
use Rattle.ddr_world.specs.History.{Opening, Answered, History, begun, after_step, after, run}
use Rattle.ddr_world.specs.Record.{IsRecord}
use Rattle.ddr_world.specs.State.{ChannelSide, State}
use Rattle.ddr_world.specs.Step.{Made, Step, step}
use Rattle.ddr_world.proofs.CorePromise.{core_keeps_promise}
use Rattle.ddr_core_deadline.specs.InCore.{FindsAllTakenIn, IsChannelInTime, TakesAllIn, calls_of}
use Rattle.ddr_core_deadline.specs.InRounds.{AreStretches, Between, IsNoCycle, IsStretch, NoneDone, Rounds, Stretch, TakesAllTo, events_of_stretch, events_of_stretches, made_then, events_repeated, events_until_refused, events_of_channel, events_of_channels, events_of_ports, events_of_round, events_of_rounds}
use Rattle.ddr_core_deadline.proofs.EventLemmas.{core_in_time}
use Rattle.ddr_core_deadline.proofs.NoneLemmas.{NoneIn, answer_none, begun_none, cycle_but, delivered_but, none_counted, none_whole, nothing_left, until_none}

-- behind a record that came to one state these events come to another, and each cycle among them finds all taken
pub record Led (h : History) (later : List Answered) (next : State) : Type 0 where
  pub is_record : IsRecord h later
  pub state : (fold after h later).state ≡ next
  pub takes : TakesAllIn h later

abbrev pub Leads : State → List Answered → State → Type 0
Leads s later next = (h : History) → h.state ≡ s → Led h later next

records_then : (h : History) (xs ys : List Answered) → IsRecord h xs → IsRecord (fold after h xs) ys → IsRecord h (xs ++ ys)
records_then h [] ys first second = second
records_then h (a ∷ xs) ys first second = (first.0, records_then (after h a) xs ys first.1 second)

takes_then : (h : History) (xs ys : List Answered) → TakesAllIn h xs → TakesAllIn (fold after h xs) ys → TakesAllIn h (xs ++ ys)
takes_then h [] ys first second = second
takes_then h (a ∷ xs) ys first second = (first.0, takes_then (after h a) xs ys first.1 second)

leads_none : (s : State) → Leads s [] s
leads_none s h is = record { is_record = tt; state = is; takes = tt }

leads_then : (s mid next : State) (xs ys : List Answered) → Leads s xs mid → Leads mid ys next → Leads s (xs ++ ys) next
leads_then s mid next xs ys first second h is =
    let one = first h is in
    let two = second (fold after h xs) one.state in
    record {
      is_record = records_then h xs ys one.is_record two.is_record;
      state = ap (λ (x : History). x.state) (fold-append after h xs ys) ∙ two.state;
      takes = takes_then h xs ys one.takes two.takes;
    }

pub leads_first : (s next : State) (event : Event) (m : Made) (later : List Answered) → step s event ≡ Ok m → FindsAllTakenIn s event → Leads m.state later next → Leads s (record { event = event; answer = Ok m.outcome } ∷ later) next
leads_first s next event m later made finds rest h is =
    let at : step h.state event ≡ Ok m = ap (λ (t : State). step t event) is ∙ made in
    let behind = rest (after h (record { event = event; answer = Ok m.outcome })) (ap (λ (r : Step). (after_step event h r).state) at) in
    record {
      is_record = ((m.state, at), behind.is_record);
      state = behind.state;
      takes = (subst (λ (t : State). FindsAllTakenIn t event) (sym is) finds, behind.takes);
    }

repeated_leads : (event : Event) → ((t : State) → FindsAllTakenIn t event) → (n : ℕ) (s : State) → Leads s (events_repeated n event s) (repeated n event s)
repeated_leads event finds zero s = leads_none s
repeated_leads event finds (suc n) s = by_step (step s event) refl (repeated_leads event finds n)
  where
    by_step : (r : Step) → step s event ≡ r → ((t : State) → Leads t (events_repeated n event t) (repeated n event t)) → Leads s (made_then (events_repeated n event) event r) (option_map_or (repeated n event) (made_state r) s)
    by_step (Ok m) is later = leads_first s (repeated n event m.state) event m (events_repeated n event m.state) is (finds s) (later m.state)
    by_step (Err cause) is later = leads_none s

pub until_leads : (event : Event) (s : State) → ((t : State) → FindsAllTakenIn t event) → Leads s (events_until_refused event s) (until_refused event s)
until_leads event s finds = repeated_leads event finds (items_of s event) s

-- a state to which some record comes
pub IsReached : Opening → State → Type 0
IsReached o s = (events : List Answered) × ((run o events).state ≡ s)

pub begun_reached : (o : Opening) → IsReached o (begun o).state
unfolding IsReached
begun_reached o = ([], refl)

pub reached_then : (o : Opening) (s next : State) (later : List Answered) → IsReached o s → Leads s later next → IsReached o next
unfolding IsReached
reached_then o s next later r leads = (r.0 ++ later, ap (λ (x : History). x.state) (fold-append after (begun o) r.0 later) ∙ (leads (run o r.0) r.1).state)

reached_by : (o : Opening) (s : State) (event : Event) (m : Made) → IsReached o s → step s event ≡ Ok m → FindsAllTakenIn s event → IsReached o m.state
reached_by o s event m r is finds = reached_then o s m.state (record { event = event; answer = Ok m.outcome } ∷ []) r (leads_first s m.state event m [] is finds (leads_none m.state))

fits : (o : Opening) (s : State) (c : ℕ) → IsReached o s → step s (Deliver c) ≢ Err QueueFull
unfolding IsReached
fits o s c r = subst (λ (t : State). step t (Deliver c) ≢ Err QueueFull) r.1 ((core_keeps_promise o r.0).fits c)

-- what a channel delivers until it is refused is all that is done
delivered_none : (o : Opening) (n : ℕ) (c : ℕ) (s : State) → IsReached o s → items_of s (Deliver c) ≤ n → (side : ChannelSide) → slice_get (repeated n (Deliver c) s).channels c ≡ Some side → side.channel.done ≡ []
delivered_none o zero c s reached few side there = none_counted s c side few there
delivered_none o (suc n) c s reached few side there = by_step (step s (Deliver c)) refl (λ t at fewer found. delivered_none o n c t at fewer side found) there
  where
    by_step : (r : Step) → step s (Deliver c) ≡ r → ((t : State) → IsReached o t → items_of t (Deliver c) ≤ n → slice_get (repeated n (Deliver c) t).channels c ≡ Some side → side.channel.done ≡ [])
        → slice_get (option_map_or (repeated n (Deliver c)) (made_state r) s).channels c ≡ Some side → side.channel.done ≡ []
    by_step (Ok m) is later there = later m.state (reached_by o s (Deliver c) m reached is tt) (omega (arith, few, made_pops s m.state (Deliver c) m.outcome refl is)) there
    by_step (Err cause) is later there = nothing_left s c cause (fits o s c reached) is side there

-- a part of a round
pub record IsPart (s : State) (later : List Answered) (next : State) : Type 0 where
  pub leads : Leads s later next
  pub none : NoneDone next

pub part_then : (s mid next : State) (xs ys : List Answered) → IsPart s xs mid → IsPart mid ys next → IsPart s (xs ++ ys) next
part_then s mid next xs ys first second = record { leads = leads_then s mid next xs ys first.leads second.leads; none = second.none }

some_none : (x : Option ChannelSide) → ((side : ChannelSide) → x ≡ Some side → side.channel.done ≡ []) → IfSome x (λ side. side.channel.done ≡ [])
some_none None none = tt
some_none (Some side) none = none side refl

cycle_part : (o : Opening) (c : ℕ) (s next : State) (r : Step) → IsReached o s → NoneDone s → step s (Cycle c) ≡ r → option_map (until_refused (Deliver c)) (made_state r) ≡ Some next
    → IsPart s (made_then (events_until_refused (Deliver c)) (Cycle c) r) next
cycle_part o c s next (Err cause) reached none is served = absurd (let impossible = served in cc)
cycle_part o c s next (Ok m) reached none is served =
    let finds : FindsAllTakenIn s (Cycle c) = some_none (slice_get s.channels c) (none c) in
    let but : NoneIn (until_refused (Deliver c) m.state).channels =
    none_whole c (until_refused (Deliver c) m.state).channels (delivered_but m.state c (subst (λ (x : Step). IfOk x (λ y. (i : ℕ) (side : ChannelSide) → i ≢ c → slice_get y.state.channels i ≡ Some side → side.channel.done ≡ [])) is (cycle_but s c none)))
    (delivered_none o (items_of m.state (Deliver c)) c m.state (reached_by o s (Cycle c) m reached is finds) (omega arith)) in
    let same : until_refused (Deliver c) m.state ≡ next = cc in
    subst (λ (t : State). IsPart s (record { event = Cycle c; answer = Ok m.outcome } ∷ events_until_refused (Deliver c) m.state) t) same
    (record { leads = leads_first s (until_refused (Deliver c) m.state) (Cycle c) m (events_until_refused (Deliver c) m.state) is finds (until_leads (Deliver c) m.state (λ t. tt)); none = but })

channel_part : (o : Opening) (c : ℕ) (s next : State) → IsReached o s → NoneDone s → channel_served c s ≡ Some next → IsPart s (events_of_channel c s) next
channel_part o c s next reached none served =
    let popped = until_refused (Take c) s in
    let takes = until_leads (Take c) s (λ t. tt) in
    let left = until_none (Take c) s tt none in
    part_then s popped next (events_until_refused (Take c) s) (made_then (events_until_refused (Deliver c)) (Cycle c) (step popped (Cycle c))) (record { leads = takes; none = left })
    (cycle_part o c popped next (step popped (Cycle c)) (reached_then o s popped (events_until_refused (Take c) s) reached takes) left refl served)

pub none_part : (s : State) → NoneDone s → IsPart s [] s
none_part s none = record { leads = leads_none s; none = none }

-- a part behind another, where both are made
behind : (o : Opening) (s next : State) (xs : List Answered) (events : State → List Answered) (part : State → Option State) (x : Option State) → IsReached o s → option_and_then part x ≡ Some next
    → ((mid : State) → x ≡ Some mid → IsPart s xs mid) → ((mid : State) → IsReached o mid → NoneDone mid → part mid ≡ Some next → IsPart mid (events mid) next) → IsPart s (xs ++ option_map_or events x []) next
behind o s next xs events part None reached served first second = absurd (let impossible = served in cc)
behind o s next xs events part (Some mid) reached served first second =
    let one = first mid refl in
    part_then s mid next xs (events mid) one (second mid (reached_then o s mid xs reached one.leads) one.none served)

pub channels_part : (o : Opening) (n : ℕ) (s next : State) → IsReached o s → NoneDone s → channels_served n s ≡ Some next → IsPart s (events_of_channels n s) next
channels_part o zero s next reached none served =
    let same : s ≡ next = cc in
    subst (IsPart s []) same (none_part s none)
channels_part o (suc c) s next reached none served =
    behind o s next (events_of_channels c s) (events_of_channel c) (channel_served c) (channels_served c s) reached served
    (λ mid is. channels_part o c s mid reached none is) (λ mid at left is. channel_part o c mid next at left is)

ports_part : (n : ℕ) (s : State) → NoneDone s → IsPart s (events_of_ports n s) (ports_collected n s)
ports_part zero s none = none_part s none
ports_part (suc p) s none =
    let before = ports_part p s none in
    let mid = ports_collected p s in
    part_then s mid (until_refused (Collect p) mid) (events_of_ports p s) (events_until_refused (Collect p) mid) before
    (record { leads = until_leads (Collect p) mid (λ t. tt); none = until_none (Collect p) mid tt before.none })

round_part : (o : Opening) (config : Config) (s next : State) → IsReached o s → NoneDone s → round config s ≡ Some next → IsPart s (events_of_round config s) next
round_part o config s next reached none made = by_served (channels_served config.geometry.channels s) refl made
  where
    by_served : (x : Option State) → channels_served config.geometry.channels s ≡ x → option_map (ports_collected config.limits.ports) x ≡ Some next
        → IsPart s (events_of_channels config.geometry.channels s ++ option_map_or (events_of_ports config.limits.ports) x []) next
    by_served None is made = absurd (let impossible = made in cc)
    by_served (Some mid) is made =
        let one = channels_part o config.geometry.channels s mid reached none is in
        let same : ports_collected config.limits.ports mid ≡ next = cc in
        part_then s mid next (events_of_channels config.geometry.channels s) (events_of_ports config.limits.ports mid) one
        (subst (IsPart mid (events_of_ports config.limits.ports mid)) same (ports_part config.limits.ports mid one.none))

rounds_part : (o : Opening) (config : Config) (n : ℕ) (s next : State) → IsReached o s → NoneDone s → rounds config n s ≡ Some next → IsPart s (events_of_rounds config n s) next
rounds_part o config zero s next reached none made =
    let same : s ≡ next = cc in
    subst (IsPart s []) same (none_part s none)
rounds_part o config (suc n) s next reached none made =
    behind o s next (events_of_round config s) (events_of_rounds config n) (rounds config n) (round config s) reached made
    (λ mid is. round_part o config s mid reached none is) (λ mid at left is. rounds_part o config n mid next at left is)

-- what a part says behind a record
taken_to : (h : History) (later : List Answered) (next : State) → IsPart h.state later next → TakesAllTo h later next
taken_to h later next part =
    let led = part.leads h refl in
    record { is_record = led.is_record; state = led.state; takes = led.takes; none = part.none }

pub rounds_all : (o : Opening) (earlier : List Answered) (count : ℕ) (next : State) → NoneDone (run o earlier).state → rounds o.config count (run o earlier).state ≡ Some next
    → TakesAllTo (run o earlier) (events_of_rounds o.config count (run o earlier).state) next
unfolding IsReached
rounds_all o earlier count next none made = taken_to (run o earlier) (events_of_rounds o.config count (run o earlier).state) next (rounds_part o o.config count (run o earlier).state next (earlier, refl) none made)

-- of the round that is refused some channels have their parts, and one took what it could
pub refused_all : (o : Opening) (earlier : List Answered) (cause : Refusal) (made : ℕ) (next : State) → NoneDone (run o earlier).state → IsRefusedBehind cause o.config made (run o earlier).state next
    → (later : List Answered) × TakesAllTo (run o earlier) (events_of_rounds o.config made (run o earlier).state ++ later) next
unfolding IsReached
refused_all o earlier cause made next none is =
    let s = (run o earlier).state in
    let all = rounds_part o o.config made s is.before (earlier, refl) none is.all in
    let at = reached_then o s is.before (events_of_rounds o.config made s) (earlier, refl) all.leads in
    let channel = is.next.channel in
    let mid = is.next.before in
    let channels = channels_part o channel is.before mid at all.none is.next.served in
    let popped = until_refused (Take channel) mid in
    let takes : IsPart mid (events_until_refused (Take channel) mid) popped = record { leads = until_leads (Take channel) mid (λ t. tt); none = until_none (Take channel) mid tt channels.none } in
    let later = events_of_channels channel is.before ++ events_until_refused (Take channel) mid in
    let part = part_then s is.before popped (events_of_rounds o.config made s) later all (part_then is.before mid popped (events_of_channels channel is.before) (events_until_refused (Take channel) mid) channels takes) in
    (later, subst (TakesAllTo (run o earlier) (events_of_rounds o.config made s ++ later)) (sym is.next.cycle.state) (taken_to (run o earlier) (events_of_rounds o.config made s ++ later) popped part))

-- of any stretches, one behind another

made_all : (o : Opening) (earlier : List Answered) (count : ℕ) (x : Option State) → NoneDone (run o earlier).state → rounds o.config count (run o earlier).state ≡ x → IsSome x
    → TakesAllIn (run o earlier) (events_of_rounds o.config count (run o earlier).state) × NoneDone (run o (earlier ++ events_of_rounds o.config count (run o earlier).state)).state
made_all o earlier count None none is some = absurd (let impossible = some in cc)
made_all o earlier count (Some next) none is some =
    let later = events_of_rounds o.config count (run o earlier).state in
    let all = rounds_all o earlier count next none is in
    let state : (run o (earlier ++ later)).state ≡ next = ap (λ (h : History). h.state) (fold-append after (begun o) earlier later) ∙ all.state in
    (all.takes, subst NoneDone (sym state) all.none)

pub no_cycle_finds : (s : State) (event : Event) → IsNoCycle event → FindsAllTakenIn s event
no_cycle_finds s (Submit p asked) other = tt
no_cycle_finds s (Take c) other = tt
no_cycle_finds s (Cycle c) other = absurd other
no_cycle_finds s (Deliver c) other = tt
no_cycle_finds s (Collect p) other = tt
no_cycle_finds s (Release p) other = tt
no_cycle_finds s (End p c) other = tt

pub when_made : (answer : Result Outcome Refusal) (P : Type 0) → P → OnOk answer P
when_made (Ok o) P p = p
when_made (Err cause) P p = tt

stretch_all : (o : Opening) (earlier : List Answered) (x : Stretch) → NoneDone (run o earlier).state → IsStretch o.config (run o earlier).state x
    → TakesAllIn (run o earlier) (events_of_stretch o.config (run o earlier).state x) × NoneDone (run o (earlier ++ events_of_stretch o.config (run o earlier).state x)).state
stretch_all o earlier (Rounds count) none may = made_all o earlier count (rounds o.config count (run o earlier).state) none refl may
stretch_all o earlier (Between a) none may =
    let h = run o earlier in (
      (when_made a.answer (FindsAllTakenIn h.state a.event) (no_cycle_finds h.state a.event may), tt),
      subst (λ (x : History). NoneDone x.state) (sym (fold-append after (begun o) earlier (a ∷ []))) (answer_none h a.event a.answer may none),
    )

stretches_all : (o : Opening) (earlier : List Answered) (later : List Stretch) → TakesAllIn (begun o) earlier → NoneDone (run o earlier).state → AreStretches o.config (run o earlier) later
    → TakesAllIn (begun o) (earlier ++ events_of_stretches o.config (run o earlier) later)
stretches_all o earlier [] takes none are = subst (TakesAllIn (begun o)) (sym (append-nil earlier)) takes
stretches_all o earlier (x ∷ later) takes none are =
    let first = events_of_stretch o.config (run o earlier).state x in
    let one = stretch_all o earlier x none are.0 in
    let next : run o (earlier ++ first) ≡ fold after (run o earlier) first = fold-append after (begun o) earlier first in
    let rest = stretches_all o (earlier ++ first) later (takes_then (begun o) earlier first takes one.0) one.1 (subst (λ (h : History). AreStretches o.config h later) (sym next) are.1) in
    subst (TakesAllIn (begun o)) (append_assoc earlier first (events_of_stretches o.config (run o (earlier ++ first)) later) ∙ ap (λ (h : History). earlier ++ (first ++ events_of_stretches o.config h later)) next) rest

pub rounds_in_time : (o : Opening) (stretches : List Stretch) → AreStretches o.config (begun o) stretches → leaves_room o.config ≡ true → (c : ℕ) (side : ChannelSide)
    → slice_get (run o (events_of_stretches o.config (begun o) stretches)).state.channels c ≡ Some side
    → IsChannelInTime o (run o (events_of_stretches o.config (begun o) stretches)) c (calls_of c (begun o) (events_of_stretches o.config (begun o) stretches)) side
rounds_in_time o stretches are leaves c side there =
    core_in_time o (events_of_stretches o.config (begun o) stretches) (stretches_all o [] stretches tt (begun_none o) are) leaves c side there
