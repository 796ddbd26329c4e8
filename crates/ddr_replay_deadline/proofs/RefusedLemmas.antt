-- Each cycle of a replay finds that its channel takes no more.
use Rattle.std.proofs.Common.{◌≡◌, ◌≤◌, ◌+◌, ◌-◌, ℕ, zero, suc, Bool, true, false, cond, List, [], ◌∷◌, ◌++◌, Option, Some, None, Ok, Err, OnOk, refl, sym, ap, subst, arith}
use Rattle.std.specs.Prelude.{nat_lt}
use Rattle.std.specs.List.{fold}
use Rattle.std.specs.Option.{option_map, option_map_or, option_and_then}
use Rattle.std.specs.Result.{IsErr, is_err}
use Rattle.ddr_timing.specs.declared.config.Config.{Config}
use Rattle.ddr_reorder.specs.declared.reply.Service.{Service}
use Rattle.ddr_rounds.specs.Rounds.{channel_served, channels_served, items_of, made_state, repeated, until_refused}
use Rattle.ddr_rounds.specs.Rounds as rounds
use Rattle.ddr_rounds.proofs.StepCounts.{made_pops}
use Rattle.ddr_world.specs.Events.{Event, Submit, Take, Cycle, Deliver, Collect, Release, End}
use Rattle.ddr_world.specs.History.{Opening, Answered, History, after}
use Rattle.ddr_world.specs.Served.{front_service}
use Rattle.ddr_world.specs.State.{State}
use Rattle.ddr_world.specs.Step.{Step, step}
use Rattle.ddr_core_deadline.specs.InRounds.{IsNoCycle, NoneDone, events_of_channel, events_of_channels, events_repeated, events_until_refused, made_then}
use Rattle.ddr_core_deadline.proofs.RoundLemmas.{IsReached, Leads, channels_part, reached_then, until_leads, when_made}
use Rattle.ddr_stream.specs.declared.ask.Ask.{Ask}
use Rattle.ddr_stream.specs.Asks.{asked_by}
use Rattle.ddr_stream.specs.Stream.{queue_at}
use Rattle.ddr_replay.specs.Runs.{Run, all_submitted, channels_counted, first_port, ports_served, ports_submitted, round_closed, round_made, turn, turns}
use Rattle.ddr_replay_deadline.specs.InReplay.{events_of_all_submitted, events_of_port_served, events_of_ports_served, events_of_ports_submitted, events_of_round_made, events_of_turn, events_of_turns, events_released, events_submitted}
use Rattle.ddr_replay_deadline.proofs.PartLemmas.{all_submitted_part}
use Rattle.ddr_replay_deadline.proofs.TurnLemmas.{turn_part}

-- a cycle finds that its channel takes nothing more
abbrev pub FindsRefusedIn : State → Event → Type 0
FindsRefusedIn s (Cycle c) = IsErr (step s (Take c))
FindsRefusedIn s _ = Unit {0}

-- and so does each cycle that is made among the events
abbrev pub RefusesIn : History → List Answered → Type 0
RefusesIn h [] = Unit {0}
RefusesIn h (a ∷ later) = OnOk a.answer (FindsRefusedIn h.state a.event) × RefusesIn (after h a) later

-- behind a record that came to this state
abbrev pub Refuses : State → List Answered → Type 0
Refuses s later = (h : History) → h.state ≡ s → RefusesIn h later

refuses_in : (h : History) (xs ys : List Answered) → RefusesIn h xs → RefusesIn (fold after h xs) ys → RefusesIn h (xs ++ ys)
refuses_in h [] ys first second = second
refuses_in h (a ∷ xs) ys first second = (first.0, refuses_in (after h a) xs ys first.1 second)

refuses_then : (s mid : State) (xs ys : List Answered) → Leads s xs mid → Refuses s xs → Refuses mid ys → Refuses s (xs ++ ys)
refuses_then s mid xs ys leads first second h is = refuses_in h xs ys (first h is) (second (fold after h xs) (leads h is).state)

-- events of which none is a cycle

abbrev AreNoCycles : List Answered → Type 0
AreNoCycles [] = Unit {0}
AreNoCycles (a ∷ later) = IsNoCycle a.event × AreNoCycles later

no_cycle_refused : (s : State) (event : Event) → IsNoCycle event → FindsRefusedIn s event
no_cycle_refused s (Submit p asked) other = tt
no_cycle_refused s (Take c) other = tt
no_cycle_refused s (Cycle c) other = absurd other
no_cycle_refused s (Deliver c) other = tt
no_cycle_refused s (Collect p) other = tt
no_cycle_refused s (Release p) other = tt
no_cycle_refused s (End p c) other = tt

none_refuse : (h : History) (xs : List Answered) → AreNoCycles xs → RefusesIn h xs
none_refuse h [] none = tt
none_refuse h (a ∷ later) none = (when_made a.answer (FindsRefusedIn h.state a.event) (no_cycle_refused h.state a.event none.0), none_refuse (after h a) later none.1)

none_then : (xs ys : List Answered) → AreNoCycles xs → AreNoCycles ys → AreNoCycles (xs ++ ys)
none_then [] ys first second = second
none_then (a ∷ xs) ys first second = (first.0, none_then xs ys first.1 second)

made_none : (later : State → List Answered) (event : Event) (r : Step) → IsNoCycle event → ((next : State) → AreNoCycles (later next)) → AreNoCycles (made_then later event r)
made_none later event (Ok m) other rest = (other, rest m.state)
made_none later event (Err cause) other rest = tt

repeated_none : (n : ℕ) (event : Event) (s : State) → IsNoCycle event → AreNoCycles (events_repeated n event s)
repeated_none zero event s other = tt
repeated_none (suc n) event s other = made_none (events_repeated n event) event (step s event) other (λ next. repeated_none n event next other)

until_none : (event : Event) (s : State) → IsNoCycle event → AreNoCycles (events_until_refused event s)
until_none event s other = repeated_none (items_of s event) event s other

time_none : (b : Bool) (xs : List Answered) → AreNoCycles xs → AreNoCycles (cond b [] xs)
time_none true xs none = tt
time_none false xs none = none

submitted_none : (p round : ℕ) (asks : List Ask) (s : State) → AreNoCycles (events_submitted p round asks s)
submitted_none p round [] s = tt
submitted_none p round (ask ∷ more) s =
    time_none (nat_lt round ask.at) (made_then (events_submitted p round more) (Submit p (asked_by ask)) (step s (Submit p (asked_by ask))))
    (made_none (events_submitted p round more) (Submit p (asked_by ask)) (step s (Submit p (asked_by ask))) tt (λ next. submitted_none p round more next))

ports_submitted_none : (first n : ℕ) (run : Run) → AreNoCycles (events_of_ports_submitted first n run)
ports_submitted_none first zero run = tt
ports_submitted_none first (suc n) run =
    let p = first + n in
    let before = ports_submitted first n run in
    none_then (events_of_ports_submitted first n run) (events_submitted p before.round (queue_at before.queues p) before.state) (ports_submitted_none first n run) (submitted_none p before.round (queue_at before.queues p) before.state)

all_submitted_none : (config : Config) (run : Run) → AreNoCycles (events_of_all_submitted config run)
all_submitted_none config run =
    let first = first_port run.asking config.limits.ports in
    let later = config.limits.ports - first in
    let mid = ports_submitted first later run in
    none_then (events_of_ports_submitted first later run) (events_of_ports_submitted 0 first mid) (ports_submitted_none first later run) (ports_submitted_none 0 first mid)

released_none : (n p : ℕ) (s : State) → AreNoCycles (events_released n p s)
released_none zero p s = tt
released_none (suc n) p s = by_front (front_service s p) (released_none n p (rounds.after s (Release p)))
  where
    by_front : (x : Option Service) → AreNoCycles (events_released n p (rounds.after s (Release p)))
        → AreNoCycles (option_map_or (λ v. made_then (λ next. []) (Release p) (step s (Release p)) ++ events_released n p (rounds.after s (Release p))) x [])
    by_front None later = tt
    by_front (Some v) later = none_then (made_then (λ next. []) (Release p) (step s (Release p))) (events_released n p (rounds.after s (Release p))) (made_none (λ next. []) (Release p) (step s (Release p)) tt (λ next. tt)) later

port_served_none : (p : ℕ) (s : State) → AreNoCycles (events_of_port_served p s)
port_served_none p s =
    let collected = until_refused (Collect p) s in
    none_then (events_until_refused (Collect p) s) (events_released (items_of collected (Release p)) p collected) (until_none (Collect p) s tt) (released_none (items_of collected (Release p)) p collected)

ports_served_none : (n : ℕ) (run : Run) → AreNoCycles (events_of_ports_served n run)
ports_served_none zero run = tt
ports_served_none (suc p) run = none_then (events_of_ports_served p run) (events_of_port_served p (ports_served p run).state) (ports_served_none p run) (port_served_none p (ports_served p run).state)

-- a channel's part of a round

-- what is left is refused
none_left : (c : ℕ) (s : State) (r : Step) → step s (Take c) ≡ r → items_of s (Take c) ≤ 0 → IsErr r
none_left c s (Ok m) is few = absurd (omega (arith, few, made_pops s m.state (Take c) m.outcome refl is))
none_left c s (Err cause) is few = refl

repeated_refused : (n c : ℕ) (s : State) → items_of s (Take c) ≤ n → IsErr (step (repeated n (Take c) s) (Take c))
repeated_refused zero c s few = none_left c s (step s (Take c)) refl few
repeated_refused (suc n) c s few = by_step (step s (Take c)) refl (repeated_refused n c)
  where
    by_step : (r : Step) → step s (Take c) ≡ r → ((t : State) → items_of t (Take c) ≤ n → IsErr (step (repeated n (Take c) t) (Take c))) → IsErr (step (option_map_or (repeated n (Take c)) (made_state r) s) (Take c))
    by_step (Ok m) is later = later m.state (omega (arith, few, made_pops s m.state (Take c) m.outcome refl is))
    by_step (Err cause) is later = ap (λ (r : Step). is_err r) is

until_taken : (c : ℕ) (s : State) → IsErr (step (until_refused (Take c) s) (Take c))
until_taken c s = repeated_refused (items_of s (Take c)) c s (omega arith)

cycle_refuses : (c : ℕ) (s : State) (r : Step) → IsErr (step s (Take c)) → Refuses s (made_then (events_until_refused (Deliver c)) (Cycle c) r)
cycle_refuses c s (Err cause) refused h is = tt
cycle_refuses c s (Ok m) refused h is = (subst (λ (t : State). IsErr (step t (Take c))) (sym is) refused, none_refuse (after h (record { event = Cycle c; answer = Ok m.outcome })) (events_until_refused (Deliver c) m.state) (until_none (Deliver c) m.state tt))

channel_refuses : (c : ℕ) (s : State) → Refuses s (events_of_channel c s)
channel_refuses c s =
    let popped = until_refused (Take c) s in
    refuses_then s popped (events_until_refused (Take c) s) (made_then (events_until_refused (Deliver c)) (Cycle c) (step popped (Cycle c))) (until_leads (Take c) s (λ t. tt))
    (λ h is. none_refuse h (events_until_refused (Take c) s) (until_none (Take c) s tt)) (cycle_refuses c popped (step popped (Cycle c)) (until_taken c s))

channels_refuse : (o : Opening) (n : ℕ) (s next : State) → IsReached o s → NoneDone s → channels_served n s ≡ Some next → Refuses s (events_of_channels n s)
channels_refuse o zero s next reached none served = λ h is. tt
channels_refuse o (suc c) s next reached none served = by_served (channels_served c s) refl served (λ mid is. channels_refuse o c s mid reached none is)
  where
    by_served : (x : Option State) → channels_served c s ≡ x → option_and_then (channel_served c) x ≡ Some next → ((mid : State) → channels_served c s ≡ Some mid → Refuses s (events_of_channels c s))
        → Refuses s (events_of_channels c s ++ option_map_or (events_of_channel c) x [])
    by_served None is made first = absurd (let impossible = made in cc)
    by_served (Some mid) is made first = refuses_then s mid (events_of_channels c s) (events_of_channel c mid) (channels_part o c s mid reached none is).leads (first mid is) (channel_refuses c mid)

-- a turn

round_made_refuses : (o : Opening) (config : Config) (run next : Run) → IsReached o run.state → NoneDone run.state → round_made config run ≡ Some next → Refuses run.state (events_of_round_made config run)
round_made_refuses o config run next reached none made = by_served (channels_served config.geometry.channels run.state) refl made
  where
    by_served : (x : Option State) → channels_served config.geometry.channels run.state ≡ x → option_map (round_closed config run) x ≡ Some next
        → Refuses run.state (events_of_channels config.geometry.channels run.state ++ option_map_or (λ s. events_of_ports_served config.limits.ports (channels_counted config run s)) x [])
    by_served None is made = absurd (let impossible = made in cc)
    by_served (Some s) is made =
        let served = events_of_ports_served config.limits.ports (channels_counted config run s) in
        refuses_then run.state s (events_of_channels config.geometry.channels run.state) served (channels_part o config.geometry.channels run.state s reached none is).leads
        (channels_refuse o config.geometry.channels run.state s reached none is) (λ h at. none_refuse h served (ports_served_none config.limits.ports (channels_counted config run s)))

turn_refuses : (o : Opening) (config : Config) (run next : Run) → IsReached o run.state → NoneDone run.state → turn config run ≡ Some next → Refuses run.state (events_of_turn config run)
turn_refuses o config run next reached none made =
    let before = all_submitted config run in
    let events = events_of_all_submitted config run in
    let one = all_submitted_part config run none in
    refuses_then run.state before.state events (events_of_round_made config before) one.leads (λ h is. none_refuse h events (all_submitted_none config run))
    (round_made_refuses o config before next (reached_then o run.state before.state events reached one.leads) one.none made)

-- so many of them

pub turns_refuse : (o : Opening) (config : Config) (n : ℕ) (run last : Run) → IsReached o run.state → NoneDone run.state → turns config n run ≡ Some last → Refuses run.state (events_of_turns config n run)
turns_refuse o config zero run last reached none made = λ h is. tt
turns_refuse o config (suc n) run last reached none made = by_turn (turn config run) refl made (λ next at left is. turns_refuse o config n next last at left is)
  where
    by_turn : (x : Option Run) → turn config run ≡ x → option_and_then (turns config n) x ≡ Some last
        → ((next : Run) → IsReached o next.state → NoneDone next.state → turns config n next ≡ Some last → Refuses next.state (events_of_turns config n next)) → Refuses run.state (events_of_turn config run ++ option_map_or (events_of_turns config n) x [])
    by_turn None is made rest = absurd (let impossible = made in cc)
    by_turn (Some next) is made rest =
        let one = turn_part o config run next reached none is in
        refuses_then run.state next.state (events_of_turn config run) (events_of_turns config n next) one.leads (turn_refuses o config run next reached none is)
        (rest next (reached_then o run.state next.state (events_of_turn config run) reached one.leads) one.none made)
