-- The turns of a replay, with what its ledger tells.
use Rattle.std.proofs.Common.{◌≡◌, ◌≤◌, ◌<◌, ◌+◌, ◌-◌, ℕ, zero, suc, Bool, true, false, cond, List, [], ◌∷◌, ◌++◌, Option, Some, None, Ok, Err, append-nil, append_assoc, length, refl, sym, ap, subst, ◌∙◌, arith}
use Rattle.std.specs.Prelude.{nat_lt}
use Rattle.std.specs.Option.{option_map, option_map_or, option_and_then}
use Rattle.std.proofs.lemmas.List.Sums.{fold-append}
use Rattle.ddr_timing.specs.declared.config.Config.{Config}
use Rattle.ddr_reorder.specs.declared.reply.Service.{Service}
use Rattle.ddr_rounds.specs.Rounds.{channels_served, items_of, until_refused}
use Rattle.ddr_rounds.specs.Telling.{channels_told}
use Rattle.ddr_rounds.specs.Rounds as rounds
use Rattle.ddr_world.specs.declared.event.Refusal.{Refusal}
use Rattle.ddr_world.specs.Events.{Event, Submit, Take, Cycle, Deliver, Collect, Release}
use Rattle.ddr_world.specs.History.{Answered, History}
use Rattle.ddr_world.specs.History as history
use Rattle.ddr_world.specs.Served.{front_service}
use Rattle.ddr_world.specs.State.{ChannelSide, State, opened_channel}
use Rattle.ddr_world.specs.Step.{Step, step}
use Rattle.ddr_world.proofs.CoreRuns.{run_keeps}
use Rattle.ddr_core_deadline.specs.InRounds.{NoneDone, events_of_channel, events_of_channels, events_repeated, events_until_refused, made_then}
use Rattle.ddr_core_deadline.proofs.NoneLemmas.{begun_none}
use Rattle.ddr_core_deadline.proofs.EventLemmas.{at_replicate}
use Rattle.ddr_core_deadline.proofs.RoundLemmas.{IsReached, begun_reached, channels_part, reached_then, until_leads}
use Rattle.ddr_stream.specs.declared.ask.Ask.{Ask}
use Rattle.ddr_stream.specs.Asks.{asked_by}
use Rattle.ddr_stream.specs.Stream.{Queues, queue_at}
use Rattle.ddr_replay.specs.declared.order.Order.{Order}
use Rattle.ddr_ledger.specs.declared.released.ReleasedRequest.{ReleasedRequest}
use Rattle.ddr_ledger.specs.declared.times.Accepted.{Accepted}
use Rattle.ddr_ledger.specs.declared.times.Times.{Times}
use Rattle.ddr_replay.specs.Books.{all_found}
use Rattle.ddr_ledger.specs.Ledgers.{Ledger, noted, with_accepted, with_wait}
use Rattle.ddr_replay.proofs.BooksLemmas.{found_lists}
use Rattle.ddr_replay.specs.Runs.{Run, Submitted, accepted_in, after_answer, all_submitted, begun, channels_counted, first_port, port_served, ports_served, ports_submitted, released, released_by, round_closed, round_made, submitted, turn, turns}
use Rattle.ddr_replay.proofs.RoundLemmas.{first_within}
use Rattle.ddr_replay_deadline.specs.InReplay.{events_of_all_submitted, events_of_port_served, events_of_ports_served, events_of_ports_submitted, events_of_round_made, events_of_turn, events_of_turns, events_released, events_submitted, replay_opening}
use Rattle.ddr_replay_deadline.proofs.GrowthLemmas.{AreInner, IsInner}
use Rattle.ddr_replay_deadline.proofs.LedgerLemmas.{acted_lists, ledger_begun}
use Rattle.ddr_replay_deadline.proofs.NowLemmas.{channels_now, until_clocks}
use Rattle.ddr_replay_deadline.proofs.PartLemmas.{all_submitted_part}
use Rattle.ddr_replay_deadline.proofs.TellLemmas.{IsTold, IsToldBy, inner_told, release_told, submit_told}
use Rattle.ddr_replay_deadline.proofs.TurnLemmas.{turn_part}

-- events that neither submit nor release

inner_then : (xs ys : List Answered) → AreInner xs → AreInner ys → AreInner (xs ++ ys)
inner_then [] ys first second = second
inner_then (a ∷ xs) ys first second = (first.0, inner_then xs ys first.1 second)

made_inner : (later : State → List Answered) (event : Event) (r : Step) → IsInner event → ((next : State) → AreInner (later next)) → AreInner (made_then later event r)
made_inner later event (Ok m) inner rest = (inner, rest m.state)
made_inner later event (Err cause) inner rest = tt

repeated_inner : (n : ℕ) (event : Event) (s : State) → IsInner event → AreInner (events_repeated n event s)
repeated_inner zero event s inner = tt
repeated_inner (suc n) event s inner = made_inner (events_repeated n event) event (step s event) inner (λ next. repeated_inner n event next inner)

until_inner : (event : Event) (s : State) → IsInner event → AreInner (events_until_refused event s)
until_inner event s inner = repeated_inner (items_of s event) event s inner

channel_inner : (c : ℕ) (s : State) → AreInner (events_of_channel c s)
channel_inner c s =
    inner_then (events_until_refused (Take c) s) (made_then (events_until_refused (Deliver c)) (Cycle c) (step (until_refused (Take c) s) (Cycle c))) (until_inner (Take c) s tt)
    (made_inner (events_until_refused (Deliver c)) (Cycle c) (step (until_refused (Take c) s) (Cycle c)) tt (λ next. until_inner (Deliver c) next tt))

channels_inner : (n : ℕ) (s : State) → AreInner (events_of_channels n s)
channels_inner zero s = tt
channels_inner (suc c) s = inner_then (events_of_channels c s) (option_map_or (events_of_channel c) (channels_served c s) []) (channels_inner c s) (by_served (channels_served c s))
  where
    by_served : (x : Option State) → AreInner (option_map_or (events_of_channel c) x [])
    by_served None = tt
    by_served (Some mid) = channel_inner c mid

-- no event more, and some behind others

none_told : (config : Config) (clock : ℕ) (events : List Answered) (s : State) (ledger : Ledger) → IsToldBy config clock events s ledger → IsToldBy config clock (events ++ []) s ledger
none_told config clock events s ledger k = subst (λ (es : List Answered). IsToldBy config clock es s ledger) (sym (append-nil events)) k

behind_told : (config : Config) (clock : ℕ) (events xs ys : List Answered) (s : State) (ledger : Ledger) → IsToldBy config clock ((events ++ xs) ++ ys) s ledger → IsToldBy config clock (events ++ (xs ++ ys)) s ledger
behind_told config clock events xs ys s ledger k = subst (λ (es : List Answered). IsToldBy config clock es s ledger) (append_assoc events xs ys) k

-- what a port submits

submitted_told : (config : Config) (p : ℕ) → p < config.limits.ports → (clock : ℕ) (asks : List Ask) (events : List Answered) (s : State) (ledger : Ledger) → IsToldBy config clock events s ledger
    → IsToldBy config clock (events ++ events_submitted p clock asks s) (submitted p clock asks s ledger).state (submitted p clock asks s ledger).ledger
submitted_told config p inside clock [] events s ledger k = none_told config clock events s ledger k
submitted_told config p inside clock (ask ∷ more) events s ledger k = by_time (nat_lt clock ask.at) (by_step (step s (Submit p (asked_by ask))) refl (submitted_told config p inside clock more))
  where
    early : Submitted
    early = record { state = s; ledger = ledger; rest = ask ∷ more }

    accepted : Ledger
    accepted = with_accepted p (accepted_in clock ask) ledger

    on : State → Submitted
    on next = submitted p clock more next accepted

    wait : Refusal → Submitted
    wait cause = record { state = s; ledger = with_wait p cause ledger; rest = ask ∷ more }

    by_step : (r : Step) → step s (Submit p (asked_by ask)) ≡ r
        → ((es : List Answered) (t : State) (l : Ledger) → IsToldBy config clock es t l → IsToldBy config clock (es ++ events_submitted p clock more t) (submitted p clock more t l).state (submitted p clock more t l).ledger)
        → IsToldBy config clock (events ++ made_then (events_submitted p clock more) (Submit p (asked_by ask)) r) (after_answer on wait r).state (after_answer on wait r).ledger
    by_step (Ok m) is later =
        behind_told config clock events (record { event = Submit p (asked_by ask); answer = Ok m.outcome } ∷ []) (events_submitted p clock more m.state) (on m.state).state (on m.state).ledger
        (later (events ++ record { event = Submit p (asked_by ask); answer = Ok m.outcome } ∷ []) m.state accepted (submit_told config clock events s ledger p ask m inside k is))
    by_step (Err cause) is later = none_told config clock events s (with_wait p cause ledger) k

    by_time : (b : Bool) → IsToldBy config clock (events ++ made_then (events_submitted p clock more) (Submit p (asked_by ask)) (step s (Submit p (asked_by ask)))) (after_answer on wait (step s (Submit p (asked_by ask)))).state (after_answer on wait (step s (Submit p (asked_by ask)))).ledger
        → IsToldBy config clock (events ++ cond b [] (made_then (events_submitted p clock more) (Submit p (asked_by ask)) (step s (Submit p (asked_by ask))))) (cond b early (after_answer on wait (step s (Submit p (asked_by ask))))).state
        (cond b early (after_answer on wait (step s (Submit p (asked_by ask))))).ledger
    by_time true late = none_told config clock events s ledger k
    by_time false late = late

-- of so many ports from one on

ports_submitted_round : (first n : ℕ) (run : Run) → (ports_submitted first n run).round ≡ run.round
ports_submitted_round first zero run = refl
ports_submitted_round first (suc n) run = ports_submitted_round first n run

ports_submitted_told : (config : Config) (first n : ℕ) (clock : ℕ) (events : List Answered) (run : Run) → first + n ≤ config.limits.ports → run.round ≡ clock → IsToldBy config clock events run.state run.ledger
    → IsToldBy config clock (events ++ events_of_ports_submitted first n run) (ports_submitted first n run).state (ports_submitted first n run).ledger
ports_submitted_told config first zero clock events run few round k = none_told config clock events run.state run.ledger k
ports_submitted_told config first (suc n) clock events run few round k =
    let p = first + n in
    let before = ports_submitted first n run in
    let so_far = events_of_ports_submitted first n run in
    let now : before.round ≡ clock = ports_submitted_round first n run ∙ round in
    let one = ports_submitted_told config first n clock events run (omega (arith, few)) round k in
    let next = submitted p before.round (queue_at before.queues p) before.state before.ledger in
    let more = events_submitted p before.round (queue_at before.queues p) before.state in
    behind_told config clock events so_far more next.state next.ledger
    (subst (λ m. IsToldBy config m ((events ++ so_far) ++ more) next.state next.ledger) now
    (submitted_told config p (omega (arith, few)) before.round (queue_at before.queues p) (events ++ so_far) before.state before.ledger
    (subst (λ m. IsToldBy config m (events ++ so_far) before.state before.ledger) (sym now) one)))

-- of all of them

all_submitted_round : (config : Config) (run : Run) → (all_submitted config run).round ≡ run.round
all_submitted_round config run =
    let first = first_port run.asking config.limits.ports in
    let later = config.limits.ports - first in
    ports_submitted_round 0 first (ports_submitted first later run) ∙ ports_submitted_round first later run

all_submitted_told : (config : Config) (clock : ℕ) (events : List Answered) (run : Run) → run.round ≡ clock → IsToldBy config clock events run.state run.ledger
    → IsToldBy config clock (events ++ events_of_all_submitted config run) (all_submitted config run).state (all_submitted config run).ledger
all_submitted_told config clock events run round k =
    let first = first_port run.asking config.limits.ports in
    let few = first_within run.asking config.limits.ports in
    let later = config.limits.ports - first in
    let mid = ports_submitted first later run in
    let last = ports_submitted 0 first mid in
    let one = ports_submitted_told config first later clock events run (omega (arith, few)) round k in
    behind_told config clock events (events_of_ports_submitted first later run) (events_of_ports_submitted 0 first mid) last.state last.ledger
    (ports_submitted_told config 0 first clock (events ++ events_of_ports_submitted first later run) mid (omega (arith, few)) (ports_submitted_round first later run ∙ round) one)

-- what a port releases

released_round : (n p : ℕ) (run : Run) → (released n p run).round ≡ run.round
released_round zero p run = refl
released_round (suc n) p run = by_front (front_service run.state p) (λ v. released_round n p (released_by p run v))
  where
    by_front : (x : Option Service) → ((v : Service) → (released n p (released_by p run v)).round ≡ run.round) → (option_map_or (λ v. released n p (released_by p run v)) x run).round ≡ run.round
    by_front None later = refl
    by_front (Some v) later = later v

released_told : (config : Config) (p : ℕ) → p < config.limits.ports → (clock n : ℕ) (events : List Answered) (run : Run) → run.round ≡ clock → IsToldBy config (clock + 1) events run.state run.ledger
    → IsToldBy config (clock + 1) (events ++ events_released n p run.state) (released n p run).state (released n p run).ledger
released_told config p inside clock zero events run round k = none_told config (clock + 1) events run.state run.ledger k
released_told config p inside clock (suc n) events run round k = by_front (front_service run.state p) refl (released_told config p inside clock n)
  where
    behind : Service → Step → Run
    behind v r = record run { state = rounds.after_step run.state r; ledger = noted p v run.round run.ledger }

    by_front : (x : Option Service) → front_service run.state p ≡ x
        → ((es : List Answered) (next : Run) → next.round ≡ clock → IsToldBy config (clock + 1) es next.state next.ledger → IsToldBy config (clock + 1) (es ++ events_released n p next.state) (released n p next).state (released n p next).ledger)
        → IsToldBy config (clock + 1) (events ++ option_map_or (λ v. made_then (λ next. []) (Release p) (step run.state (Release p)) ++ events_released n p (rounds.after run.state (Release p))) x [])
        (option_map_or (λ v. released n p (released_by p run v)) x run).state (option_map_or (λ v. released n p (released_by p run v)) x run).ledger
    by_front None is later = none_told config (clock + 1) events run.state run.ledger k
    by_front (Some v) is later =
        let one = release_told config clock events run.state run.ledger p v inside k is in
        let m = one.0 in
        let first : List Answered = record { event = Release p; answer = Ok m.outcome } ∷ [] in
        let next : Run = record run { state = m.state; ledger = noted p v run.round run.ledger } in
        let told : IsToldBy config (clock + 1) (events ++ first) m.state (noted p v run.round run.ledger) = subst (λ r. IsToldBy config (clock + 1) (events ++ first) m.state (noted p v r run.ledger)) (sym round) one.2 in
        let rest = behind_told config (clock + 1) events first (events_released n p m.state) (released n p next).state (released n p next).ledger (later (events ++ first) next round told) in
        subst (λ (r : Step). IsToldBy config (clock + 1) (events ++ (made_then (λ next. []) (Release p) r ++ events_released n p (rounds.after_step run.state r))) (released n p (behind v r)).state (released n p (behind v r)).ledger)
        (sym one.1) rest

port_served_told : (config : Config) (p clock : ℕ) (events : List Answered) (run : Run) → p < config.limits.ports → run.round ≡ clock → IsToldBy config (clock + 1) events run.state run.ledger
    → IsToldBy config (clock + 1) (events ++ events_of_port_served p run.state) (port_served p run).state (port_served p run).ledger
port_served_told config p clock events run inside round k =
    let collected : Run = record run { state = until_refused (Collect p) run.state } in
    let count = items_of collected.state (Release p) in
    let last = released count p collected in
    behind_told config (clock + 1) events (events_until_refused (Collect p) run.state) (events_released count p collected.state) last.state last.ledger
    (released_told config p inside clock count (events ++ events_until_refused (Collect p) run.state) collected round
    (inner_told config (clock + 1) (clock + 1) events (events_until_refused (Collect p) run.state) run.state collected.state run.ledger.accepted run.ledger.ports run.ledger.keeps run.ledger.served k
    (until_leads (Collect p) run.state (λ t. tt)) (until_inner (Collect p) run.state tt) (until_clocks (λ c now. now ≡ clock + 1) (Collect p) run.state tt k.clocks)))

ports_served_round : (n : ℕ) (run : Run) → (ports_served n run).round ≡ run.round
ports_served_round zero run = refl
ports_served_round (suc p) run =
    let before = ports_served p run in
    let collected : Run = record before { state = until_refused (Collect p) before.state } in
    released_round (items_of collected.state (Release p)) p collected ∙ ports_served_round p run

ports_served_told : (config : Config) (n clock : ℕ) (events : List Answered) (run : Run) → n ≤ config.limits.ports → run.round ≡ clock → IsToldBy config (clock + 1) events run.state run.ledger
    → IsToldBy config (clock + 1) (events ++ events_of_ports_served n run) (ports_served n run).state (ports_served n run).ledger
ports_served_told config zero clock events run few round k = none_told config (clock + 1) events run.state run.ledger k
ports_served_told config (suc p) clock events run few round k =
    let before = ports_served p run in
    let next = port_served p before in
    behind_told config (clock + 1) events (events_of_ports_served p run) (events_of_port_served p before.state) next.state next.ledger
    (port_served_told config p clock (events ++ events_of_ports_served p run) before (omega (arith, few)) (ports_served_round p run ∙ round) (ports_served_told config p clock events run (omega (arith, few)) round k))

-- a turn

-- where the lists of the ledger are as they were
lists_told : (config : Config) (clock : ℕ) (events : List Answered) (s : State) (old new : Ledger) → (new.accepted ≡ old.accepted) × (new.ports ≡ old.ports) × (new.keeps ≡ old.keeps) × (new.served ≡ old.served) → IsToldBy config clock events s old → IsToldBy config clock events s new
lists_told config clock events s old new same k =
    subst (λ (xs : List (List Accepted)). IsTold config clock events s xs new.ports new.keeps new.served) (sym same.0)
    (subst (λ (ts : List Times). IsTold config clock events s old.accepted ts new.keeps new.served) (sym same.1)
    (subst (λ b. IsTold config clock events s old.accepted old.ports b new.served) (sym same.2) (subst (λ (rs : List ReleasedRequest). IsTold config clock events s old.accepted old.ports old.keeps rs) (sym same.3) k)))

round_made_told : (config : Config) (clock : ℕ) (events : List Answered) (run next : Run) → IsReached (replay_opening config) run.state → NoneDone run.state → run.round ≡ clock → IsToldBy config clock events run.state run.ledger
    → round_made config run ≡ Some next → IsToldBy config (clock + 1) (events ++ events_of_round_made config run) next.state next.ledger × (next.round ≡ clock + 1)
round_made_told config clock events run next reached none round k made = by_served (channels_served config.geometry.channels run.state) refl made
  where
    by_served : (x : Option State) → channels_served config.geometry.channels run.state ≡ x → option_map (round_closed config run) x ≡ Some next
        → IsToldBy config (clock + 1) (events ++ (events_of_channels config.geometry.channels run.state ++ option_map_or (λ s. events_of_ports_served config.limits.ports (channels_counted config run s)) x [])) next.state next.ledger × (next.round ≡ clock + 1)
    by_served None is made = absurd (let impossible = made in cc)
    by_served (Some s) is made =
        let o = replay_opening config in
        let first = events_of_channels config.geometry.channels run.state in
        let part = channels_part o config.geometry.channels run.state s reached none is in
        let led = part.leads (history.run o events) k.state in
        let counted = channels_counted config run s in
        let whole = fold-append history.after (history.begun o) events first in
        let few : length s.channels ≤ config.geometry.channels =
        omega (arith, ap (λ (t : State). length t.channels) (sym led.state), ap (λ (h : History). length h.state.channels) whole, (run_keeps o (events ++ first)).channels_are) in
        let now = channels_now clock config.geometry.channels run.state s is few k.clocks in
        let one = inner_told config clock (clock + 1) events first run.state s run.ledger.accepted run.ledger.ports run.ledger.keeps run.ledger.served k part.leads (channels_inner config.geometry.channels run.state) now in
        let found = all_found run.state (channels_told config.geometry.channels run.state) run.ledger in
        let found_told = lists_told config (clock + 1) (events ++ first) s run.ledger found (found_lists run.state (channels_told config.geometry.channels run.state) run.ledger) one in
        let two = lists_told config (clock + 1) (events ++ first) s found counted.ledger (acted_lists run.round config.geometry.channels s found) found_told in
        let last = ports_served config.limits.ports counted in
        let three = ports_served_told config config.limits.ports clock (events ++ first) counted (omega arith) round two in
        let same : round_closed config run s ≡ next = cc in
        subst (λ (r : Run). IsToldBy config (clock + 1) (events ++ (first ++ events_of_ports_served config.limits.ports counted)) r.state r.ledger × (r.round ≡ clock + 1)) same (
          behind_told config (clock + 1) events first (events_of_ports_served config.limits.ports counted) last.state last.ledger three,
          ap (λ n. n + 1) (ports_served_round config.limits.ports counted ∙ round),
        )

turn_told : (config : Config) (clock : ℕ) (events : List Answered) (run next : Run) → IsReached (replay_opening config) run.state → NoneDone run.state → run.round ≡ clock → IsToldBy config clock events run.state run.ledger
    → turn config run ≡ Some next → IsToldBy config (clock + 1) (events ++ events_of_turn config run) next.state next.ledger × (next.round ≡ clock + 1)
turn_told config clock events run next reached none round k made =
    let o = replay_opening config in
    let before = all_submitted config run in
    let first = events_of_all_submitted config run in
    let part = all_submitted_part config run none in
    let one = all_submitted_told config clock events run round k in
    let two = round_made_told config clock (events ++ first) before next (reached_then o run.state before.state first reached part.leads) part.none (all_submitted_round config run ∙ round) one made in
    (behind_told config (clock + 1) events first (events_of_round_made config before) next.state next.ledger two.0, two.1)

-- so many of them

turns_told_on : (config : Config) (n clock : ℕ) (events : List Answered) (run last : Run) → IsReached (replay_opening config) run.state → NoneDone run.state → run.round ≡ clock → IsToldBy config clock events run.state run.ledger
    → turns config n run ≡ Some last → IsToldBy config (clock + n) (events ++ events_of_turns config n run) last.state last.ledger
turns_told_on config zero clock events run last reached none round k made =
    let same : run ≡ last = cc in
    subst (λ (r : Run). IsToldBy config (clock + 0) (events ++ []) r.state r.ledger) same (none_told config (clock + 0) events run.state run.ledger (subst (λ n. IsToldBy config n events run.state run.ledger) (omega arith) k))
turns_told_on config (suc n) clock events run last reached none round k made = by_turn (turn config run) refl made (turns_told_on config n (clock + 1))
  where
    by_turn : (x : Option Run) → turn config run ≡ x → option_and_then (turns config n) x ≡ Some last
        → ((es : List Answered) (from to : Run) → IsReached (replay_opening config) from.state → NoneDone from.state → from.round ≡ clock + 1 → IsToldBy config (clock + 1) es from.state from.ledger
        → turns config n from ≡ Some to → IsToldBy config (clock + 1 + n) (es ++ events_of_turns config n from) to.state to.ledger)
        → IsToldBy config (clock + suc n) (events ++ (events_of_turn config run ++ option_map_or (events_of_turns config n) x [])) last.state last.ledger
    by_turn None is made later = absurd (let impossible = made in cc)
    by_turn (Some next) is made later =
        let o = replay_opening config in
        let part = turn_part o config run next reached none is in
        let one = turn_told config clock events run next reached none round k is in
        let rest = later (events ++ events_of_turn config run) next last (reached_then o run.state next.state (events_of_turn config run) reached part.leads) part.none one.1 one.0 made in
        subst (λ m. IsToldBy config m (events ++ (events_of_turn config run ++ events_of_turns config n next)) last.state last.ledger) (omega arith)
        (behind_told config (clock + 1 + n) events (events_of_turn config run) (events_of_turns config n next) last.state last.ledger rest)

begun_told : (config : Config) (keeps : Bool) (order : Order) (queues : Queues) → IsToldBy config 0 [] (begun config keeps order queues).state (begun config keeps order queues).ledger
begun_told config keeps order queues = record {
  state = refl;
  takes = tt;
  clocks = λ c side at. ap (λ (s : ChannelSide). s.channel.now) (at_replicate config.geometry.channels c (opened_channel config 0) side at);
  ledger = ledger_begun config keeps;
}

pub turns_told : (config : Config) (keeps : Bool) (order : Order) (queues : Queues) (n : ℕ) (last : Run) → turns config n (begun config keeps order queues) ≡ Some last
    → IsToldBy config (0 + n) (events_of_turns config n (begun config keeps order queues)) last.state last.ledger
turns_told config keeps order queues n last made =
    let o = replay_opening config in
    let run = begun config keeps order queues in
    turns_told_on config n 0 [] run last (begun_reached o) (begun_none o) refl (begun_told config keeps order queues) made
