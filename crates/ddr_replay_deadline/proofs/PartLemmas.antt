-- What a port submits and what it releases: the events lead from one state to another, and leave nothing done.
use Rattle.std.proofs.Common.{◌≡◌, ◌+◌, ◌-◌, ℕ, zero, suc, Bool, true, false, cond, List, [], ◌∷◌, ◌++◌, Option, Some, None, Ok, Err, refl, sym, subst}
use Rattle.std.specs.Prelude.{nat_lt}
use Rattle.std.specs.Option.{option_map_or}
use Rattle.ddr_timing.specs.declared.config.Config.{Config}
use Rattle.ddr_reorder.specs.declared.reply.Service.{Service}
use Rattle.ddr_rounds.specs.Rounds.{items_of, until_refused}
use Rattle.ddr_rounds.specs.Rounds as rounds
use Rattle.ddr_world.specs.declared.event.Refusal.{Refusal}
use Rattle.ddr_world.specs.Events.{Event, Submit, Collect, Release}
use Rattle.ddr_world.specs.History.{Answered, History, after_step}
use Rattle.ddr_world.specs.Served.{front_service}
use Rattle.ddr_world.specs.State.{State}
use Rattle.ddr_world.specs.Step.{Made, Step, step}
use Rattle.ddr_core_deadline.specs.InRounds.{IsNoCycle, NoneDone, events_until_refused, made_then}
use Rattle.ddr_core_deadline.proofs.NoneLemmas.{answer_none, until_none}
use Rattle.ddr_core_deadline.proofs.RoundLemmas.{IsPart, leads_first, no_cycle_finds, none_part, part_then, until_leads}
use Rattle.ddr_stream.specs.declared.ask.Ask.{Ask}
use Rattle.ddr_stream.specs.Asks.{asked_by}
use Rattle.ddr_stream.specs.Stream.{queue_at}
use Rattle.ddr_ledger.specs.Ledgers.{Ledger, with_accepted, with_wait}
use Rattle.ddr_replay.specs.Runs.{Run, Submitted, accepted_in, after_answer, all_submitted, first_port, port_served, ports_served, ports_submitted, released, released_by, submitted}
use Rattle.ddr_replay_deadline.specs.InReplay.{events_of_all_submitted, events_of_port_served, events_of_ports_served, events_of_ports_submitted, events_released, events_submitted}

-- one event

-- a history of that state
history_at : State → History
history_at s = record { state = s; accepted = λ c. []; admitted = λ c. []; sent = λ p. []; taken = λ p. [] }

none_by : (s : State) (event : Event) (m : Made) → IsNoCycle event → NoneDone s → step s event ≡ Ok m → NoneDone m.state
unfolding history_at
none_by s event m other none is = subst (λ (r : Step). NoneDone (after_step event (history_at s) r).state) is (answer_none (history_at s) event (Ok m.outcome) other none)

made_part : (s next : State) (event : Event) (m : Made) (later : List Answered) → IsNoCycle event → NoneDone s → step s event ≡ Ok m → (NoneDone m.state → IsPart m.state later next)
    → IsPart s (record { event = event; answer = Ok m.outcome } ∷ later) next
made_part s next event m later other none is rest =
    let behind = rest (none_by s event m other none is) in
    record { leads = leads_first s next event m later is (no_cycle_finds s event other) behind.leads; none = behind.none }

-- a refused one changes nothing
after_part : (s : State) (event : Event) → IsNoCycle event → NoneDone s → IsPart s (made_then (λ next. []) event (step s event)) (rounds.after s event)
after_part s event other none = by_step (step s event) refl
  where
    by_step : (r : Step) → step s event ≡ r → IsPart s (made_then (λ next. []) event r) (rounds.after_step s r)
    by_step (Ok m) is = made_part s m.state event m [] other none is (none_part m.state)
    by_step (Err cause) is = none_part s none

until_part : (s : State) (event : Event) → IsNoCycle event → NoneDone s → IsPart s (events_until_refused event s) (until_refused event s)
until_part s event other none = record { leads = until_leads event s (λ t. no_cycle_finds t event other); none = until_none event s other none }

-- what is submitted

answer_part : (p : ℕ) (ask : Ask) (s : State) (events : State → List Answered) (on : State → Submitted) (wait : Refusal → Submitted) (r : Step) → NoneDone s → step s (Submit p (asked_by ask)) ≡ r
    → ((next : State) → NoneDone next → IsPart next (events next) (on next).state) → ((cause : Refusal) → (wait cause).state ≡ s) → IsPart s (made_then events (Submit p (asked_by ask)) r) (after_answer on wait r).state
answer_part p ask s events on wait (Ok m) none is later same = made_part s (on m.state).state (Submit p (asked_by ask)) m (events m.state) tt none is (later m.state)
answer_part p ask s events on wait (Err cause) none is later same = subst (IsPart s []) (sym (same cause)) (none_part s none)

time_part : (s : State) (b : Bool) (xs ys : List Answered) (early late : Submitted) → IsPart s xs early.state → IsPart s ys late.state → IsPart s (cond b xs ys) (cond b early late).state
time_part s true xs ys early late first second = first
time_part s false xs ys early late first second = second

submitted_part : (p round : ℕ) (asks : List Ask) (s : State) (ledger : Ledger) → NoneDone s → IsPart s (events_submitted p round asks s) (submitted p round asks s ledger).state
submitted_part p round [] s ledger none = none_part s none
submitted_part p round (ask ∷ more) s ledger none =
    let noted = with_accepted p (accepted_in round ask) ledger in
    let on : State → Submitted = λ next. submitted p round more next noted in
    let wait : Refusal → Submitted = λ cause. record { state = s; ledger = with_wait p cause ledger; rest = ask ∷ more } in
    let r = step s (Submit p (asked_by ask)) in
    time_part s (nat_lt round ask.at) [] (made_then (events_submitted p round more) (Submit p (asked_by ask)) r) (record { state = s; ledger = ledger; rest = ask ∷ more }) (after_answer on wait r) (none_part s none)
    (answer_part p ask s (events_submitted p round more) on wait r none refl (λ next left. submitted_part p round more next noted left) (λ cause. refl))

ports_submitted_part : (first n : ℕ) (run : Run) → NoneDone run.state → IsPart run.state (events_of_ports_submitted first n run) (ports_submitted first n run).state
ports_submitted_part first zero run none = none_part run.state none
ports_submitted_part first (suc n) run none =
    let p = first + n in
    let before = ports_submitted first n run in
    let one = ports_submitted_part first n run none in
    part_then run.state before.state (ports_submitted first (suc n) run).state (events_of_ports_submitted first n run) (events_submitted p before.round (queue_at before.queues p) before.state) one
    (submitted_part p before.round (queue_at before.queues p) before.state before.ledger one.none)

pub all_submitted_part : (config : Config) (run : Run) → NoneDone run.state → IsPart run.state (events_of_all_submitted config run) (all_submitted config run).state
all_submitted_part config run none =
    let first = first_port run.asking config.limits.ports in
    let later = config.limits.ports - first in
    let mid = ports_submitted first later run in
    let one = ports_submitted_part first later run none in
    part_then run.state mid.state (all_submitted config run).state (events_of_ports_submitted first later run) (events_of_ports_submitted 0 first mid) one (ports_submitted_part 0 first mid one.none)

-- what is released

released_part : (n p : ℕ) (run : Run) → NoneDone run.state → IsPart run.state (events_released n p run.state) (released n p run).state
released_part zero p run none = none_part run.state none
released_part (suc n) p run none = by_front (front_service run.state p) (released_part n p)
  where
    by_front : (x : Option Service) → ((next : Run) → NoneDone next.state → IsPart next.state (events_released n p next.state) (released n p next).state)
        → IsPart run.state (option_map_or (λ v. made_then (λ next. []) (Release p) (step run.state (Release p)) ++ events_released n p (rounds.after run.state (Release p))) x []) (option_map_or (λ v. released n p (released_by p run v)) x run).state
    by_front None later = none_part run.state none
    by_front (Some v) later =
        let next = released_by p run v in
        let one = after_part run.state (Release p) tt none in
        part_then run.state next.state (released n p next).state (made_then (λ next. []) (Release p) (step run.state (Release p))) (events_released n p next.state) one (later next one.none)

port_served_part : (p : ℕ) (run : Run) → NoneDone run.state → IsPart run.state (events_of_port_served p run.state) (port_served p run).state
port_served_part p run none =
    let collected : Run = record run { state = until_refused (Collect p) run.state } in
    let count = items_of collected.state (Release p) in
    let one = until_part run.state (Collect p) tt none in
    part_then run.state collected.state (released count p collected).state (events_until_refused (Collect p) run.state) (events_released count p collected.state) one (released_part count p collected one.none)

pub ports_served_part : (n : ℕ) (run : Run) → NoneDone run.state → IsPart run.state (events_of_ports_served n run) (ports_served n run).state
ports_served_part zero run none = none_part run.state none
ports_served_part (suc p) run none =
    let before = ports_served p run in
    let one = ports_served_part p run none in
    part_then run.state before.state (port_served p before).state (events_of_ports_served p run) (events_of_port_served p before.state) one (port_served_part p before one.none)
