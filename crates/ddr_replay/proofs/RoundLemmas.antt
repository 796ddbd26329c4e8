-- A round doesn't look at what is left to be submitted, and the ports that submit leave as many requests to be served.
use Rattle.std.proofs.Common.{◌≡◌, ◌<◌, ◌≤◌, ◌+◌, ◌-◌, ℕ, zero, suc, Bool, true, false, cond, List, [], ◌∷◌, Option, None, Some, Ok, Err, length, refl, ap, ◌∙◌, arith}
use Rattle.std.specs.Prelude.{nat_lt}
use Rattle.std.specs.List.{slice_set, sum_by}
use Rattle.std.specs.Option.{option_map, option_map_or}
use Rattle.std.proofs.lemmas.List.Sums.{sum_by-set}
use Rattle.std.proofs.lemmas.Bool.Decides.{nat_tests}
use Rattle.ddr_timing.specs.declared.config.Config.{Config}
use Rattle.ddr_reorder.specs.declared.reply.Service.{Service}
use Rattle.ddr_rounds.specs.Rounds.{channels_served, items_of, outstanding, until_refused}
use Rattle.ddr_stream.specs.declared.ask.Ask.{Ask}
use Rattle.ddr_stream.specs.Asks.{asked_by}
use Rattle.ddr_stream.specs.Stream.{Queues, queue_at}
use Rattle.ddr_world.specs.declared.event.Refusal.{Refusal}
use Rattle.ddr_world.specs.Events.{Collect, Release, Submit}
use Rattle.ddr_world.specs.Served.{front_service}
use Rattle.ddr_world.specs.State.{State}
use Rattle.ddr_world.specs.Step.{Step, step}
use Rattle.ddr_replay.specs.declared.order.Asking.{Asking}
use Rattle.ddr_ledger.specs.Ledgers.{Ledger, with_accepted, with_wait}
use Rattle.ddr_replay.specs.Runs.{Run, Submitted, accepted_in, after_answer, all_submitted, channels_counted, first_port, port_served, port_submitted, ports_served, ports_submitted, released, released_by, round_closed, round_made, submitted, unserved}
use Rattle.ddr_replay.proofs.SubmitLemmas.{one_more}

abbrev pub with_queues : Queues → Run → Run
with_queues queues run = record run { queues = queues }

-- ---- what is left isn't looked at

by_front : (n p : ℕ) (run : Run) (queues : Queues) (o : Option Service) → ((v : Service) → released n p (with_queues queues (released_by p run v)) ≡ with_queues queues (released n p (released_by p run v)))
    → option_map_or (λ v. released n p (released_by p (with_queues queues run) v)) o (with_queues queues run) ≡ with_queues queues (option_map_or (λ v. released n p (released_by p run v)) o run)
by_front n p run queues None more = refl
by_front n p run queues (Some v) more = more v

released_beside : (n p : ℕ) (run : Run) (queues : Queues) → released n p (with_queues queues run) ≡ with_queues queues (released n p run)
released_beside zero p run queues = refl
released_beside (suc n) p run queues = by_front n p run queues (front_service run.state p) (λ v. released_beside n p (released_by p run v) queues)

port_beside : (p : ℕ) (run : Run) (queues : Queues) → port_served p (with_queues queues run) ≡ with_queues queues (port_served p run)
port_beside p run queues =
    let collected = record run { state = until_refused (Collect p) run.state } in
    released_beside (items_of collected.state (Release p)) p collected queues

ports_beside : (n : ℕ) (run : Run) (queues : Queues) → ports_served n (with_queues queues run) ≡ with_queues queues (ports_served n run)
ports_beside zero run queues = refl
ports_beside (suc p) run queues = ap (port_served p) (ports_beside p run queues) ∙ port_beside p (ports_served p run) queues

made_beside : (config : Config) (run : Run) (queues : Queues) (o : Option State) → option_map (round_closed config (with_queues queues run)) o ≡ option_map (with_queues queues) (option_map (round_closed config run) o)
made_beside config run queues None = refl
made_beside config run queues (Some s) =
    ap (λ (last : Run). Some (record last { round = last.round + 1 })) (ports_beside config.limits.ports (channels_counted config run s) queues)

pub round_beside : (config : Config) (run new : Run) → round_made config run ≡ Some new → (queues : Queues) → round_made config (with_queues queues run) ≡ Some (with_queues queues new)
round_beside config run new made queues = made_beside config run queues (channels_served config.geometry.channels run.state) ∙ ap (option_map (with_queues queues)) made

-- ---- as many are to be served

abbrev pub counted : Submitted → ℕ
counted s = length s.rest + outstanding s.state

abbrev onward : ℕ → ℕ → Ask → List Ask → Ledger → State → Submitted
onward p round ask more ledger next = submitted p round more next (with_accepted p (accepted_in round ask) ledger)

abbrev waits : ℕ → State → Ledger → List Ask → Refusal → Submitted
waits p s ledger queue cause = record { state = s; ledger = with_wait p cause ledger; rest = queue }

by_answer : (p round : ℕ) (ask : Ask) (more : List Ask) (s : State) (ledger : Ledger) (r : Step) → step s (Submit p (asked_by ask)) ≡ r → ((next : State) → counted (onward p round ask more ledger next) ≡ length more + outstanding next)
    → counted (after_answer (onward p round ask more ledger) (waits p s ledger (ask ∷ more)) r) ≡ length (ask ∷ more) + outstanding s
by_answer p round ask more s ledger (Ok m) is on = omega (arith, on m.state, one_more s m.state p (asked_by ask) m.outcome is)
by_answer p round ask more s ledger (Err cause) is on = refl

by_cycle : (p round : ℕ) (ask : Ask) (more : List Ask) (s : State) (ledger : Ledger) (b : Bool) → counted (after_answer (onward p round ask more ledger) (waits p s ledger (ask ∷ more)) (step s (Submit p (asked_by ask)))) ≡ length (ask ∷ more) + outstanding s
    → counted (cond b (record { state = s; ledger = ledger; rest = ask ∷ more }) (after_answer (onward p round ask more ledger) (waits p s ledger (ask ∷ more)) (step s (Submit p (asked_by ask))))) ≡ length (ask ∷ more) + outstanding s
by_cycle p round ask more s ledger true come = refl
by_cycle p round ask more s ledger false come = come

pub submitted_counts : (p round : ℕ) (queue : List Ask) (s : State) (ledger : Ledger) → counted (submitted p round queue s ledger) ≡ length queue + outstanding s
submitted_counts p round [] s ledger = refl
submitted_counts p round (ask ∷ more) s ledger =
    by_cycle p round ask more s ledger (nat_lt round ask.at)
    (by_answer p round ask more s ledger (step s (Submit p (asked_by ask))) refl (λ next. submitted_counts p round more next (with_accepted p (accepted_in round ask) ledger)))

set_counts : (queues : Queues) (p : ℕ) (rest : List Ask) → p < length queues → sum_by length (slice_set queues p rest) + length (queue_at queues p) ≡ sum_by length queues + length rest
set_counts queues p rest within = sum_by-set length queues p rest [] within

set_size : (queues : Queues) (p : ℕ) (rest : List Ask) → length (slice_set queues p rest) ≡ length queues
set_size [] p rest = refl
set_size (q ∷ qs) zero rest = refl
set_size (q ∷ qs) (suc p) rest = ap suc (set_size qs p rest)

ports_size : (first n : ℕ) (run : Run) → length (ports_submitted first n run).queues ≡ length run.queues
ports_size first zero run = refl
ports_size first (suc n) run =
    let before = ports_submitted first n run in
    let p = first + n in
    set_size before.queues p (submitted p before.round (queue_at before.queues p) before.state before.ledger).rest ∙ ports_size first n run

port_counts : (p : ℕ) (run : Run) → p < length run.queues → unserved (port_submitted p run) ≡ unserved run
port_counts p run within =
    let s = submitted p run.round (queue_at run.queues p) run.state run.ledger in
    omega (arith, set_counts run.queues p s.rest within, submitted_counts p run.round (queue_at run.queues p) run.state run.ledger)

ports_count : (first n : ℕ) (run : Run) → first + n ≤ length run.queues → unserved (ports_submitted first n run) ≡ unserved run
ports_count first zero run within = refl
ports_count first (suc n) run within =
    port_counts (first + n) (ports_submitted first n run) (omega (arith, within, ports_size first n run)) ∙ ports_count first n run (omega (arith, within))

-- the port that submits first is one of them
pub first_within : (asking : Asking) (ports : ℕ) → first_port asking ports ≤ ports
first_within asking ports = grind (arith, nat_tests)

pub all_count : (config : Config) (run : Run) → config.limits.ports ≤ length run.queues → unserved (all_submitted config run) ≡ unserved run
all_count config run within =
    let ports = config.limits.ports in
    let first = first_port run.asking ports in
    let few = first_within run.asking ports in
    ports_count 0 first (ports_submitted first (ports - first) run) (omega (arith, within, few, ports_size first (ports - first) run))
    ∙ ports_count first (ports - first) run (omega (arith, within, few))
