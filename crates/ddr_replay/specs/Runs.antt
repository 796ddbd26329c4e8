-- A replay: before each round each port submits what it may, then comes the round, in which it releases its replies.
use Rattle.std.specs.Prelude.{ℕ, Bool, ◌+◌, ◌-◌, ◌==◌, suc, zero, nat_lt, if◌then◌else◌, List, [], ◌∷◌, length, slice_set, sum_by, Option, Some, Result, Ok, Err}
use Rattle.std.specs.Option.{option_and_then, option_map, option_map_or}
use Rattle.ddr_timing.specs.declared.config.Config.{Config}
use Rattle.ddr_world.specs.Events.{Submit, Collect, Release}
use Rattle.ddr_world.specs.State.{State, opened}
use Rattle.ddr_world.specs.Step.{Step, step}
use Rattle.ddr_world.specs.declared.event.Refusal.{Refusal}
use Rattle.ddr_text.specs.declared.fault.Fault.{Fault}
use Rattle.ddr_text.specs.declared.fault.Fault.TheVariants.{ClockSpent, ReplayLimit}
use Rattle.ddr_world.specs.Served.{front_service}
use Rattle.ddr_reorder.specs.declared.reply.Service.{Service}
use Rattle.ddr_rounds.specs.Rounds.{after, channels_served, items_of, outstanding, until_refused}
use Rattle.ddr_rounds.specs.Telling.{channels_told}
use Rattle.ddr_stream.specs.declared.ask.Ask.{Ask}
use Rattle.ddr_replay.specs.declared.order.Asking.{Asking}
use Rattle.ddr_replay.specs.declared.order.Order.{Order}
use Rattle.ddr_replay.specs.declared.order.Order.TheVariants as orders
use Rattle.ddr_ledger.specs.declared.times.Accepted.{Accepted}
use Rattle.ddr_stream.specs.Asks.{asked_by}
use Rattle.ddr_replay.specs.Books.{all_found}
use Rattle.ddr_ledger.specs.Activities.{all_acted}
use Rattle.ddr_ledger.specs.Activity.{seen_at}
use Rattle.ddr_ledger.specs.Ledgers.{Ledger, no_ledger, noted, with_accepted, with_wait}
use Rattle.ddr_stream.specs.Stream.{Queues, queue_at}

-- what a replay has come to: in which order its ports submit next, the core's state, what each port has still to submit, what is known of the
-- times of requests, and how many rounds were made
pub record Run : Type 0 where
  pub asking : Asking
  pub state : State
  pub queues : Queues
  pub ledger : Ledger
  pub round : ℕ

-- the core's state, the ledger, and the requests of a port that are left, once it has submitted
pub record Submitted : Type 0 where
  pub state : State
  pub ledger : Ledger
  pub rest : List Ask

-- on with the others behind a request that is accepted; one that is refused waits, for what it is refused for
abbrev pub after_answer : (State → Submitted) → (Refusal → Submitted) → Step → Submitted
after_answer on wait (Ok m) = on m.state
after_answer on wait (Err cause) = wait cause

-- a request that is accepted before a round
abbrev pub accepted_in : ℕ → Ask → Accepted
accepted_in round ask = record { ask = ask; round = round }

-- a port's requests in order, while their cycle has come and they are not refused
abbrev pub submitted : ℕ → ℕ → List Ask → State → Ledger → Submitted
submitted p round [] s ledger = record { state = s; ledger = ledger; rest = [] }
submitted p round (ask ∷ more) s ledger =
    if nat_lt round ask.at then record { state = s; ledger = ledger; rest = ask ∷ more }
    else after_answer (λ next. submitted p round more next (with_accepted p (accepted_in round ask) ledger)) (λ cause. record { state = s; ledger = with_wait p cause ledger; rest = ask ∷ more }) (step s (Submit p (asked_by ask)))

-- once a request of a port was accepted, the port behind it is first, where they go in turn
abbrev pub with_first : Order → ℕ → Asking → Asking
with_first orders.Fixed p a = a
with_first orders.InTurn p a = record a { first = p + 1 }

-- so it is unless as many requests are left as were
abbrev pub first_behind : ℕ → Bool → Asking → Asking
first_behind p same a = if same then a else with_first a.order p a

abbrev pub with_submitted : ℕ → Run → Submitted → Run
with_submitted p run s = record run { asking = first_behind p (length s.rest == length (queue_at run.queues p)) run.asking; state = s.state; queues = slice_set run.queues p s.rest; ledger = s.ledger }

abbrev pub port_submitted : ℕ → Run → Run
port_submitted p run = with_submitted p run (submitted p run.round (queue_at run.queues p) run.state run.ledger)

-- so many ports from this one on, in order
abbrev pub ports_submitted : ℕ → ℕ → Run → Run
ports_submitted first zero run = run
ports_submitted first (suc n) run = port_submitted (first + n) (ports_submitted first n run)

-- the port that submits first, of so many
abbrev pub first_port : Asking → ℕ → ℕ
first_port a ports = if nat_lt a.first ports then a.first else 0

-- all of them: from the one that submits first on, and then those before it
abbrev pub all_submitted : Config → Run → Run
all_submitted config run =
    let first = first_port run.asking config.limits.ports in
    ports_submitted 0 first (ports_submitted first (config.limits.ports - first) run)

-- the reply in front of a port, whose request was served so, is released
abbrev pub released_by : ℕ → Run → Service → Run
released_by p run v = record run { state = after run.state (Release p); ledger = noted p v run.round run.ledger }

-- each reply in front of a port, so many at most
abbrev pub released : ℕ → ℕ → Run → Run
released zero p run = run
released (suc n) p run = option_map_or (λ v. released n p (released_by p run v)) (front_service run.state p) run

-- a port's part of a round: Collect until it is refused, then its replies are released
abbrev pub port_served : ℕ → Run → Run
port_served p run =
    let collected = record run { state = until_refused (Collect p) run.state } in
    released (items_of collected.state (Release p)) p collected

abbrev pub ports_served : ℕ → Run → Run
ports_served zero run = run
ports_served (suc p) run = port_served p (ports_served p run)

-- The channels' part of a round has come to this state: it is noted how the requests found their banks that were read or written in it, and
-- each channel counts a cycle more, with what is seen of it: that of the round's number, which is the clock of each channel.
abbrev pub channels_counted : Config → Run → State → Run
channels_counted config run s =
    let channels = config.geometry.channels in
    record run { state = s; ledger = all_acted run.round 1 (seen_at s) channels (all_found run.state (channels_told channels run.state) run.ledger) }

-- then comes the ports' part, and the round is one more
abbrev pub round_closed : Config → Run → State → Run
round_closed config run s = let last = ports_served config.limits.ports (channels_counted config run s) in record last { round = last.round + 1 }

-- a round: each channel's part, then each port's; none where a clock is spent
abbrev pub round_made : Config → Run → Option Run
round_made config run = option_map (round_closed config run) (channels_served config.geometry.channels run.state)

-- each port submits, then the round is made
abbrev pub turn : Config → Run → Option Run
turn config run = round_made config (all_submitted config run)

-- so many turns, one behind another; none where a clock is spent
abbrev pub turns : Config → ℕ → Run → Option Run
turns config zero run = Some run
turns config (suc n) run = option_and_then (turns config n) (turn config run)

-- how many requests are to be submitted, or wait for their replies to be released
abbrev pub unserved : Run → ℕ
unserved run = sum_by length run.queues + outstanding run.state

-- rounds while there is such a request, of so many that may be made
abbrev pub replayed : Config → ℕ → Run → Result Run Fault
replayed config zero run = if unserved run == 0 then Ok run else Err ReplayLimit
replayed config (suc n) run = if unserved run == 0 then Ok run else option_map_or (replayed config n) (turn config run) (Err ClockSpent)

-- before the first round; served requests are kept where that is asked for
abbrev pub begun : Config → Bool → Order → Queues → Run
begun config keeps order queues = record { asking = record { order = order; first = 0 }; state = opened config 0 0; queues = queues; ledger = no_ledger config keeps; round = 0 }
