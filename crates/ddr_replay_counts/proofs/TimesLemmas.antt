-- The times of the requests of all ports are those of each, together, from turn to turn.
use Rattle.std.proofs.Common.{◌≡◌, ◌<◌, ◌≤◌, ◌+◌, ◌-◌, ◌∙◌, ℕ, zero, suc, Bool, true, false, cond, List, [], ◌∷◌, Option, Some, None, Ok, Err, length, length-set, refl, sym, ap, subst, arith}
use Rattle.std.specs.List.{slice_get, slice_index_or, slice_set, sum_by}
use Rattle.std.specs.Option.{option_map, option_map_or}
use Rattle.std.specs.Prelude.{nat_lt}
use Rattle.std.proofs.lemmas.List.{length-replicate}
use Rattle.ddr_timing.specs.declared.config.Config.{Config}
use Rattle.ddr_trace.specs.declared.command.Command.{Command}
use Rattle.ddr_address_map.specs.declared.request.Kind.{Kind}
use Rattle.ddr_statistics.specs.declared.counts.Finding.{Finding}
use Rattle.ddr_statistics.specs.Noted.{raised}
use Rattle.ddr_statistics.specs.Visits.{finding}
use Rattle.ddr_reorder.specs.declared.reply.Service.{Service}
use Rattle.ddr_channel.specs.declared.issued.Served as issued
use Rattle.ddr_world.specs.declared.event.Refusal.{Refusal}
use Rattle.ddr_world.specs.Events.{Collect, Release, Submit}
use Rattle.ddr_world.specs.Promise.{trace_at}
use Rattle.ddr_world.specs.Served.{front_service}
use Rattle.ddr_world.specs.State.{State}
use Rattle.ddr_world.specs.Step.{Step, step}
use Rattle.ddr_rounds.specs.declared.told.Told.{Told}
use Rattle.ddr_rounds.specs.declared.told.Told.TheVariants as tell
use Rattle.ddr_rounds.specs.Rounds.{channels_served, items_of, until_refused}
use Rattle.ddr_rounds.specs.Telling.{channels_told}
use Rattle.ddr_stream.specs.declared.ask.Ask.{Ask}
use Rattle.ddr_stream.specs.Asks.{asked_by}
use Rattle.ddr_stream.specs.Stream.{Queues, queue_at}
use Rattle.ddr_ledger.specs.declared.activity.Seen.{Seen}
use Rattle.ddr_ledger.specs.declared.released.ReleasedRequest.{ReleasedRequest}
use Rattle.ddr_ledger.specs.declared.times.Accepted.{Accepted}
use Rattle.ddr_ledger.specs.declared.times.Times.{Times}
use Rattle.ddr_ledger.specs.Activities.{all_acted}
use Rattle.ddr_ledger.specs.Activity.{seen_at}
use Rattle.ddr_ledger.specs.Ledgers.{Ledger, accepted_at, found_at, noted, served_of, times_at, with_accepted, with_column, with_found, with_oldest, with_served, with_times, with_wait, without_oldest}
use Rattle.ddr_ledger.specs.Times.{count_of, no_times, timed}
use Rattle.ddr_replay.specs.declared.order.Order.{Order}
use Rattle.ddr_replay.specs.Books.{all_found, found_told}
use Rattle.ddr_replay.specs.Runs.{Run, Submitted, accepted_in, after_answer, all_submitted, begun, channels_counted, first_port, port_submitted, ports_served, ports_submitted, released, released_by, round_closed, submitted, turn}
use Rattle.ddr_replay_counts.specs.Times.{TimesAgree, sum_over}
use Rattle.ddr_replay_counts.proofs.BegunLemmas.{none_of_ports}
use Rattle.ddr_replay_counts.proofs.SumLemmas.{all_summed, stopped, sum_grows, sum_stays}
use Rattle.ddr_replay_counts.proofs.NumberLemmas.{IsTime, are_counted, reads_to_issue, reads_to_release, requests_counted, take_clocks, writes_to_issue, writes_to_release}

-- ---- the ledger

-- of all ports as many as of each, together
pub record AreTimed (ports : ℕ) (ledger : Ledger) : Type 0 where
  pub long : length ledger.ports ≡ ports
  pub same : (number : Times → ℕ) (of : Kind → Bool) (by : ℕ → ℕ → ℕ) → IsTime number of by
      → number ledger.total ≡ stopped (sum_by number ledger.ports)

-- what times no request
abbrev TimesStill : Ledger → Ledger → Type 0
TimesStill ledger after = (after.total ≡ ledger.total) × (after.ports ≡ ledger.ports)

times_then : (a b d : Ledger) → TimesStill a b → TimesStill b d → TimesStill a d
times_then a b d first second = (second.0 ∙ first.0, second.1 ∙ first.1)

still_timed : (ports : ℕ) (ledger after : Ledger) → TimesStill ledger after → AreTimed ports ledger → AreTimed ports after
still_timed ports ledger after still is = record {
  long = ap (λ (ts : List Times). length ts) still.1 ∙ is.long;
  same = λ number of by time.
      ap number still.0 ∙ is.same number of by time ∙ ap (λ (ts : List Times). stopped (sum_by number ts)) (sym still.1);
}

-- one request more of a port

grows_if : (number : Times → ℕ) (b : Bool) (by : ℕ) (total new : Times) (ports : List Times) (p : ℕ) (old mine : Times) → p < length ports
    → old ≡ slice_index_or ports p no_times
    → number new ≡ cond b (raised by (number total)) (number total) → number mine ≡ cond b (raised by (number old)) (number old)
    → number total ≡ stopped (sum_by number ports)
    → number new ≡ stopped (sum_by number (slice_set ports p mine))
grows_if number true by total new ports p old mine inside here all one same =
    let own : number mine ≡ raised by (number (slice_index_or ports p no_times)) = one ∙ ap (λ (t : Times). raised by (number t)) here in
    let told : stopped (sum_by number ports) ≡ stopped (number total) = omega (arith, same) in
    all ∙ sym (sum_grows number ports p no_times mine by (number total) inside own told)
grows_if number false by total new ports p old mine inside here all one same =
    let own : number mine ≡ number (slice_index_or ports p no_times) = one ∙ ap number here in
    all ∙ same ∙ ap stopped (sym (sum_stays number ports p no_times mine inside own))

one_timed : (ports p issued_in round : ℕ) (accepted : Accepted) (ledger : Ledger) → p < ports → AreTimed ports ledger
    → AreTimed ports (with_times p issued_in round accepted ledger)
unfolding timed
one_timed ports p issued_in round accepted ledger inside is =
    let mine = timed accepted issued_in round (times_at ledger p) in
    record {
      long = length-set ledger.ports p mine ∙ is.long;
      same = λ number of by time.
          grows_if number (of accepted.ask.kind) (by (issued_in - accepted.round) (round - accepted.round)) ledger.total
          (timed accepted issued_in round ledger.total) ledger.ports p (times_at ledger p) mine (omega (arith, inside, is.long)) refl
          (time.timed accepted.ask.kind (issued_in - accepted.round) (round - accepted.round) ledger.total)
          (time.timed accepted.ask.kind (issued_in - accepted.round) (round - accepted.round) (times_at ledger p))
          (is.same number of by time);
    }

kept_times : (keeps : Bool) (served : List ReleasedRequest) (ledger : Ledger)
    → TimesStill ledger (cond keeps (record ledger { served = served }) ledger)
kept_times true served ledger = (refl, refl)
kept_times false served ledger = (refl, refl)

oldest_timed : (ports p : ℕ) (service : Service) (round : ℕ) (o : Option Accepted) (ledger : Ledger) → p < ports → AreTimed ports ledger
    → AreTimed ports (with_oldest p service round o ledger)
oldest_timed ports p service round None ledger inside is = is
oldest_timed ports p service round (Some accepted) ledger inside is =
    let kept = with_served (served_of p service round accepted ledger) ledger in
    one_timed ports p service.issued round accepted kept inside (still_timed ports ledger kept (kept_times ledger.keeps _ ledger) is)

noted_timed : (ports p : ℕ) (service : Service) (round : ℕ) (ledger : Ledger) → p < ports → AreTimed ports ledger
    → AreTimed ports (noted p service round ledger)
noted_timed ports p service round ledger inside is =
    let oldest = slice_get (accepted_at ledger p) 0 in
    let before = without_oldest p ledger in
    let after = with_oldest p service round oldest before in
    still_timed ports after (noted p service round ledger) (refl, refl)
    (oldest_timed ports p service round oldest before inside (still_timed ports ledger before (refl, refl) is))

-- ---- what ports submit

by_clock : (ledger : Ledger) (x y : Submitted) (b : Bool) → x.ledger ≡ ledger → TimesStill ledger y.ledger
    → TimesStill ledger (cond b x y).ledger
by_clock ledger x y true same is = (ap (λ (l : Ledger). l.total) same, ap (λ (l : Ledger). l.ports) same)
by_clock ledger x y false same is = is

by_answer : (ledger : Ledger) (on : State → Submitted) (wait : Refusal → Submitted) (r : Step)
    → ((next : State) → TimesStill ledger (on next).ledger) → ((cause : Refusal) → TimesStill ledger (wait cause).ledger)
    → TimesStill ledger (after_answer on wait r).ledger
by_answer ledger on wait (Ok m) accepted refused = accepted m.state
by_answer ledger on wait (Err cause) accepted refused = refused cause

submitted_times : (p round : ℕ) (asks : List Ask) (s : State) (ledger : Ledger) → TimesStill ledger (submitted p round asks s ledger).ledger
submitted_times p round [] s ledger = (refl, refl)
submitted_times p round (ask ∷ more) s ledger =
    let next = with_accepted p (accepted_in round ask) ledger in
    by_clock ledger (record { state = s; ledger = ledger; rest = ask ∷ more }) _ (nat_lt round ask.at) refl
    (by_answer ledger (λ t. submitted p round more t next) (λ cause. record { state = s; ledger = with_wait p cause ledger; rest = ask ∷ more }) (step s (Submit p (asked_by ask)))
    (λ t. times_then ledger next (submitted p round more t next).ledger (refl, refl) (submitted_times p round more t next))
    (λ cause. (refl, refl)))

ports_submitted_times : (first n : ℕ) (run : Run) → TimesStill run.ledger (ports_submitted first n run).ledger
ports_submitted_times first zero run = (refl, refl)
ports_submitted_times first (suc n) run =
    let before = ports_submitted first n run in
    times_then run.ledger before.ledger (port_submitted (first + n) before).ledger (ports_submitted_times first n run)
    (submitted_times (first + n) before.round (queue_at before.queues (first + n)) before.state before.ledger)

all_submitted_times : (config : Config) (run : Run) → TimesStill run.ledger (all_submitted config run).ledger
all_submitted_times config run =
    let first = first_port run.asking config.limits.ports in
    let later = config.limits.ports - first in
    let mid = ports_submitted first later run in
    times_then run.ledger mid.ledger (ports_submitted 0 first mid).ledger (ports_submitted_times first later run)
    (ports_submitted_times 0 first mid)

-- ---- the channels' parts

kept_found : (keeps : Bool) (found : List (List (Option Finding))) (ledger : Ledger)
    → TimesStill ledger (cond keeps (record ledger { found = found }) ledger)
kept_found true found ledger = (refl, refl)
kept_found false found ledger = (refl, refl)

by_request : (command : Command) (found : Option Finding) (ledger : Ledger) (o : Option issued.Served)
    → TimesStill ledger (option_map_or (λ v. with_found v.port v.number command found ledger) o ledger)
by_request command found ledger None = (refl, refl)
by_request command found ledger (Some v) =
    kept_found ledger.keeps
    (slice_set ledger.found v.port (slice_set (found_at ledger v.port) (v.number - count_of (times_at ledger v.port)) found))
    (with_column v.port command found ledger)

one_told : (s : State) (x : Told) (ledger : Ledger) → TimesStill ledger (found_told s ledger x)
one_told s (tell.Issued c i) ledger = by_request i.entry.command (finding (trace_at s c) i.entry.command) ledger i.served
one_told s (tell.Accepted p number) ledger = (refl, refl)
one_told s (tell.Refused p cause) ledger = (refl, refl)
one_told s (tell.Released p number) ledger = (refl, refl)
one_told s (tell.Passed rounds) ledger = (refl, refl)

told_times : (s : State) (told : List Told) (ledger : Ledger) → TimesStill ledger (all_found s told ledger)
told_times s [] ledger = (refl, refl)
told_times s (x ∷ more) ledger =
    times_then ledger (found_told s ledger x) (all_found s more (found_told s ledger x)) (one_told s x ledger)
    (told_times s more (found_told s ledger x))

acted_times : (now cycles n : ℕ) (seen : ℕ → Seen) (ledger : Ledger) → TimesStill ledger (all_acted now cycles seen n ledger)
acted_times now cycles zero seen ledger = (refl, refl)
acted_times now cycles (suc c) seen ledger = acted_times now cycles c seen ledger

counted_times : (config : Config) (run : Run) (s : State) → TimesStill run.ledger (channels_counted config run s).ledger
counted_times config run s =
    let told = channels_told config.geometry.channels run.state in
    let found = all_found run.state told run.ledger in
    times_then run.ledger found (channels_counted config run s).ledger (told_times run.state told run.ledger)
    (acted_times run.round 1 config.geometry.channels (seen_at s) found)

-- ---- what ports release

by_front : (ports p : ℕ) (run : Run) (later : Run → Run) (o : Option Service) → p < ports → AreTimed ports run.ledger
    → ((next : Run) → AreTimed ports next.ledger → AreTimed ports (later next).ledger)
    → AreTimed ports (option_map_or (λ v. later (released_by p run v)) o run).ledger
by_front ports p run later None inside is more = is
by_front ports p run later (Some v) inside is more = more (released_by p run v) (noted_timed ports p v run.round run.ledger inside is)

released_timed : (ports n p : ℕ) (run : Run) → p < ports → AreTimed ports run.ledger → AreTimed ports (released n p run).ledger
released_timed ports zero p run inside is = is
released_timed ports (suc n) p run inside is =
    by_front ports p run (released n p) (front_service run.state p) inside is (λ next so. released_timed ports n p next inside so)

ports_served_timed : (ports n : ℕ) (run : Run) → n ≤ ports → AreTimed ports run.ledger → AreTimed ports (ports_served n run).ledger
ports_served_timed ports zero run few is = is
ports_served_timed ports (suc p) run few is =
    let before = ports_served p run in
    let collected = record before { state = until_refused (Collect p) before.state } in
    released_timed ports (items_of collected.state (Release p)) p collected (omega (arith, few))
    (ports_served_timed ports p run (omega (arith, few)) is)

-- ---- a turn

closed_timed : (config : Config) (run : Run) (s : State) → AreTimed config.limits.ports run.ledger
    → AreTimed config.limits.ports (round_closed config run s).ledger
closed_timed config run s is =
    let counted = channels_counted config run s in
    ports_served_timed config.limits.ports config.limits.ports counted (omega arith)
    (still_timed config.limits.ports run.ledger counted.ledger (counted_times config run s) is)

round_timed : (config : Config) (run next : Run) (o : Option State) → option_map (round_closed config run) o ≡ Some next
    → AreTimed config.limits.ports run.ledger → AreTimed config.limits.ports next.ledger
round_timed config run next None made is = absurd (let impossible = made in cc)
round_timed config run next (Some s) made is =
    let same : round_closed config run s ≡ next = cc in
    subst (λ (r : Run). AreTimed config.limits.ports r.ledger) same (closed_timed config run s is)

pub turn_timed : (config : Config) (run next : Run) → turn config run ≡ Some next → AreTimed config.limits.ports run.ledger
    → AreTimed config.limits.ports next.ledger
turn_timed config run next made is =
    let before = all_submitted config run in
    round_timed config before next (channels_served config.geometry.channels before.state) made
    (still_timed config.limits.ports run.ledger before.ledger (all_submitted_times config run) is)

-- ---- before the first

pub begun_timed : (config : Config) (keeps : Bool) (order : Order) (queues : Queues)
    → AreTimed config.limits.ports (begun config keeps order queues).ledger
begun_timed config keeps order queues = record {
  long = length-replicate config.limits.ports no_times;
  same = λ number of by time. omega (arith, time.none_yet, none_of_ports number config.limits.ports no_times time.none_yet);
}

-- ---- what the tables tell

sum_is : (number : Times → ℕ) (of : Kind → Bool) (by : ℕ → ℕ → ℕ) → IsTime number of by → (ports : ℕ) (ledger : Ledger)
    → AreTimed ports ledger → number ledger.total ≡ sum_over number ledger.ports
sum_is number of by time ports ledger is =
    let all : sum_over number ledger.ports ≡ stopped (0 + sum_by number ledger.ports) = all_summed number ledger.ports 0 refl in
    omega (arith, all, is.same number of by time)

pub timed_agree : (ports : ℕ) (ledger : Ledger) → AreTimed ports ledger → TimesAgree ledger.total ledger.ports
timed_agree ports ledger is =
    let one : (number : Times → ℕ) (of : Kind → Bool) (by : ℕ → ℕ → ℕ) → IsTime number of by → number ledger.total
    ≡ sum_over number ledger.ports =
    λ number of by time. sum_is number of by time ports ledger is in
    record {
      requests = one _ _ _ requests_counted;
      reads_to_issue = record { count = one _ _ _ (reads_to_issue _ _ are_counted); clocks = one _ _ _ (reads_to_issue _ _ take_clocks) };
      reads_to_release = record { count = one _ _ _ (reads_to_release _ _ are_counted); clocks = one _ _ _ (reads_to_release _ _ take_clocks) };
      writes_to_issue = record { count = one _ _ _ (writes_to_issue _ _ are_counted); clocks = one _ _ _ (writes_to_issue _ _ take_clocks) };
      writes_to_release = record { count = one _ _ _ (writes_to_release _ _ are_counted); clocks = one _ _ _ (writes_to_release _ _ take_clocks) };
    }
