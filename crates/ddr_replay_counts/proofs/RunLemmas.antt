-- What the ports of a replay count and what its channels count, from turn to turn.
use Rattle.std.proofs.Common.{◌≡◌, ◌≤◌, ◌+◌, ◌-◌, ◌∙◌, ℕ, zero, suc, Bool, true, false, cond, List, [], ◌∷◌, Option, Some, None, Ok, Err, length, refl, sym, ap, subst, arith}
use Rattle.std.specs.List.{slice_get, sum_by}
use Rattle.std.specs.Option.{option_map, option_map_or}
use Rattle.std.specs.Prelude.{nat_lt}
use Rattle.ddr_timing.specs.declared.config.Config.{Config}
use Rattle.ddr_trace.specs.declared.command.Entry.{Entry}
use Rattle.ddr_reorder.specs.declared.reply.Service.{Service}
use Rattle.ddr_ports.specs.Asked.{Asked}
use Rattle.ddr_world.specs.declared.event.Refusal.{Refusal}
use Rattle.ddr_world.specs.Events.{Collect, Release, Submit}
use Rattle.ddr_world.specs.Promise.{trace_at}
use Rattle.ddr_world.specs.Served.{front_service}
use Rattle.ddr_world.specs.State.{State}
use Rattle.ddr_world.specs.Step.{Made, Step, step}
use Rattle.ddr_rounds.specs.Rounds.{after, channels_served, items_of, until_refused}
use Rattle.ddr_rounds.specs.Telling.{channels_told}
use Rattle.ddr_rounds.proofs.TraceLemmas.{popped_still}
use Rattle.ddr_stream.specs.declared.ask.Ask.{Ask}
use Rattle.ddr_stream.specs.Asks.{asked_by}
use Rattle.ddr_stream.specs.Stream.{queue_at}
use Rattle.ddr_ledger.specs.declared.activity.Seen.{Seen}
use Rattle.ddr_ledger.specs.declared.rows.Rows.{Rows}
use Rattle.ddr_ledger.specs.declared.released.ReleasedRequest.{ReleasedRequest}
use Rattle.ddr_ledger.specs.declared.times.Accepted.{Accepted}
use Rattle.ddr_ledger.specs.Activities.{all_acted}
use Rattle.ddr_ledger.specs.Activity.{seen_at}
use Rattle.ddr_ledger.specs.Ledgers.{Ledger, accepted_at, noted, with_accepted, with_oldest, with_wait, without_oldest}
use Rattle.ddr_replay.specs.Books.{all_found}
use Rattle.ddr_replay.specs.Runs.{Run, Submitted, accepted_in, after_answer, all_submitted, channels_counted, first_port, port_served, port_submitted, ports_served, ports_submitted, released, released_by, round_closed, submitted, turn}
use Rattle.ddr_replay_counts.proofs.HistoryLemmas.{Test, passed}
use Rattle.ddr_replay_counts.proofs.PartLemmas.{all_passed, channels_gain, channels_short}
use Rattle.ddr_replay_counts.proofs.PortLemmas.{AreOf, after_stays, made_stays, popped_stays}
use Rattle.ddr_replay_counts.proofs.RowLemmas.{IsCounter, told_counted, told_long}
use Rattle.ddr_replay_counts.proofs.SumLemmas.{over_each, stopped}
use Rattle.ddr_replay_counts.proofs.ToldLemmas.{channels_of}
use Rattle.ddr_replay_counts.proofs.TraceLemmas.{release_still, submit_still}

-- the ports' numbers are those of the channels' commands, of which each channel issued at most one a round
pub record AreEven (config : Config) (run : Run) : Type 0 where
  pub numbered : AreOf config.limits.ports run.state
  pub long : length run.ledger.rows ≡ config.limits.ports
  pub short : (c : ℕ) → length (trace_at run.state c) ≤ run.round
  pub even : (row : Rows → ℕ) (test : Test) → IsCounter row test
      → stopped (sum_by row run.ledger.rows) ≡ stopped (all_passed test config.geometry.channels run.state)

-- ---- what neither issues a command nor counts one

record IsStill (ports : ℕ) (s next : State) (ledger after : Ledger) : Type 0 where
  numbered : AreOf ports s → AreOf ports next
  traces : (c : ℕ) → trace_at next c ≡ trace_at s c
  rows : after.rows ≡ ledger.rows

still_same : (ports : ℕ) (s : State) (ledger after : Ledger) → after.rows ≡ ledger.rows → IsStill ports s s ledger after
still_same ports s ledger after same = record { numbered = λ all. all; traces = λ c. refl; rows = same }

still_then : (ports : ℕ) (s t u : State) (a b d : Ledger) → IsStill ports s t a b → IsStill ports t u b d → IsStill ports s u a d
still_then ports s t u a b d first second = record {
  numbered = λ all. second.numbered (first.numbered all);
  traces = λ c. second.traces c ∙ first.traces c;
  rows = second.rows ∙ first.rows;
}

record RunStill (ports : ℕ) (old new : Run) : Type 0 where
  still : IsStill ports old.state new.state old.ledger new.ledger
  round : new.round ≡ old.round

run_same : (ports : ℕ) (run : Run) → RunStill ports run run
run_same ports run = record { still = still_same ports run.state run.ledger run.ledger refl; round = refl }

run_then : (ports : ℕ) (a b d : Run) → RunStill ports a b → RunStill ports b d → RunStill ports a d
run_then ports a b d first second =
    record { still = still_then ports a.state b.state d.state a.ledger b.ledger d.ledger first.still second.still; round = second.round ∙ first.round }

same_passed : (test : Test) (channels : ℕ) (s next : State) → ((c : ℕ) → trace_at next c ≡ trace_at s c)
    → all_passed test channels next ≡ all_passed test channels s
same_passed test channels s next same =
    over_each (λ c. passed test (trace_at s c)) (λ c. passed test (trace_at next c)) channels (λ c. ap (passed test) (same c))

still_even : (config : Config) (old new : Run) → RunStill config.limits.ports old new → AreEven config old → AreEven config new
still_even config old new kept is =
    let still = kept.still in
    record {
      numbered = still.numbered is.numbered;
      long = ap (λ (rows : List Rows). length rows) still.rows ∙ is.long;
      short = λ c.
          let same : length (trace_at new.state c) ≡ length (trace_at old.state c) = ap (λ (es : List Entry). length es) (still.traces c) in
          omega (arith, same, is.short c, kept.round);
      even = λ row test counter.
          ap (λ (rows : List Rows). stopped (sum_by row rows)) still.rows ∙ is.even row test counter
          ∙ ap stopped (sym (same_passed test config.geometry.channels old.state new.state still.traces));
    }

-- ---- what ports submit

abbrev SubmittedStill : ℕ → State → Ledger → Submitted → Type 0
SubmittedStill ports s ledger x = IsStill ports s x.state ledger x.ledger

by_clock : (ports : ℕ) (s : State) (ledger : Ledger) (asks : List Ask) (x : Submitted) (b : Bool) → SubmittedStill ports s ledger x
    → SubmittedStill ports s ledger (cond b (record { state = s; ledger = ledger; rest = asks }) x)
by_clock ports s ledger asks x true is = still_same ports s ledger ledger refl
by_clock ports s ledger asks x false is = is

by_answer : (ports p : ℕ) (asked : Asked) (s : State) (ledger : Ledger) (on : State → Submitted) (wait : Refusal → Submitted) (r : Step)
    → step s (Submit p asked) ≡ r
    → ((m : Made) → step s (Submit p asked) ≡ Ok m → SubmittedStill ports s ledger (on m.state))
    → ((cause : Refusal) → SubmittedStill ports s ledger (wait cause)) → SubmittedStill ports s ledger (after_answer on wait r)
by_answer ports p asked s ledger on wait (Ok m) is accepted refused = accepted m is
by_answer ports p asked s ledger on wait (Err cause) is accepted refused = refused cause

accepted_still : (ports p : ℕ) (asked : Asked) (s : State) (m : Made) (ledger after : Ledger) → step s (Submit p asked) ≡ Ok m
    → after.rows ≡ ledger.rows → IsStill ports s m.state ledger after
accepted_still ports p asked s m ledger after is same = record {
  numbered = λ all. made_stays ports s (Submit p asked) m is all;
  traces = λ c. submit_still c s p asked m is;
  rows = same;
}

submitted_still : (ports p round : ℕ) (asks : List Ask) (s : State) (ledger : Ledger)
    → SubmittedStill ports s ledger (submitted p round asks s ledger)
submitted_still ports p round [] s ledger = still_same ports s ledger ledger refl
submitted_still ports p round (ask ∷ more) s ledger =
    let next = with_accepted p (accepted_in round ask) ledger in
    by_clock ports s ledger (ask ∷ more) _ (nat_lt round ask.at)
    (by_answer ports p (asked_by ask) s ledger (λ t. submitted p round more t next) (λ cause. record { state = s; ledger = with_wait p cause ledger; rest = ask ∷ more }) (step s (Submit p (asked_by ask))) refl
    (λ m is.
    let after = submitted p round more m.state next in
    still_then ports s m.state after.state ledger next after.ledger (accepted_still ports p (asked_by ask) s m ledger next is refl)
    (submitted_still ports p round more m.state next))
    (λ cause. still_same ports s ledger (with_wait p cause ledger) refl))

port_submitted_still : (ports p : ℕ) (run : Run) → RunStill ports run (port_submitted p run)
port_submitted_still ports p run =
    record { still = submitted_still ports p run.round (queue_at run.queues p) run.state run.ledger; round = refl }

ports_submitted_still : (ports first n : ℕ) (run : Run) → RunStill ports run (ports_submitted first n run)
ports_submitted_still ports first zero run = run_same ports run
ports_submitted_still ports first (suc n) run =
    let before = ports_submitted first n run in
    run_then ports run before (port_submitted (first + n) before) (ports_submitted_still ports first n run)
    (port_submitted_still ports (first + n) before)

all_submitted_still : (ports : ℕ) (config : Config) (run : Run) → RunStill ports run (all_submitted config run)
all_submitted_still ports config run =
    let first = first_port run.asking config.limits.ports in
    let later = config.limits.ports - first in
    let mid = ports_submitted first later run in
    run_then ports run mid (ports_submitted 0 first mid) (ports_submitted_still ports first later run)
    (ports_submitted_still ports 0 first mid)

-- ---- what ports collect and release

kept_rows : (keeps : Bool) (served : List ReleasedRequest) (ledger : Ledger)
    → (cond keeps (record ledger { served = served }) ledger).rows ≡ ledger.rows
kept_rows true served ledger = refl
kept_rows false served ledger = refl

oldest_rows : (port : ℕ) (service : Service) (round : ℕ) (o : Option Accepted) (ledger : Ledger)
    → (with_oldest port service round o ledger).rows ≡ ledger.rows
oldest_rows port service round None ledger = refl
oldest_rows port service round (Some accepted) ledger = kept_rows ledger.keeps _ ledger

noted_rows : (port : ℕ) (service : Service) (round : ℕ) (ledger : Ledger) → (noted port service round ledger).rows ≡ ledger.rows
noted_rows port service round ledger = oldest_rows port service round (slice_get (accepted_at ledger port) 0) (without_oldest port ledger)

released_by_still : (ports p : ℕ) (run : Run) (v : Service) → RunStill ports run (released_by p run v)
released_by_still ports p run v = record {
  still = record {
    numbered = λ all. after_stays ports run.state (Release p) all;
    traces = λ c. release_still c run.state p;
    rows = noted_rows p v run.round run.ledger;
  };
  round = refl;
}

by_front : (ports p : ℕ) (run : Run) (later : Run → Run) (o : Option Service) → ((next : Run) → RunStill ports next (later next))
    → RunStill ports run (option_map_or (λ v. later (released_by p run v)) o run)
by_front ports p run later None still = run_same ports run
by_front ports p run later (Some v) still =
    let next = released_by p run v in
    run_then ports run next (later next) (released_by_still ports p run v) (still next)

released_still : (ports n p : ℕ) (run : Run) → RunStill ports run (released n p run)
released_still ports zero p run = run_same ports run
released_still ports (suc n) p run = by_front ports p run (released n p) (front_service run.state p) (λ next. released_still ports n p next)

port_served_still : (ports p : ℕ) (run : Run) → RunStill ports run (port_served p run)
port_served_still ports p run =
    let collected = record run { state = until_refused (Collect p) run.state } in
    run_then ports run collected (port_served p run)
    (record {
      still = record { numbered = λ all. popped_stays ports (Collect p) run.state all; traces = λ c. popped_still c (Collect p) run.state refl; rows = refl };
      round = refl;
    })
    (released_still ports (items_of collected.state (Release p)) p collected)

ports_served_still : (ports n : ℕ) (run : Run) → RunStill ports run (ports_served n run)
ports_served_still ports zero run = run_same ports run
ports_served_still ports (suc p) run =
    let before = ports_served p run in
    run_then ports run before (port_served p before) (ports_served_still ports p run) (port_served_still ports p before)

-- ---- the channels' parts

acted_rows : (now cycles n : ℕ) (seen : ℕ → Seen) (ledger : Ledger) → (all_acted now cycles seen n ledger).rows ≡ ledger.rows
acted_rows now cycles zero seen ledger = refl
acted_rows now cycles (suc c) seen ledger = acted_rows now cycles c seen ledger

-- they are this round's
abbrev next_round : Config → Run → State → Run
next_round config run s = record (channels_counted config run s) { round = run.round + 1 }

channels_even : (config : Config) (run : Run) (s : State) → channels_served config.geometry.channels run.state ≡ Some s
    → AreEven config run → AreEven config (next_round config run s)
channels_even config run s served is =
    let channels = config.geometry.channels in
    let told = channels_told channels run.state in
    let found = all_found run.state told run.ledger in
    let acted : (channels_counted config run s).ledger.rows ≡ found.rows = acted_rows run.round 1 channels (seen_at s) found in
    let of = channels_of config.limits.ports channels run.state s is.numbered served in
    record {
      numbered = of.0;
      long = ap (λ (rows : List Rows). length rows) acted ∙ told_long run.state told run.ledger ∙ is.long;
      short = λ c. omega (arith, channels_short channels run.state s served c, is.short c);
      even = λ row test counter.
          ap (λ (rows : List Rows). stopped (sum_by row rows)) acted
          ∙ told_counted row test counter config.limits.ports run.state told run.ledger (all_passed test channels run.state) is.long of.1
          (is.even row test counter)
          ∙ ap stopped (sym (channels_gain test channels run.state s served));
    }

-- ---- a turn

closed_even : (config : Config) (run : Run) (s : State) → channels_served config.geometry.channels run.state ≡ Some s → AreEven config run
    → AreEven config (round_closed config run s)
closed_even config run s served is =
    let counted = channels_counted config run s in
    let kept = ports_served_still config.limits.ports config.limits.ports counted in
    still_even config (next_round config run s) (round_closed config run s)
    (record { still = kept.still; round = ap (λ n. n + 1) kept.round }) (channels_even config run s served is)

round_even : (config : Config) (run next : Run) (o : Option State) → channels_served config.geometry.channels run.state ≡ o
    → option_map (round_closed config run) o ≡ Some next → AreEven config run → AreEven config next
round_even config run next None served made is = absurd (let impossible = made in cc)
round_even config run next (Some s) served made is =
    let same : round_closed config run s ≡ next = cc in
    subst (AreEven config) same (closed_even config run s served is)

pub turn_even : (config : Config) (run next : Run) → turn config run ≡ Some next → AreEven config run → AreEven config next
turn_even config run next made is =
    let before = all_submitted config run in
    round_even config before next (channels_served config.geometry.channels before.state) refl made
    (still_even config run before (all_submitted_still config.limits.ports config run) is)
