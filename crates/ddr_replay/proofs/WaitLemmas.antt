-- Ports that wait go on waiting while others submit, and while the core is quiet.
use Rattle.std.proofs.Common.{◌≡◌, ◌≢◌, ◌<◌, ◌≤◌, ◌⊎◌, ◌+◌, ◌-◌, ℕ, zero, suc, Bool, true, false, cond, if◌then◌else◌, List, [], ◌∷◌, Option, None, Some, IfSome, inl, inr, refl, sym, ap, ap₂, length, subst, ◌∙◌, arith}
use Rattle.std.specs.List.{slice_get, slice_set}
use Rattle.std.specs.Prelude.{◌==◌, nat_le}
use Rattle.std.proofs.lemmas.Bool.{le-ltb, lt-ltb}
use Rattle.std.proofs.lemmas.Bool.Decides.{nat_tests}
use Rattle.std.proofs.lemmas.List.{get_or-set_other, set-get_or}
use Rattle.ddr_timing.specs.declared.config.Config.{Config}
use Rattle.ddr_world.specs.declared.event.Refusal.{Refusal}
use Rattle.ddr_world.specs.Events.{Submit}
use Rattle.ddr_world.specs.State.{State}
use Rattle.ddr_world.specs.Step.{step}
use Rattle.ddr_stream.specs.declared.ask.Ask.{Ask}
use Rattle.ddr_stream.specs.Asks.{asked_by}
use Rattle.ddr_ledger.specs.Ledgers.{Ledger, with_accepted, with_full, with_wait}
use Rattle.ddr_replay.specs.Runs.{Run, Submitted, accepted_in, after_answer, all_submitted, first_behind, first_port, port_submitted, ports_submitted, submitted, with_submitted}
use Rattle.ddr_stream.specs.Stream.{Queues, queue_at}
use Rattle.ddr_replay.specs.Waits.{AreWaiting, IsFull, IsWaiting, IsWaitingIn, all_full, come_of, filled, has_come}
use Rattle.ddr_replay.proofs.RoundLemmas.{first_within}
use Rattle.ddr_replay.proofs.SubmitLemmas.{others_kept, refused_full}
use Rattle.ddr_replay.proofs.WaitedLemmas.{all_beside}

-- for a shorter while, in the same round or a later one, and where the port is the same
pub waits_on : (until less p round next : ℕ) (s t : State) (o : Option Ask) → less ≤ until → round ≤ next → slice_get t.ports p ≡ slice_get s.ports p → IfSome o (λ ask. (until ≤ ask.at) ⊎ ((ask.at ≤ round) × IsFull p ask s)) → IfSome o (λ ask. (less ≤ ask.at) ⊎ ((ask.at ≤ next) × IsFull p ask t))
waits_on until less p round next s t None le later same is = tt
waits_on until less p round next s t (Some ask) le later same (inl at) = inl (omega (arith, le, at))
waits_on until less p round next s t (Some ask) le later same (inr is) =
    inr (omega (arith, is.0, later), record { port = is.1.port; there = same ∙ is.1.there; full = is.1.full })

-- while another port submits
pub waits_beside : (until less p q : ℕ) (run : Run) → q ≢ p → less ≤ until → IsWaitingIn q until run → IsWaitingIn q less (port_submitted p run)
waits_beside until less p q run other le is = λ ahead.
    let here = is (omega (arith, ahead, le)) in
    let next = submitted p run.round (queue_at run.queues p) run.state run.ledger in
    let same : queue_at (slice_set run.queues p next.rest) q ≡ queue_at run.queues q = get_or-set_other run.queues p q next.rest [] other in
    subst (λ (queue : List Ask). IfSome (slice_get queue 0) (λ ask. (less ≤ ask.at) ⊎ ((ask.at ≤ run.round) × IsFull q ask next.state))) (sym same)
    (waits_on until less q run.round run.round run.state next.state (slice_get (queue_at run.queues q) 0) le (omega arith) (others_kept p run.round (queue_at run.queues p) run.state run.ledger q other) here)

pub waits_less : (until less p round : ℕ) (queue : List Ask) (s : State) → less ≤ until → IsWaiting p until round queue s → IsWaiting p less round queue s
waits_less until less p round queue s le is = λ ahead. waits_on until less p round round s s (slice_get queue 0) le (omega arith) refl (is (omega (arith, ahead, le)))

-- nothing is submitted by a port that waits, and it is noted that it waits for its window, if its request's cycle has come

abbrev stay : State → List Ask → Ledger → Submitted
stay s queue ledger = record { state = s; ledger = ledger; rest = queue }

nothing_submitted : (p until round : ℕ) (queue : List Ask) (s : State) (ledger : Ledger) → IfSome (slice_get queue 0) (λ ask. (until ≤ ask.at) ⊎ ((ask.at ≤ round) × IsFull p ask s)) → round < until
    → submitted p round queue s ledger ≡ stay s queue (if has_come round queue then with_full p 1 ledger else ledger)
nothing_submitted p until round [] s ledger is ahead = refl
nothing_submitted p until round (ask ∷ more) s ledger (inl at) ahead =
    let on : State → Submitted = λ next. submitted p round more next (with_accepted p (accepted_in round ask) ledger) in
    let wait : Refusal → Submitted = λ cause. stay s (ask ∷ more) (with_wait p cause ledger) in
    let later : nat_le ask.at round ≡ false = grind (arith, nat_tests, at, ahead) in
    ap (λ b. cond b (stay s (ask ∷ more) ledger) (after_answer on wait (step s (Submit p (asked_by ask))))) (lt-ltb round ask.at (omega (arith, at, ahead)))
    ∙ ap (λ w. stay s (ask ∷ more) (if w then with_full p 1 ledger else ledger)) (sym later)
nothing_submitted p until round (ask ∷ more) s ledger (inr is) ahead =
    let on : State → Submitted = λ next. submitted p round more next (with_accepted p (accepted_in round ask) ledger) in
    let wait : Refusal → Submitted = λ cause. stay s (ask ∷ more) (with_wait p cause ledger) in
    let come : nat_le ask.at round ≡ true = grind (arith, nat_tests, is.0) in
    ap (λ b. cond b (stay s (ask ∷ more) ledger) (after_answer on wait (step s (Submit p (asked_by ask))))) (le-ltb round ask.at is.0)
    ∙ ap (after_answer on wait) (refused_full s p ask is.1)
    ∙ ap (λ w. stay s (ask ∷ more) (if w then with_full p 1 ledger else ledger)) (sym come)

abbrev pub noted : Run → Ledger → Run
noted run ledger = record run { ledger = ledger }

same_number : (n : ℕ) → (n == n) ≡ true
same_number n = grind (arith, nat_tests)

port_waits : (p until : ℕ) (run : Run) → IsWaitingIn p until run → run.round < until → port_submitted p run ≡ noted run (filled 1 (come_of run.round run.queues) p run.ledger)
port_waits p until run is ahead =
    ap (with_submitted p run) (nothing_submitted p until run.round (queue_at run.queues p) run.state run.ledger (is ahead) ahead)
    ∙ ap₂ (λ (same : Bool) (queues : Queues). record run { asking = first_behind p same run.asking; queues = queues; ledger = filled 1 (come_of run.round run.queues) p run.ledger }) (same_number (length (queue_at run.queues p))) (set-get_or run.queues p [])

-- nor by some of them

-- the waits of so many ports from this one on
abbrev full_from : ℕ → (ℕ → Bool) → ℕ → ℕ → Ledger → Ledger
full_from rounds come first zero ledger = ledger
full_from rounds come first (suc n) ledger = filled rounds come (first + n) (full_from rounds come first n ledger)

ports_wait : (first n until : ℕ) (run : Run) → ((p : ℕ) → first ≤ p → p < first + n → IsWaitingIn p until run) → run.round < until
    → ports_submitted first n run ≡ noted run (full_from 1 (come_of run.round run.queues) first n run.ledger)
ports_wait first zero until run are ahead = refl
ports_wait first (suc n) until run are ahead =
    let p = first + n in
    let before = noted run (full_from 1 (come_of run.round run.queues) first n run.ledger) in
    ap (port_submitted p) (ports_wait first n until run (λ q from below. are q from (omega (arith, below))) ahead)
    ∙ port_waits p until before (are p (omega arith) (omega arith)) ahead

-- those from port 0 on, and behind them those from another one on
from_none : (come : ℕ → Bool) (n : ℕ) (ledger : Ledger) → full_from 1 come 0 n ledger ≡ all_full 1 come n ledger
from_none come zero ledger = refl
from_none come (suc n) ledger =
    let same : 0 + n ≡ n = omega arith in
    ap (λ p. filled 1 come p (full_from 1 come 0 n ledger)) same ∙ ap (filled 1 come n) (from_none come n ledger)

full_on : (come : ℕ → Bool) (first n : ℕ) (ledger : Ledger) → full_from 1 come first n (all_full 1 come first ledger) ≡ all_full 1 come (first + n) ledger
full_on come first zero ledger =
    let same : first ≡ first + 0 = omega arith in
    ap (λ k. all_full 1 come k ledger) same
full_on come first (suc n) ledger =
    let same : suc (first + n) ≡ first + suc n = omega arith in
    ap (filled 1 come (first + n)) (full_on come first n ledger) ∙ ap (λ k. all_full 1 come k ledger) same

full_beside : (come : ℕ → Bool) (first n : ℕ) (ledger : Ledger) → all_full 1 come first (full_from 1 come first n ledger) ≡ full_from 1 come first n (all_full 1 come first ledger)
full_beside come first zero ledger = refl
full_beside come first (suc n) ledger =
    all_beside 1 (first + n) first come (full_from 1 come first n ledger) (omega arith) ∙ ap (filled 1 come (first + n)) (full_beside come first n ledger)

-- nor by all of them, whichever submits first
pub all_wait : (config : Config) (until : ℕ) (run : Run) → AreWaiting config.limits.ports until run → run.round < until
    → all_submitted config run ≡ noted run (all_full 1 (come_of run.round run.queues) config.limits.ports run.ledger)
all_wait config until run are ahead =
    let ports = config.limits.ports in
    let first = first_port run.asking ports in
    let few = first_within run.asking ports in
    let come = come_of run.round run.queues in
    let later = noted run (full_from 1 come first (ports - first) run.ledger) in
    let all : first + (ports - first) ≡ ports = omega (arith, few) in
    ap (ports_submitted 0 first) (ports_wait first (ports - first) until run (λ p from below. are p (omega (arith, below, few))) ahead)
    ∙ ports_wait 0 first until later (λ p from below. are p (omega (arith, below, few))) ahead
    ∙ ap (noted run) (from_none come first later.ledger ∙ full_beside come first (ports - first) run.ledger ∙ full_on come first (ports - first) run.ledger ∙ ap (λ k. all_full 1 come k run.ledger) all)

-- a round later, and still before the end, the same requests have come
pub come_still : (p until round : ℕ) (queue : List Ask) (s : State) → IfSome (slice_get queue 0) (λ ask. (until ≤ ask.at) ⊎ ((ask.at ≤ round) × IsFull p ask s)) → round + 1 < until
    → has_come (round + 1) queue ≡ has_come round queue
come_still p until round [] s is ahead = refl
come_still p until round (ask ∷ more) s (inl at) ahead = grind (arith, nat_tests, at, ahead)
come_still p until round (ask ∷ more) s (inr is) ahead = grind (arith, nat_tests, is.0)
