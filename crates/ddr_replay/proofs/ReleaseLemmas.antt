-- The replies in front of a port are released and noted, one after another.
use Rattle.std.proofs.Common.{◌≡◌, ◌+◌, ℕ, zero, suc, Some, None, Result, Ok, Err, refl, sym, ap, ap₂, subst, ◌∙◌, arith}
use Rattle.std.specs.List.{slice_get}
use Rattle.std.specs.Option.{option_map_or}
use Rattle.ddr_reorder.specs.declared.reply.Service.{Service}
use Rattle.ddr_reorder.specs.Replies.{Answer, front_number}
use Rattle.ddr_world.specs.Answer.{IsAnswered}
use Rattle.ddr_world.specs.declared.event.Outcome.{Outcome}
use Rattle.ddr_world.specs.declared.event.Outcome.TheVariants as outcome
use Rattle.ddr_world.specs.declared.event.Refusal.{Refusal}
use Rattle.ddr_world.specs.declared.event.Refusal.TheVariants as refusal
use Rattle.ddr_world.specs.Events.{Collect, Release}
use Rattle.ddr_world.specs.History.{front_of}
use Rattle.ddr_world.specs.Kept.{Kept, state_of}
use Rattle.ddr_world.specs.Served.{front_service}
use Rattle.ddr_world.specs.State.{State}
use Rattle.ddr_world.specs.Step.{Step, after_release, made, release, release_by, step, with_port}
use Rattle.ddr_rounds.specs.Rounds.{after_step, items_of, outstanding, until_refused}
use Rattle.ddr_rounds.proofs.EventLemmas.{front_answered}
use Rattle.ddr_rounds.proofs.StepCounts.{Counted, at_port_has, made_counts, maybe_has}
use Rattle.ddr_replay.specs.declared.order.Asking.{Asking}
use Rattle.ddr_ledger.specs.Ledgers.{Ledger, noted}
use Rattle.ddr_replay.specs.Runs.{Run, port_served, released, released_by}
use Rattle.ddr_stream.specs.Waiting.{Waiting}
use Rattle.ddr_replay.specs.View.{IsSame, Replay, run_of}

-- where all but the core is as it was
pub same_run : (old new : Replay) → IsSame old new → run_of new ≡ record (run_of old) { state = state_of new.world }
same_run old new same =
    let s = state_of new.world in
    ap₂ (λ (a : Asking) (w : Waiting). record { asking = a; state = s; queues = w.queues; ledger = new.ledger; round = new.round }) same.asking same.stream
    ∙ ap (λ (l : Ledger). record { asking = old.asking; state = s; queues = old.stream.queues; ledger = l; round = new.round }) same.ledger
    ∙ ap (λ (r : ℕ). record { asking = old.asking; state = s; queues = old.stream.queues; ledger = old.ledger; round = r }) same.round

-- with no reply in front nothing is released
pub none_given : (n p : ℕ) (run : Run) → front_service run.state p ≡ None → released n p run ≡ run
none_given zero p run none = refl
none_given (suc n) p run none = ap (λ o. option_map_or (λ v. released n p (released_by p run v)) o run) none

-- one more was released
pub released_more : (p : ℕ) (run next : Run) (v : Service) → front_service run.state p ≡ Some v → next ≡ released_by p run v → items_of run.state (Release p) ≡ items_of next.state (Release p) + 1
    → released (items_of next.state (Release p)) p next ≡ released (items_of run.state (Release p)) p run
released_more p run next v front is fewer =
    let n = items_of next.state (Release p) in
    let more : items_of run.state (Release p) ≡ suc n = omega (arith, fewer) in
    ap (released n p) is ∙ sym (ap (λ k. released k p run) more ∙ ap (λ o. option_map_or (λ w. released n p (released_by p run w)) o run) front)

-- all were
pub port_led : (p : ℕ) (run collected last : Run) → collected ≡ record run { state = until_refused (Collect p) run.state } → released (items_of last.state (Release p)) p last ≡ released (items_of collected.state (Release p)) p collected
    → front_service last.state p ≡ None → last ≡ port_served p run
port_led p run collected last is kept none =
    sym (none_given (items_of last.state (Release p)) p last none) ∙ kept ∙ ap (λ (r : Run). released (items_of r.state (Release p)) p r) is

-- the reply in front was released, and noted
pub front_taken : (p : ℕ) (old : Replay) (next : Kept) (v : Service) (r : Result Outcome Refusal) (a : Answer) (ledger : Ledger) → front_of (state_of old.world) p ≡ Some a → IsAnswered old.world next (Release p) r → ledger ≡ noted p v old.round old.ledger
    → record (run_of old) { state = state_of next; ledger = ledger } ≡ released_by p (run_of old) v
front_taken p old next v r a ledger front answer is =
    ap (λ (l : Ledger). record (run_of old) { state = state_of next; ledger = l }) is
    ∙ ap (λ (t : Step). record (run_of old) { state = after_step (state_of old.world) t; ledger = noted p v old.round old.ledger }) (sym (front_answered old.world next p r a front answer).1)

-- and one request fewer is outstanding

abbrev IsReleased : Step → Type 0
IsReleased (Ok m) = (number : ℕ) × (m.outcome ≡ outcome.Released number)
IsReleased (Err cause) = Unit {0}

release_releases : (s : State) (p : ℕ) → IsReleased (release s p)
release_releases s p = at_port_has IsReleased s p (release_by s p) (slice_get s.ports p) refl tt (λ port there.
    maybe_has IsReleased (λ number. made (with_port p (after_release port) s) (outcome.Released number)) (Err refusal.Nothing) (front_number port.core.reorder) tt (λ number front. (number, refl)))

fewer_by : (s next : State) (p : ℕ) (o : Outcome) → step s (Release p) ≡ made next o → outstanding s ≡ outstanding next + 1
fewer_by s next p o is =
    let released : (number : ℕ) × (o ≡ outcome.Released number) = subst IsReleased is (release_releases s p) in
    subst (λ (x : Outcome). Counted (Release p) (outstanding s) x (outstanding next)) released.1 (made_counts s next (Release p) o is)

pub one_fewer : (k next : Kept) (p : ℕ) (r : Result Outcome Refusal) (a : Answer) → front_of (state_of k) p ≡ Some a → IsAnswered k next (Release p) r → outstanding (state_of k) ≡ outstanding (state_of next) + 1
one_fewer k next p r a front answer =
    let answered = front_answered k next p r a front answer in
    fewer_by (state_of k) (state_of next) p answered.0 answered.1
