-- The seats of a run's threads, before and afterwards.
use Rattle.std.proofs.Common.{◌≡◌, ℕ, zero, suc, ◌+◌, ◌<◌, List, [], ◌∷◌, ◌++◌, length, take, drop, get_or, Option, None, Some, Result, Ok, Err, IfErr, IfOk, true, slice_get, refl, sym, ap, subst, ◌∙◌, slice_index_or, string_bytes, arith}
use Rattle.std.specs.List.{cons_option, filter_map, fold}
use Rattle.std.specs.Option.{option_to_list}
use Rattle.std.proofs.Math.Seq.{take-append_seam}
use Rattle.std.proofs.lemmas.List.{take_more}
use Rattle.std.proofs.lemmas.List.Elements.{filter_map-append}
use Rattle.std.proofs.lemmas.List.Sums.{fold-append}
use Rattle.ddr_workers.specs.Closing.{AreMatched}
use Rattle.ddr_workers.specs.Port.{PortState, IsEndOfPort}
use Rattle.ddr_workers.specs.declared.worker.Stopped.{Stopped}
use Rattle.ddr_timing.specs.declared.units.TheConstants.{CLOCK_STOP}
use Rattle.std.proofs.lemmas.Bool.{false≢true}
use Rattle.ddr_workers.specs.declared.worker.Cause.{Cause}
use Rattle.ddr_workers.specs.declared.worker.Cause.TheVariants as causes
use Rattle.ddr_run.specs.Started.{comes_from_start}
use Rattle.ddr_workers.specs.Worker.{WorkerState, WorkerEnded, IsEndOf, IsSameWorker}
use Rattle.ddr_run.specs.declared.flag.Stop.{Stop}
use Rattle.ddr_run.specs.declared.flag.Stop.TheVariants as stops
use Rattle.ddr_run.specs.declared.hosting.Hosted.{Hosted}
use Rattle.ddr_run.specs.declared.threads.Seat.{Seat}
use Rattle.ddr_run.specs.declared.threads.Seat.TheVariants as seats
use Rattle.ddr_run.specs.Hosting.{AreAsked, IsNewPort, asks_of, replies_text}
use Rattle.ddr_text.specs.Script.{Instruction}
use Rattle.ddr_run.specs.Threads.{AreNewPorts, HasLeft, IsHostedFrom, IsNewSeat, Serves, cause_after, ended_in, first_cause, hosted_in, port_seats, seat_after, seats_of, stop_in, stop_of}

pub hosted_from : (instructions : List Instruction) (number : ℕ) (port : PortState) (h : Hosted) → port.core.port ≡ number → IsEndOfPort port h.end → AreAsked port.core.geometry number (asks_of number instructions) h.end
    → string_bytes h.text ≡ replies_text number h.end.completions.took h.end.taken → IsHostedFrom instructions port h
hosted_from instructions number port h numbered end asked text =
    let same : number ≡ h.end.port = sym (end.port ∙ numbered) in record {
      end = end;
      asked = subst (λ n. AreAsked port.core.geometry n (asks_of n instructions) h.end) same asked;
      text = text ∙ ap (λ n. replies_text n h.end.completions.took h.end.taken) same;
    }

-- a thread that never served its seat
none_left : (worker : WorkerState) (stop : Stop) → comes_from_start stop ≡ true → HasLeft worker stop
none_left worker stops.Told start = tt
none_left worker stops.OutOfMemory start = tt
none_left worker stops.ClockSpent start = absurd (false≢true start)
none_left worker stops.PortBroken start = tt
none_left worker stops.ThreadsRefused start = tt

pub not_served : (instructions : List Instruction) (seat : Seat) (stop : Stop) → comes_from_start stop ≡ true → IsNewSeat seat → Serves instructions seat (seats.Stopped stop)
not_served instructions (seats.Port number port) stop start new = tt
not_served instructions (seats.Worker worker) stop start new = none_left worker stop start
not_served instructions (seats.PortEnd hosted) stop start new = absurd new
not_served instructions (seats.WorkerEnd end) stop start new = absurd new
not_served instructions (seats.Stopped cause) stop start new = absurd new

-- what a worker's thread leaves
pub worker_served : (instructions : List Instruction) (worker : WorkerState) (worked : Result WorkerEnded Stopped) (after : Seat) → after ≡ seat_after worked → IfOk worked (IsEndOf worker)
    → IfErr worked (λ s. IsSameWorker worker s.worker) → IfErr worked (λ s. s.cause ≡ causes.ClockSpent → s.worker.channel.now ≡ CLOCK_STOP) → Serves instructions (seats.Worker worker) after
worker_served instructions worker (Ok end) after is ended same spent = subst (Serves instructions (seats.Worker worker)) (sym is) ended
worker_served instructions worker (Err left) after is ended same spent =
    subst (Serves instructions (seats.Worker worker)) (sym is) (by_cause left.cause spent)
  where
    by_cause : (cause : Cause) → (cause ≡ causes.ClockSpent → left.worker.channel.now ≡ CLOCK_STOP) → HasLeft worker (stop_of cause)
    by_cause causes.OutOfMemory clock = tt
    by_cause causes.ClockSpent clock = (left.worker, same, clock refl)
    by_cause causes.Told clock = tt

-- ---- before

new_from : (first : ℕ) (ports : List PortState) → ((k : ℕ) (p : PortState) → slice_get ports k ≡ Some p → IsNewPort (first + k) p) → (k : ℕ) (s : Seat) → slice_get (port_seats first ports) k ≡ Some s → IsNewSeat s
new_from first [] each k s there = cc
new_from first (p ∷ ports) each zero s there =
    let same : seats.Port first p ≡ s = cc in
    let number : first + 0 ≡ first = omega arith in
    subst IsNewSeat same (subst (λ n. IsNewPort n p) number (each 0 p refl))
new_from first (p ∷ ports) each (suc k) s there =
    new_from (first + 1) ports (λ n q is. let number : first + suc n ≡ first + 1 + n = omega arith in subst (λ m. IsNewPort m q) number (each (suc n) q is)) k s there

pub new_seats : (ports : List PortState) (workers : List WorkerState) → AreNewPorts ports → (k : ℕ) (s : Seat) → slice_get (seats_of ports workers) k ≡ Some s → IsNewSeat s
new_seats ports [] new k s there =
    new_from 0 ports (λ n p is. let number : n ≡ 0 + n = omega arith in subst (λ m. IsNewPort m p) number (new n p is)) k s there
new_seats ports (w ∷ workers) new zero s there = let same : seats.Worker w ≡ s = cc in subst IsNewSeat same tt
new_seats ports (w ∷ workers) new (suc k) s there = new_seats ports workers new k s there

-- ---- afterwards

-- one seat more, where the first cause is looked for
pub cause_more : (k : ℕ) (x : Seat) (all : List Seat) → k < length all → x ≡ get_or all k x → first_cause (filter_map stop_in (take (k + 1) all)) ≡ fold cause_after (first_cause (filter_map stop_in (take k all))) (option_to_list (stop_in x))
cause_more k x all within is =
    let before = filter_map stop_in (take k all) in
    ap (λ xs. first_cause (filter_map stop_in xs)) (take_more all k x within ∙ ap (λ y. take k all ++ y ∷ []) (sym is)) ∙ ap first_cause (filter_map-append stop_in (take k all) (x ∷ []))
    ∙ fold-append cause_after None before (filter_map stop_in (x ∷ [])) ∙ ap (fold cause_after (first_cause before)) (one (stop_in x))
  where
    one : (o : Option Stop) → cons_option o [] ≡ option_to_list o
    one (Some stop) = refl
    one None = refl

-- what holds at each place
from_places : {X : Type 0} (R : X → X → Type 0) (xs ys : List X) → length ys ≡ length xs → ((i : ℕ) (d : X) → i < length xs → R (slice_index_or xs i d) (slice_index_or ys i d)) → AreMatched R xs ys
from_places R [] [] same each = tt
from_places R (x ∷ xs) (y ∷ ys) same each = (each 0 x (omega arith), from_places R xs ys (omega (arith, same)) (λ i d below. each (suc i) d (omega (arith, below))))
from_places R [] (y ∷ ys) same each = absurd (omega (arith, same))
from_places R (x ∷ xs) [] same each = absurd (omega (arith, same))

-- the same, as a vector has the seats back
pub served_back : (instructions : List Instruction) (first new items : List Seat) {old : List Seat} (n : ℕ) → old ≡ first → n ≡ length new → length new ≡ length old → ((i : ℕ) (d : Seat) → i < length old → Serves instructions (slice_index_or old i d) (slice_index_or new i d))
    → AreMatched (Serves instructions) first (take n (new ++ drop (length new) items))
served_back instructions first new items {old} n were whole same serves =
    let rest = drop (length new) items in
    subst (AreMatched (Serves instructions) first) (sym (ap (λ m. take m (new ++ rest)) whole ∙ take-append_seam new rest))
    (subst (λ (xs : List Seat). AreMatched (Serves instructions) xs new) were (from_places (Serves instructions) old new same serves))

some_stays : (cause : Stop) (more : List Stop) → fold cause_after (Some cause) more ≡ None → ⊥
some_stays cause [] none = cc
some_stays stops.Told (stop ∷ more) none = some_stays stop more none
some_stays stops.OutOfMemory (stop ∷ more) none = some_stays stops.OutOfMemory more none
some_stays stops.ClockSpent (stop ∷ more) none = some_stays stops.ClockSpent more none
some_stays stops.PortBroken (stop ∷ more) none = some_stays stops.PortBroken more none
some_stays stops.ThreadsRefused (stop ∷ more) none = some_stays stops.ThreadsRefused more none

pub none_stopped : (causes : List Stop) → first_cause causes ≡ None → causes ≡ []
none_stopped [] none = refl
none_stopped (stop ∷ more) none = absurd (some_stays stop more none)

ports_ended : (instructions : List Instruction) (first : ℕ) (ports : List PortState) (after : List Seat) → AreMatched (Serves instructions) (port_seats first ports) after → filter_map stop_in after ≡ []
    → AreMatched (IsHostedFrom instructions) ports (filter_map hosted_in after) × (filter_map ended_in after ≡ [])
ports_ended instructions first [] [] m none = (tt, refl)
ports_ended instructions first [] (s ∷ after) m none = absurd m
ports_ended instructions first (p ∷ ports) [] m none = absurd m
ports_ended instructions first (p ∷ ports) (seats.PortEnd hosted ∷ after) m none = (let rest = ports_ended instructions (first + 1) ports after m.1 none in ((m.0, rest.0), rest.1))
ports_ended instructions first (p ∷ ports) (seats.Stopped stop ∷ after) m none = cc
ports_ended instructions first (p ∷ ports) (seats.Port number port ∷ after) m none = absurd m.0
ports_ended instructions first (p ∷ ports) (seats.Worker worker ∷ after) m none = absurd m.0
ports_ended instructions first (p ∷ ports) (seats.WorkerEnd end ∷ after) m none = absurd m.0

pub all_ended : (instructions : List Instruction) (ports : List PortState) (workers : List WorkerState) (after : List Seat) → AreMatched (Serves instructions) (seats_of ports workers) after → filter_map stop_in after ≡ []
    → AreMatched (IsHostedFrom instructions) ports (filter_map hosted_in after) × AreMatched IsEndOf workers (filter_map ended_in after)
all_ended instructions ports [] after m none =
    let rest = ports_ended instructions 0 ports after m none in (rest.0, subst (AreMatched IsEndOf []) (sym rest.1) tt)
all_ended instructions ports (w ∷ workers) [] m none = absurd m
all_ended instructions ports (w ∷ workers) (seats.WorkerEnd end ∷ after) m none = (let rest = all_ended instructions ports workers after m.1 none in (rest.0, (m.0, rest.1)))
all_ended instructions ports (w ∷ workers) (seats.Stopped stop ∷ after) m none = cc
all_ended instructions ports (w ∷ workers) (seats.Port number port ∷ after) m none = absurd m.0
all_ended instructions ports (w ∷ workers) (seats.Worker worker ∷ after) m none = absurd m.0
all_ended instructions ports (w ∷ workers) (seats.PortEnd hosted ∷ after) m none = absurd m.0
