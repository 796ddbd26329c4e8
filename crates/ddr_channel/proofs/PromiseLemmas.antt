-- What every history keeps makes the channel's promise.
use Rattle.std.proofs.Common.{◌≡◌, ℕ, zero, suc, ◌+◌, ◌<◌, ◌≤◌, List, [], ◌∷◌, ◌++◌, map, get_or, sym, subst, arith}
use Rattle.std.specs.List.{AllByRecursion}
use Rattle.std.specs.List.Sorted.{IsStrictlyIncreasing}
use Rattle.ddr_timing.specs.declared.config.Config.{Config}
use Rattle.ddr_address_map.specs.Requests.{Completion}
use Rattle.ddr_channel.specs.History.{Call, History, run}
use Rattle.ddr_channel.specs.Promise.{completions_of, KeepsPromise, AreCalls}
use Rattle.ddr_channel.specs.Sound.{AreDue}
use Rattle.ddr_channel.proofs.HistoryLemmas.{IsKept, kept_run}
use Rattle.ddr_channel.proofs.SoundLemmas.{due_from}

AreDue-join : (first now : ℕ) (xs ys : List Completion) → first ≤ now → AreDue first xs → AllByRecursion (λ d. d.due < now) xs → AreDue now ys → AreDue first (xs ++ ys)
AreDue-join first now [] ys low due finished later = due_from now first ys low later
AreDue-join first now (x ∷ xs) ys low due finished later = (due.0, AreDue-join (x.due + 1) now xs ys (omega arith) due.1 finished.1 later)

increasing : (first : ℕ) (ds : List Completion) → AreDue first ds → IsStrictlyIncreasing (map (λ d. d.due) ds)
increasing first [] due k below = absurd (omega arith)
increasing first (d ∷ []) due k below = absurd (omega arith)
increasing first (d ∷ e ∷ es) due zero below =
    let next : 0 + 1 ≡ suc 0 = omega arith in
    subst (λ n. d.due < get_or (map (λ c. c.due) (d ∷ e ∷ es)) n 0) (sym next) (omega arith)
increasing first (d ∷ e ∷ es) due (suc k) below =
    let next : suc k + 1 ≡ suc (k + 1) = omega arith in
    subst (λ n. get_or (map (λ c. c.due) (d ∷ e ∷ es)) (suc k) 0 < get_or (map (λ c. c.due) (d ∷ e ∷ es)) n 0) (sym next) (increasing (d.due + 1) (e ∷ es) due.1 k (omega arith))

-- what is due one after another is due from the first cycle on
all_due : (first : ℕ) (ds : List Completion) → AreDue first ds → AllByRecursion (λ d. first ≤ d.due) ds
all_due first [] due = tt
all_due first (d ∷ ds) due = (due.0, all_due first ds (due_from (d.due + 1) first ds (omega arith) due.1))

-- what every history keeps makes the promise
pub promise_from_kept : (config : Config) (start : ℕ) (h : History) → IsKept config start h → KeepsPromise h
promise_from_kept config start h kept =
    let k = kept.keeps in
    let s = h.state in
    record {
      each_once = k.each_once;
      pending = k.pending;
      oldest_first = k.oldest_first;
      commands = k.commands;
      answers = k.answers;
      in_order = increasing 0 (completions_of h) (AreDue-join 0 s.now (h.popped ++ s.done) s.flight (omega arith) k.ended k.finished k.due);
      complete = k.finished;
      awaited = all_due s.now s.flight k.due;
      promise = k.promise;
      memory = k.memory;
      legal = kept.sound.legal;
    }

-- the channel's promise, over every list of calls
pub promise_kept : (config : Config) (start : ℕ) (calls : List Call) → AreCalls config calls → KeepsPromise (run config start calls)
promise_kept config start calls may = promise_from_kept config start (run config start calls) (kept_run config start calls may)
