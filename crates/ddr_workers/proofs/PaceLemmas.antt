-- How many cycles a worker made without work, and how many pushes were refused to it.
use Rattle.std.proofs.Common.{◌≡◌, ℕ, ◌+◌, ◌<◌, ◌≤◌, Bool, true, false, cond, eqb, eq-eqb, List, [], ◌∷◌, ◌++◌, length, drop, set, Option, Some, None, slice_get, refl, sym, ap, ap₂, ◌∙◌, arith}
use Rattle.std.specs.List.{fold, filter}
use Rattle.std.specs.Option.{option_map_or, option_to_list}
use Rattle.std.proofs.lemmas.Bool.{eqb-true, false≢true}
use Rattle.std.proofs.lemmas.List.{append-nil, length-append}
use Rattle.ddr_address_map.specs.Requests.{Completion}
use Rattle.ddr_arbiter.specs.Laws.{command_of}
use Rattle.ddr_arbiter.specs.declared.choice.Choice.{Choice}
use Rattle.ddr_channel.specs.Choice.{choice_of}
use Rattle.ddr_channel.specs.Cycle.{at_choice, recorded, issued, after_cycle}
use Rattle.ddr_channel.specs.History.{Call, History, begun, after_call}
use Rattle.ddr_channel.specs.Kept as kept
use Rattle.ddr_channel.specs.Kept.{Kept}
use Rattle.ddr_channel.specs.Sound.{AreDue}
use Rattle.ddr_channel.specs.State.{State, after_pop}
use Rattle.ddr_channel.proofs.HeldLemmas.{sum_replaced}
use Rattle.ddr_channel.proofs.HistoryLemmas.{served_alike}
use Rattle.ddr_channel.proofs.SoundLemmas.{none_due, due_now, due_later}
use Rattle.ddr_workers.specs.declared.completions.Delivery.{Delivery}
use Rattle.ddr_workers.specs.Sides.{PutSide, after_push, after_full, changed_at}
use Rattle.ddr_workers.specs.Worker.{IsIdle, is_without_work, refused_pushes, unused, unused_cycles}
use Rattle.ddr_workers.specs.WorkerView.{history_of}
use Rattle.ddr_workers.proofs.ChangedLemmas.{some_there}

abbrev Side : Type 0
Side = PutSide Delivery Completion

-- one more call

unused_more : (h : History) (calls : List Call) (call : Call) → unused_cycles h (calls ++ call ∷ []) ≡ unused_cycles h calls + unused (fold after_call h calls) call
unused_more h [] call = omega arith
unused_more h (first ∷ later) call = omega (arith, unused_more (after_call h first) later call)

pub unused_next : (k k' : Kept) (calls : List Call) (call : Call) → k'.config ≡ k.config → k'.start ≡ k.start
    → unused_cycles (begun k'.config k'.start) (calls ++ call ∷ []) ≡ unused_cycles (begun k.config k.start) calls + unused (history_of k calls) call
unused_next k k' calls call config start = ap (λ h. unused_cycles h (calls ++ call ∷ [])) (ap₂ begun config start) ∙ unused_more (begun k.config k.start) calls call

-- the first of the completions that are done was taken
pub first_taken : {X : Type 0} (xs : List X) → length (drop 1 xs) + length (option_to_list (slice_get xs 0)) ≡ length xs
first_taken [] = refl
first_taken (x ∷ xs) = omega arith

none_first : {X : Type 0} (xs : List X) → slice_get xs 0 ≡ None → xs ≡ []
none_first [] none = refl
none_first (x ∷ xs) none = cc

pub none_left : (k k' : Kept) (o : Option Completion) → o ≡ slice_get k.done 0 → kept.state_of k' ≡ after_pop (kept.state_of k) → o ≡ None → k'.done ≡ []
none_left k k' o first rest none = ap (λ (s : State). s.done) rest ∙ ap (drop 1) (none_first k.done (sym first ∙ none))

-- a push, and one that was refused

pushed_at : (d : Completion) (place : ℕ) (sides : List Side) (o : Option Side) → slice_get sides place ≡ o → refused_pushes (option_map_or (λ side. set sides place (after_push side d)) o sides) ≡ refused_pushes sides
pushed_at d place sides None is = refl
pushed_at d place sides (Some side) is = omega (arith, sum_replaced (λ (s : Side). s.full) sides place side (after_push side d) is)

pub refused_pushed : (d : Completion) (place : ℕ) (sides : List Side) → refused_pushes (changed_at place (λ side. after_push side d) sides) ≡ refused_pushes sides
refused_pushed d place sides = pushed_at d place sides (slice_get sides place) refl

full_at : (place : ℕ) (sides : List Side) (side : Side) (o : Option Side) → slice_get sides place ≡ o → o ≡ Some side → refused_pushes (option_map_or (λ s. set sides place (after_full s)) o sides) ≡ refused_pushes sides + 1
full_at place sides side None is there = cc
full_at place sides side (Some s) is there = omega (arith, sum_replaced (λ (t : Side). t.full) sides place s (after_full s) is)

pub refused_full : (place : ℕ) (sides : List Side) → place < length sides → refused_pushes (changed_at place after_full sides) ≡ refused_pushes sides + 1
refused_full place sides within = let side = some_there sides place within in full_at place sides side.0 (slice_get sides place) refl side.1

-- in a cycle at most one completion is due

few_first : (now : ℕ) (d : Completion) (ds : List Completion) (b : Bool) → eqb d.due now ≡ b → AreDue now (d ∷ ds) → length (filter (λ e. eqb e.due now) (d ∷ ds)) ≤ 1
few_first now d ds true here due = omega (arith, ap length (due_now now d ds due (eqb-true d.due now here)).0)
few_first now d ds false later due = omega (arith, ap length (none_due now (d ∷ ds) (due_later now d ds due (λ same. false≢true (sym later ∙ eq-eqb d.due now same)))).0)

few_due : (now : ℕ) (ds : List Completion) → AreDue now ds → length (filter (λ d. eqb d.due now) ds) ≤ 1
few_due now [] due = omega arith
few_due now (d ∷ ds) due = few_first now d ds (eqb d.due now) refl due

done_issued : (c : Choice) (s : State) → (issued c s).done ≡ s.done
done_issued c s = served_alike (λ t. t.done) (λ t place r. refl) c (recorded (command_of s.pending c) s)

done_after : (s : State) → (after_cycle s).done ≡ s.done ++ filter (λ d. eqb d.due s.now) s.flight
done_after s = done_issued (choice_of (at_choice s)) (at_choice s)

no_length : {X : Type 0} (xs : List X) → length xs ≡ 0 → xs ≡ []
no_length [] none = refl
no_length (x ∷ xs) none = absurd (omega (arith, none))

some_length : {X : Type 0} (xs : List X) → (xs ≡ [] → ⊥) → 0 < length xs
some_length [] some = absurd (some refl)
some_length (x ∷ xs) some = omega arith

abbrev now_unused : State → ℕ
now_unused s = cond (is_without_work s) 1 0

-- After a cycle: it was without work only where a completion that is done waits, and else at most one more is done
pub record IsPaced (s : State) (n held refused : ℕ) : Type 0 where
  pub cycles : n + now_unused s ≤ refused
  pub left : n + now_unused s + (length (after_cycle s).done + held) ≤ refused + 1

paced_by : (s : State) (n held refused : ℕ) (b : Bool) → is_without_work s ≡ b → AreDue s.now s.flight → (IsIdle s → ⊥) → n + (length s.done + held) ≤ refused → IsPaced s n held refused
paced_by s n held refused true without due busy tried =
    let none = eqb-true (length s.pending + length s.flight) 0 without in
    let pending = no_length s.pending (omega (arith, none)) in
    let flight = no_length s.flight (omega (arith, none)) in
    let waits = some_length s.done (λ done. busy (pending, flight, done)) in
    let one : now_unused s ≡ 1 = ap (λ b. cond b 1 0) without in
    let same : length (after_cycle s).done ≡ length s.done = ap length (done_after s ∙ ap (λ ds. s.done ++ filter (λ (d : Completion). eqb d.due s.now) ds) flight ∙ append-nil s.done) in
    record { cycles = omega (arith, tried, waits, one); left = omega (arith, tried, same, one) }
paced_by s n held refused false without due busy tried =
    let none : now_unused s ≡ 0 = ap (λ b. cond b 1 0) without in
    let more : length (after_cycle s).done ≡ length s.done + length (filter (λ (d : Completion). eqb d.due s.now) s.flight) = ap length (done_after s) ∙ length-append s.done (filter (λ (d : Completion). eqb d.due s.now) s.flight) in
    record { cycles = omega (arith, tried, none); left = omega (arith, tried, more, none, few_due s.now s.flight due) }

pub paced : (s : State) (n held refused : ℕ) → AreDue s.now s.flight → (IsIdle s → ⊥) → n + (length s.done + held) ≤ refused → IsPaced s n held refused
paced s n held refused due busy tried = paced_by s n held refused (is_without_work s) refl due busy tried
