-- What every history keeps, call by call.
use Rattle.std.proofs.Common.{◌≡◌, ℕ, zero, suc, ◌+◌, ◌<◌, ◌≤◌, Bool, true, false, not, cond, eqb, List, [], ◌∷◌, ◌++◌, Option, Some, None, map, length, take, drop, get_or, refl, sym, ap, ap₂, subst, ◌∙◌, ◌⊎◌, inl, inr, arith}
use Rattle.std.specs.List.{AllByRecursion, AllPairs, filter, list_any, slice_get, remove, range_with_len, fold}
use Rattle.std.specs.List.Sorted.{IsPermutation}
use Rattle.std.specs.Option.{option_map, option_map_or}
use Rattle.std.proofs.lemmas.Bool.{cases_eq, cases_Bool, cases_order, true≢false}
use Rattle.std.proofs.lemmas.List.{append_assoc, append-nil, length_push, length-map, map-append, take_at, take-append-le, take-append-drop, take-map}
use Rattle.std.proofs.lemmas.List.Elements.{filter-append}
use Rattle.std.proofs.lemmas.List.Quantifiers.{all_pairs_remove, all_pairs_push}
use Rattle.std.proofs.lemmas.List.Sorted.{IsPermutation-refl, IsPermutation-more, IsPermutation-append_left}
use Rattle.std.proofs.lemmas.Option.{slice_get_within, get_or_from_slice_get}
use Rattle.circular_buffer.proofs.Places.{slice_get-append_left, slice_get-append_right}
use Rattle.ddr_timing.specs.declared.config.Config.{Config}
use Rattle.ddr_timing.specs.declared.units.TheConstants.{CLOCK_STOP}
use Rattle.ddr_trace.specs.declared.command.Command.{Command}
use Rattle.ddr_trace.specs.declared.command.Entry.{Entry}
use Rattle.ddr_trace.specs.Commands.{entry, is_column}
use Rattle.ddr_address_map.specs.declared.place.Place.{Place}
use Rattle.ddr_address_map.specs.Requests.{Request, Completion}
use Rattle.ddr_hazards.specs.declared.waiting.Waiting.{Waiting}
use Rattle.ddr_hazards.specs.Hazards as hazards
use Rattle.ddr_arbiter.specs.declared.choice.Choice.{Choice}
use Rattle.ddr_arbiter.specs.declared.choice.Choice.TheVariants as choice
use Rattle.ddr_arbiter.specs.Commands.{activate_at, precharge_at, column_of}
use Rattle.ddr_arbiter.specs.Laws.{command_of, IsLawful}
use Rattle.ddr_arbiter.proofs.LawLemmas.{choice_lawful}
use Rattle.ddr_channel.specs.Choice.{situation_of, choice_of}
use Rattle.ddr_channel.specs.Cycle.{at_choice, recorded, completion_at, completion_of, cells_after, served, served_at, served_by, issued, ticked, after_cycle}
use Rattle.ddr_channel.specs.History.{Call, Admit, Cycle, Pop, Owner, History, begun, owned, with_owner, after_call, run}
use Rattle.ddr_channel.specs.Memory.{LineAddress, line_of, is_same_line, line_over, line_after}
use Rattle.ddr_channel.specs.Promise.{answer_to, right_answer, owned_entry, requests_of, completions_of, MayCall, AreCalls}
use Rattle.ddr_channel.specs.Sound.{IsServed, AreDue, IsSound}
use Rattle.ddr_channel.specs.State.{State, after_admit, after_pop, is_queue_full}
use Rattle.ddr_channel.proofs.LegalNowLemmas.{column_is}
use Rattle.ddr_channel.proofs.ListLemmas.{slice_get-remove_before, slice_get-remove_behind, get_or-remove_before, get_or-remove_behind, take-remove_before, takes_both, split_at, map-remove, All-implies, All-last, All-taken, at_map, mapped_at, list_any-none_at, neither}
use Rattle.ddr_channel.proofs.MemoryLemmas.{same_parts, itself, line_over-append, line_over-line_after, serve_line, line_kept, IsFormed, formed_after, NoneTo}
use Rattle.ddr_channel.proofs.SoundLemmas.{IsSound-opened, IsSound-after_cycle, IsSound-after_admit, IsSound-after_pop, due_now, due_later, due_after, none_due, AreDue-append}

-- what a pending request would read is what the requests that were admitted before it leave
abbrev pub PromisesAt : History → ℕ → Request → Type 0
PromisesAt h place r =
    line_over (h.state.cells (line_of r.place)) (take place (requests_of h.state.pending)) (line_of r.place)
    ≡ line_after (take (get_or h.waiting place 0) h.accepted) (line_of r.place)

-- What a history keeps. Completions stand in the order of their dues, those that are done before the cycle `next`.
pub record Keeps (next : ℕ) (h : History) : Type 0 where
  pub each_once : IsPermutation (range_with_len 0 (length h.accepted)) (map (λ o. o.place) h.owners ++ h.waiting)
  pub pending : map Some (requests_of h.state.pending) ≡ map (slice_get h.accepted) h.waiting
  pub below : AllByRecursion (λ n. n < length h.accepted) h.waiting
  pub oldest_first : AllPairs ◌<◌ h.waiting
  pub placed : AllByRecursion (λ o. o.place < length h.accepted) h.owners
  pub formed : (address : LineAddress) → IsFormed (h.state.cells address)
  pub promise : (place : ℕ) (r : Request) → slice_get (requests_of h.state.pending) place ≡ Some r → PromisesAt h place r
  pub memory : (address : LineAddress) → line_over (h.state.cells address) (requests_of h.state.pending) address ≡ line_after h.accepted address
  pub commands : map Some (filter (λ e. is_column e.command) h.state.trace) ≡ map (owned_entry h.accepted) h.owners
  pub answers : map Some (completions_of h) ≡ map (right_answer h.state.config h.accepted) h.owners
  pub ended : AreDue 0 (h.popped ++ h.state.done)
  pub finished : AllByRecursion (λ d. d.due < next) (h.popped ++ h.state.done)
  pub due : AreDue next h.state.flight

-- as many places as pending requests
pub waiting_length : (next : ℕ) (h : History) → Keeps next h → length h.waiting ≡ length h.state.pending
waiting_length next h k =
    sym (length-map h.waiting (slice_get h.accepted)) ∙ sym (ap length k.pending) ∙ length-map (requests_of h.state.pending) Some ∙ length-map h.state.pending (λ w. w.request)

-- the pending request at a place was admitted at the place that is kept for it
pub accepted_at : (next : ℕ) (h : History) (place : ℕ) (r : Request) → Keeps next h → slice_get (requests_of h.state.pending) place ≡ Some r →
    (n : ℕ) × (slice_get h.waiting place ≡ Some n) × (slice_get h.accepted n ≡ Some r)
accepted_at next h place r k here =
    at_map (slice_get h.accepted) h.waiting place (Some r) (ap (λ (os : List (Option Request)). slice_get os place) (sym k.pending) ∙ mapped_at Some (requests_of h.state.pending) place r here)

-- admission

map_same : {X Y : Type 0} (P : X → Type 0) (f g : X → Y) (xs : List X) → ((x : X) → P x → f x ≡ g x) → AllByRecursion P xs → map f xs ≡ map g xs
map_same P f g [] same all = refl
map_same P f g (x ∷ xs) same all = ap₂ ◌∷◌ (same x all.0) (map_same P f g xs same all.1)

entry_kept : (accepted : List Request) (r : Request) (o : Owner) → o.place < length accepted → owned_entry accepted o ≡ owned_entry (accepted ++ r ∷ []) o
entry_kept accepted r o placed = ap (option_map (λ q. entry o.cycle (column_of o.auto q))) (sym (slice_get-append_left accepted (r ∷ []) o.place placed))

answer_kept : (config : Config) (accepted : List Request) (r : Request) (o : Owner) → o.place < length accepted → right_answer config accepted o ≡ right_answer config (accepted ++ r ∷ []) o
answer_kept config accepted r o placed =
    ap (λ (before : List Request). option_map (λ q. completion_at config o.cycle (line_after before (line_of q.place)) q) (slice_get accepted o.place)) (sym (take-append-le o.place accepted (r ∷ []) (omega arith)))
    ∙ ap (option_map (answer_to config (accepted ++ r ∷ []) o)) (sym (slice_get-append_left accepted (r ∷ []) o.place placed))

range_more : (a n : ℕ) → range_with_len a n ++ (a + n) ∷ [] ≡ range_with_len a (n + 1)
range_more a zero = ap (λ k. k ∷ []) (omega arith)
range_more a (suc n) =
    let next : a + suc n ≡ (a + 1) + n = omega arith in
    let more : suc n + 1 ≡ suc (n + 1) = omega arith in
    ap (λ k. a ∷ (range_with_len (a + 1) n ++ k ∷ [])) next ∙ ap (λ (ks : List ℕ). a ∷ ks) (range_more (a + 1) n) ∙ ap (range_with_len a) (sym more)

each_once_more : (accepted : List Request) (r : Request) (owned waiting : List ℕ) → IsPermutation (range_with_len 0 (length accepted)) (owned ++ waiting) →
    IsPermutation (range_with_len 0 (length (accepted ++ r ∷ []))) (owned ++ (waiting ++ length accepted ∷ []))
each_once_more accepted r owned waiting each =
    let n = length accepted in
    let from : range_with_len 0 n ++ n ∷ [] ≡ range_with_len 0 (length (accepted ++ r ∷ [])) =
    let zero_more : n ≡ 0 + n = omega arith in
    ap (λ m. range_with_len 0 n ++ m ∷ []) zero_more ∙ range_more 0 n ∙ ap (range_with_len 0) (sym (length_push accepted r)) in
    subst (λ (xs : List ℕ). IsPermutation xs (owned ++ (waiting ++ n ∷ []))) from
    (subst (IsPermutation (range_with_len 0 n ++ n ∷ [])) (append_assoc owned waiting (n ∷ []))
    (IsPermutation-append_left (n ∷ []) (range_with_len 0 n) (owned ++ waiting) each))

-- what one more request leaves in a line
one_after : (bytes : List ℕ) (pending accepted : List Request) (r : Request) (address : LineAddress) → line_over bytes pending address ≡ line_after accepted address →
    line_over bytes (pending ++ r ∷ []) address ≡ line_after (accepted ++ r ∷ []) address
one_after bytes pending accepted r address same =
    sym (line_over-append bytes pending (r ∷ []) address) ∙ ap (λ (line : List ℕ). line_over line (r ∷ []) address) same ∙ line_over-line_after accepted (r ∷ []) address

-- the admitted one is the youngest, and it is promised what all others leave
promise_admitted : (next : ℕ) (h : History) (r : Request) → Keeps next h → (place : ℕ) (q : Request) → slice_get (requests_of h.state.pending ++ r ∷ []) place ≡ Some q →
    line_over (h.state.cells (line_of q.place)) (take place (requests_of h.state.pending ++ r ∷ [])) (line_of q.place)
    ≡ line_after (take (get_or (h.waiting ++ length h.accepted ∷ []) place 0) (h.accepted ++ r ∷ [])) (line_of q.place)
promise_admitted next h r k place q here = elim (cases_order place (length (requests_of h.state.pending))) [
  | inl last ↦
      let reqs = requests_of h.state.pending in
      let many : length h.waiting ≡ place = waiting_length next h k ∙ sym (length-map h.state.pending (λ w. w.request)) ∙ sym last in
      let all : take place (reqs ++ r ∷ []) ≡ reqs = take_at reqs (r ∷ []) place (sym last) in
      let at_end : slice_get (h.waiting ++ length h.accepted ∷ []) place ≡ Some (length h.accepted) = ap (slice_get (h.waiting ++ length h.accepted ∷ [])) (sym many ∙ omega arith) ∙ slice_get-append_right h.waiting (length h.accepted ∷ []) (length h.waiting) 0 (omega arith) in
      let is_last : get_or (h.waiting ++ length h.accepted ∷ []) place 0 ≡ length h.accepted = get_or_from_slice_get (h.waiting ++ length h.accepted ∷ []) place (length h.accepted) 0 at_end in
      ap (λ (xs : List Request). line_over (h.state.cells (line_of q.place)) xs (line_of q.place)) all
      ∙ k.memory (line_of q.place)
      ∙ ap (λ (xs : List Request). line_after xs (line_of q.place)) (sym (ap (λ n. take n (h.accepted ++ r ∷ [])) is_last ∙ take_at h.accepted (r ∷ []) (length h.accepted) refl))
  | inr (inl before) ↦
      let reqs = requests_of h.state.pending in
      let here' : slice_get reqs place ≡ Some q = sym (slice_get-append_left reqs (r ∷ []) place before) ∙ here in
      let at = accepted_at next h place q k here' in
      let small : at.0 < length h.accepted = slice_get_within h.accepted at.0 q at.2 in
      let old : get_or h.waiting place 0 ≡ at.0 = get_or_from_slice_get h.waiting place at.0 0 at.1 in
      let new : get_or (h.waiting ++ length h.accepted ∷ []) place 0 ≡ at.0 =
      get_or_from_slice_get (h.waiting ++ length h.accepted ∷ []) place at.0 0 (slice_get-append_left h.waiting (length h.accepted ∷ []) place (slice_get_within h.waiting place at.0 at.1) ∙ at.1) in
      ap (λ (xs : List Request). line_over (h.state.cells (line_of q.place)) xs (line_of q.place)) (take-append-le place reqs (r ∷ []) (omega arith))
      ∙ k.promise place q here'
      ∙ ap (λ (xs : List Request). line_after xs (line_of q.place))
      (ap (λ n. take n h.accepted) old ∙ sym (take-append-le at.0 h.accepted (r ∷ []) (omega arith)) ∙ ap (λ n. take n (h.accepted ++ r ∷ [])) (sym new))
  | inr (inr past) ↦ absurd (let within = slice_get_within (requests_of h.state.pending ++ r ∷ []) place q here in omega (arith, length_push (requests_of h.state.pending) r))
]

pub keeps_admit : (next : ℕ) (h : History) (r : Request) → Keeps next h → Keeps next (record h { state = after_admit r h.state; accepted = h.accepted ++ r ∷ []; waiting = h.waiting ++ length h.accepted ∷ [] })
keeps_admit next h r k =
    let w : Waiting = record { request = r; admitted = h.state.now } in
    let requests : requests_of (h.state.pending ++ w ∷ []) ≡ requests_of h.state.pending ++ r ∷ [] = map-append (λ v. v.request) h.state.pending (w ∷ []) in
    let last : slice_get (h.accepted ++ r ∷ []) (length h.accepted) ≡ Some r = slice_get-append_right h.accepted (r ∷ []) (length h.accepted) 0 (omega arith) in
    record {
      each_once = each_once_more h.accepted r (map (λ o. o.place) h.owners) h.waiting k.each_once;
      pending =
          ap (map Some) requests ∙ map-append Some (requests_of h.state.pending) (r ∷ [])
          ∙ ap₂ (λ (xs : List (Option Request)) (x : Option Request). xs ++ x ∷ []) (k.pending ∙ map_same (λ n. n < length h.accepted) _ _ h.waiting (λ n below. sym (slice_get-append_left h.accepted (r ∷ []) n below)) k.below) (sym last)
          ∙ sym (map-append (slice_get (h.accepted ++ r ∷ [])) h.waiting (length h.accepted ∷ []));
      below = All-last _ h.waiting (length h.accepted) (All-implies _ _ h.waiting (λ n below. omega (arith, length_push h.accepted r)) k.below) (omega (arith, length_push h.accepted r));
      oldest_first = all_pairs_push ◌<◌ h.waiting (length h.accepted) k.oldest_first (below_all h.waiting (length h.accepted) k.below);
      placed = All-implies _ _ h.owners (λ o below. omega (arith, length_push h.accepted r)) k.placed;
      formed = k.formed;
      promise = λ place q here.
          ap (λ (xs : List Request). line_over (h.state.cells (line_of q.place)) (take place xs) (line_of q.place)) requests
          ∙ promise_admitted next h r k place q (ap (λ (xs : List Request). slice_get xs place) (sym requests) ∙ here);
      memory = λ address. ap (λ (xs : List Request). line_over (h.state.cells address) xs address) requests ∙ one_after (h.state.cells address) (requests_of h.state.pending) h.accepted r address (k.memory address);
      commands = k.commands ∙ map_same (λ o. o.place < length h.accepted) _ _ h.owners (entry_kept h.accepted r) k.placed;
      answers = k.answers ∙ map_same (λ o. o.place < length h.accepted) _ _ h.owners (answer_kept h.state.config h.accepted r) k.placed;
      ended = k.ended;
      finished = k.finished;
      due = k.due;
    }
  where
    below_all : (xs : List ℕ) (n : ℕ) → AllByRecursion (λ m. m < n) xs → (i : ℕ) (d : ℕ) → i < length xs → get_or xs i d < n
    below_all [] n all i d within = absurd (omega arith)
    below_all (x ∷ xs) n all zero d within = all.0
    below_all (x ∷ xs) n all (suc i) d within = below_all xs n all.1 i d (omega arith)

-- taking a completion

pub keeps_pop : (next : ℕ) (h : History) → Keeps next h → Keeps next (record h { state = after_pop h.state; popped = h.popped ++ take 1 h.state.done })
keeps_pop next h k =
    let moved : (h.popped ++ take 1 h.state.done) ++ drop 1 h.state.done ≡ h.popped ++ h.state.done =
    append_assoc h.popped (take 1 h.state.done) (drop 1 h.state.done) ∙ ap (λ (xs : List Completion). h.popped ++ xs) (take-append-drop 1 h.state.done) in
    record {
      each_once = k.each_once;
      pending = k.pending;
      below = k.below;
      oldest_first = k.oldest_first;
      placed = k.placed;
      formed = k.formed;
      promise = k.promise;
      memory = k.memory;
      commands = k.commands;
      answers = ap (λ (xs : List Completion). map Some (xs ++ h.state.flight)) moved ∙ k.answers;
      ended = subst (AreDue 0) (sym moved) k.ended;
      finished = subst (AllByRecursion (λ d. d.due < next)) (sym moved) k.finished;
      due = k.due;
    }

-- a cycle: what comes before the choice

pub due_split : (now : ℕ) (ds : List Completion) → AreDue now ds → filter (λ d. eqb d.due now) ds ++ filter (λ d. not (eqb d.due now)) ds ≡ ds
due_split now [] due = refl
due_split now (d ∷ ds) due = elim (cases_eq d.due now) [
  | inl same ↦ let e = due_now now d ds due same in ap₂ ◌++◌ e.0 e.1
  | inr other ↦ let e = none_due now (d ∷ ds) (due_later now d ds due other) in ap₂ ◌++◌ e.0 e.1
]

ended_more : (now : ℕ) (xs ds : List Completion) → AreDue 0 xs → AllByRecursion (λ d. d.due < now) xs → AreDue now ds → AreDue 0 (xs ++ filter (λ d. eqb d.due now) ds)
ended_more now xs [] ended finished due = subst (AreDue 0) (sym (append-nil xs)) ended
ended_more now xs (d ∷ ds) ended finished due = elim (cases_eq d.due now) [
  | inl same ↦ subst (λ (ys : List Completion). AreDue 0 (xs ++ ys)) (sym (due_now now d ds due same).0)
      (AreDue-append 0 xs d ended (All-implies _ _ xs (λ e below. omega arith) finished) (omega arith))
  | inr other ↦ subst (λ (ys : List Completion). AreDue 0 (xs ++ ys)) (sym (none_due now (d ∷ ds) (due_later now d ds due other)).0) (subst (AreDue 0) (sym (append-nil xs)) ended)
]

finished_more : (now : ℕ) (xs ds : List Completion) → AllByRecursion (λ d. d.due < now) xs → AreDue now ds → AllByRecursion (λ d. d.due < now + 1) (xs ++ filter (λ d. eqb d.due now) ds)
finished_more now xs [] finished due = subst (AllByRecursion (λ d. d.due < now + 1)) (sym (append-nil xs)) (All-implies _ _ xs (λ e below. omega arith) finished)
finished_more now xs (d ∷ ds) finished due = elim (cases_eq d.due now) [
  | inl same ↦ subst (λ (ys : List Completion). AllByRecursion (λ e. e.due < now + 1) (xs ++ ys)) (sym (due_now now d ds due same).0)
      (All-last (λ e. e.due < now + 1) xs d (All-implies _ _ xs (λ e below. omega arith) finished) (omega arith))
  | inr other ↦ subst (λ (ys : List Completion). AllByRecursion (λ e. e.due < now + 1) (xs ++ ys)) (sym (none_due now (d ∷ ds) (due_later now d ds due other)).0)
      (subst (AllByRecursion (λ e. e.due < now + 1)) (sym (append-nil xs)) (All-implies _ _ xs (λ e below. omega arith) finished))
]

keeps_at_choice : (h : History) → Keeps h.state.now h → Keeps (h.state.now + 1) (record h { state = at_choice h.state })
keeps_at_choice h k =
    let now = h.state.now in
    let over = filter (λ d. eqb d.due now) h.state.flight in
    let rest = filter (λ d. not (eqb d.due now)) h.state.flight in
    let ended : h.popped ++ (h.state.done ++ over) ≡ (h.popped ++ h.state.done) ++ over = sym (append_assoc h.popped h.state.done over) in
    let all : (h.popped ++ (h.state.done ++ over)) ++ rest ≡ (h.popped ++ h.state.done) ++ h.state.flight =
    ap (λ (xs : List Completion). xs ++ rest) ended ∙ append_assoc (h.popped ++ h.state.done) over rest
    ∙ ap (λ (xs : List Completion). (h.popped ++ h.state.done) ++ xs) (due_split now h.state.flight k.due) in
    record {
      each_once = k.each_once;
      pending = k.pending;
      below = k.below;
      oldest_first = k.oldest_first;
      placed = k.placed;
      formed = k.formed;
      promise = k.promise;
      memory = k.memory;
      commands = k.commands;
      answers = ap (λ (xs : List Completion). map Some xs) all ∙ k.answers;
      ended = subst (AreDue 0) (sym ended) (ended_more now (h.popped ++ h.state.done) h.state.flight k.ended k.finished k.due);
      finished = subst (AllByRecursion (λ d. d.due < now + 1)) (sym ended) (finished_more now (h.popped ++ h.state.done) h.state.flight k.finished k.due);
      due = due_after now h.state.flight k.due;
    }

-- a cycle: a command that moves no data, or none

abbrev moves_data : Option Command → Bool
moves_data None = false
moves_data (Some c) = is_column c

no_data : (command : Waiting → Command) (o : Option Waiting) → ((w : Waiting) → is_column (command w) ≡ false) → moves_data (option_map command o) ≡ false
no_data command None row = refl
no_data command (Some w) row = row w

columns_kept : (trace : List Entry) (now : ℕ) (c : Command) → is_column c ≡ false → filter (λ e. is_column e.command) (trace ++ entry now c ∷ []) ≡ filter (λ e. is_column e.command) trace
columns_kept trace now c row =
    filter-append (λ e. is_column e.command) trace (entry now c ∷ [])
    ∙ ap (λ b. filter (λ e. is_column e.command) trace ++ cond b (entry now c ∷ []) []) row ∙ append-nil _

keeps_recorded : (next : ℕ) (h : History) (o : Option Command) → moves_data o ≡ false → Keeps next h → Keeps next (record h { state = ticked (recorded o h.state) })
keeps_recorded next h None row k = record {
  each_once = k.each_once;
  pending = k.pending;
  below = k.below;
  oldest_first = k.oldest_first;
  placed = k.placed;
  formed = k.formed;
  promise = k.promise;
  memory = k.memory;
  commands = k.commands;
  answers = k.answers;
  ended = k.ended;
  finished = k.finished;
  due = k.due;
}
keeps_recorded next h (Some c) row k = record {
  each_once = k.each_once;
  pending = k.pending;
  below = k.below;
  oldest_first = k.oldest_first;
  placed = k.placed;
  formed = k.formed;
  promise = k.promise;
  memory = k.memory;
  commands = ap (λ (xs : List Entry). map Some xs) (columns_kept h.state.trace h.state.now c row) ∙ k.commands;
  answers = k.answers;
  ended = k.ended;
  finished = k.finished;
  due = k.due;
}

-- a cycle: a column command

-- requests to one line are to the same places but for the channel and the offset
same_place : (address : LineAddress) (p q : Place) → is_same_line address (line_of p) ≡ true → is_same_line address (line_of q) ≡ true → hazards.is_same_line p q ≡ true
same_place address p q to_p to_q = subst (λ a. is_same_line a (line_of q) ≡ true) (same_parts address (line_of p) to_p) to_q

-- where no older pending request is to the line of a request, none is to that line
none_older : (older : List Waiting) (w : Waiting) → list_any (λ v. hazards.is_same_line v.request.place w.request.place) older ≡ false →
    (address : LineAddress) → is_same_line address (line_of w.request.place) ≡ true → NoneTo address (requests_of older)
none_older [] w none address same = refl
none_older (v ∷ vs) w none address same =
    let parts = neither (hazards.is_same_line v.request.place w.request.place) (list_any (λ u. hazards.is_same_line u.request.place w.request.place) vs) none in
    let elsewhere : is_same_line address (line_of v.request.place) ≡ false = elim (cases_Bool (is_same_line address (line_of v.request.place))) [
      | inl to_v ↦ absurd (true≢false (sym (same_place address v.request.place w.request.place to_v same) ∙ parts.0))
      | inr not_to_v ↦ not_to_v
    ] in
    rw elsewhere (none_older vs w parts.1 address same)

-- what serves a request: it is pending, and no older one is to its line
pub record Serves (h : History) (place : ℕ) (w : Waiting) : Type 0 where
  pub here : slice_get h.state.pending place ≡ Some w
  pub first : (address : LineAddress) → is_same_line address (line_of w.request.place) ≡ true → NoneTo address (take place (requests_of h.state.pending))

request_here : (h : History) (place : ℕ) (w : Waiting) → Serves h place w → slice_get (requests_of h.state.pending) place ≡ Some w.request
request_here h place w s = mapped_at (λ v. v.request) h.state.pending place w s.here

-- another pending request goes on being promised what it was
promise_served : (next : ℕ) (h : History) (place : ℕ) (w : Waiting) → Keeps next h → Serves h place w → (k : ℕ) (q : Request) → slice_get (remove (requests_of h.state.pending) place) k ≡ Some q →
    line_over (cells_after w.request h.state.cells (line_of q.place)) (take k (remove (requests_of h.state.pending) place)) (line_of q.place)
    ≡ line_after (take (get_or (remove h.waiting place) k 0) h.accepted) (line_of q.place)
promise_served next h place w kept s k q there = elim (order k place) [
  | inl before ↦
      let reqs = requests_of h.state.pending in
      let old : slice_get reqs k ≡ Some q = sym (slice_get-remove_before reqs place k before) ∙ there in
      let elsewhere : is_same_line (line_of q.place) (line_of w.request.place) ≡ false = elim (cases_Bool (is_same_line (line_of q.place) (line_of w.request.place))) [
        | inl same ↦ absurd (true≢false (sym (itself (line_of q.place)) ∙ list_any-none_at (λ r. is_same_line (line_of q.place) (line_of r.place)) (take place reqs) k q (s.first (line_of q.place) same) (taken_at reqs place k q before old)))
        | inr other ↦ other
      ] in
      let bytes : cells_after w.request h.state.cells (line_of q.place) ≡ h.state.cells (line_of q.place) = rw elsewhere refl in
      ap₂ (λ (c : List ℕ) (xs : List Request). line_over c xs (line_of q.place)) bytes (take-remove_before reqs place k (omega arith))
      ∙ kept.promise k q old
      ∙ ap (λ n. line_after (take n h.accepted) (line_of q.place)) (sym (get_or-remove_before h.waiting place k before))
  | inr behind ↦
      let reqs = requests_of h.state.pending in
      let old : slice_get reqs (suc k) ≡ Some q = sym (slice_get-remove_behind reqs place k behind) ∙ there in
      let both = takes_both reqs place w.request k (request_here h place w s) behind in
      ap (λ (xs : List Request). line_over (cells_after w.request h.state.cells (line_of q.place)) xs (line_of q.place)) both.without
      ∙ serve_line w.request h.state.cells (take place reqs) both.behind (line_of q.place) (s.first (line_of q.place))
      ∙ ap (λ (xs : List Request). line_over (h.state.cells (line_of q.place)) xs (line_of q.place)) (sym both.with_it)
      ∙ kept.promise (suc k) q old
      ∙ ap (λ n. line_after (take n h.accepted) (line_of q.place)) (sym (get_or-remove_behind h.waiting place k behind))
]
  where
    order : (m n : ℕ) → (m < n) ⊎ (n ≤ m)
    order m n = elim (cases_order m n) [
      | inl same ↦ inr (omega arith)
      | inr (inl less) ↦ inl less
      | inr (inr more) ↦ inr (omega arith)
    ]

    taken_at : (xs : List Request) (n j : ℕ) (x : Request) → j < n → slice_get xs j ≡ Some x → slice_get (take n xs) j ≡ Some x
    taken_at xs zero j x below is = absurd (omega arith)
    taken_at [] (suc n) j x below is = is
    taken_at (y ∷ ys) (suc n) zero x below is = is
    taken_at (y ∷ ys) (suc n) (suc j) x below is = taken_at ys n j x (omega arith) is

-- the memory stays what was admitted
memory_served : (next : ℕ) (h : History) (place : ℕ) (w : Waiting) → Keeps next h → Serves h place w → (address : LineAddress) →
    line_over (cells_after w.request h.state.cells address) (remove (requests_of h.state.pending) place) address ≡ line_after h.accepted address
memory_served next h place w kept s address =
    let reqs = requests_of h.state.pending in
    serve_line w.request h.state.cells (take place reqs) (drop (suc place) reqs) address (s.first address)
    ∙ ap (λ (xs : List Request). line_over (h.state.cells address) xs address) (sym (split_at reqs place w.request (request_here h place w s)))
    ∙ kept.memory address

-- the line that the request finds is what the requests before it leave
line_found : (next : ℕ) (h : History) (place : ℕ) (w : Waiting) → Keeps next h → Serves h place w →
    h.state.cells (line_of w.request.place) ≡ line_after (take (get_or h.waiting place 0) h.accepted) (line_of w.request.place)
line_found next h place w kept s =
    let address = line_of w.request.place in
    sym (kept.formed address)
    ∙ sym (line_kept (h.state.cells address) (take place (requests_of h.state.pending)) address (s.first address (itself address)))
    ∙ kept.promise place w.request (request_here h place w s)

-- what the column command makes of its request is the right answer to its owner
answer_is : (s : State) (accepted : List Request) (o : Owner) (r : Request) → slice_get accepted o.place ≡ Some r → o.cycle ≡ s.now →
    s.cells (line_of r.place) ≡ line_after (take o.place accepted) (line_of r.place) → right_answer s.config accepted o ≡ Some (completion_of s r)
answer_is s accepted o r here now cells =
    ap (option_map (answer_to s.config accepted o)) here
    ∙ ap₂ (λ (t : ℕ) (line : List ℕ). Some (completion_at s.config t line r)) now (sym cells)

keeps_served : (next : ℕ) (h : History) (auto : Bool) (place : ℕ) (w : Waiting) → Serves h place w → AreDue next (h.state.flight ++ completion_of h.state w.request ∷ []) → Keeps next h →
    Keeps next (record (owned auto place h) { state = ticked (served place w.request (recorded (Some (column_of auto w.request)) h.state)) })
keeps_served next h auto place w serves due k =
    let r = w.request in
    let s = h.state in
    let at = accepted_at next h place r k (request_here h place w serves) in
    let o : Owner = record { place = get_or h.waiting place 0; cycle = s.now; auto = auto } in
    let e = entry s.now (column_of auto r) in
    let number : o.place ≡ at.0 = get_or_from_slice_get h.waiting place at.0 0 at.1 in
    let here : slice_get h.accepted o.place ≡ Some r = ap (slice_get h.accepted) number ∙ at.2 in
    let within = slice_get_within h.waiting place at.0 at.1 in
    let is_it : o.place ≡ get_or h.waiting place o.place = number ∙ sym (get_or_from_slice_get h.waiting place at.0 o.place at.1) in
    let left : requests_of (remove s.pending place) ≡ remove (requests_of s.pending) place = map-remove (λ v. v.request) s.pending place in
    record {
      each_once =
          subst (λ (xs : List ℕ). IsPermutation (range_with_len 0 (length h.accepted)) (xs ++ remove h.waiting place)) (sym (map-append (λ p. p.place) h.owners (o ∷ [])))
          (IsPermutation-more (range_with_len 0 (length h.accepted)) (map (λ p. p.place) h.owners) h.waiting place o.place within is_it k.each_once);
      pending =
          ap (map Some) left ∙ map-remove Some (requests_of s.pending) place ∙ ap (λ (xs : List (Option Request)). remove xs place) k.pending ∙ sym (map-remove (slice_get h.accepted) h.waiting place);
      below = All-taken _ h.waiting place k.below;
      oldest_first = all_pairs_remove ◌<◌ h.waiting place within k.oldest_first;
      placed = All-last _ h.owners o k.placed (slice_get_within h.accepted o.place r here);
      formed = λ address. formed_after r s.cells address (k.formed address);
      promise = λ m q there.
          ap (λ (xs : List Request). line_over (cells_after r s.cells (line_of q.place)) (take m xs) (line_of q.place)) left
          ∙ promise_served next h place w k serves m q (ap (λ (xs : List Request). slice_get xs m) (sym left) ∙ there);
      memory = λ address. ap (λ (xs : List Request). line_over (cells_after r s.cells address) xs address) left ∙ memory_served next h place w k serves address;
      commands =
          ap (λ (xs : List Entry). map Some xs) (filter-append (λ m. is_column m.command) s.trace (e ∷ []) ∙ ap (λ b. filter (λ m. is_column m.command) s.trace ++ cond b (e ∷ []) []) (column_is auto r.echo.kind r.place))
          ∙ map-append Some (filter (λ m. is_column m.command) s.trace) (e ∷ [])
          ∙ ap₂ (λ (xs : List (Option Entry)) (x : Option Entry). xs ++ x ∷ []) k.commands (sym (ap (option_map (λ q. entry o.cycle (column_of o.auto q))) here))
          ∙ sym (map-append (owned_entry h.accepted) h.owners (o ∷ []));
      answers =
          ap (λ (xs : List Completion). map Some xs) (sym (append_assoc (h.popped ++ s.done) s.flight (completion_of s r ∷ [])))
          ∙ map-append Some (completions_of h) (completion_of s r ∷ [])
          ∙ ap₂ (λ (xs : List (Option Completion)) (x : Option Completion). xs ++ x ∷ []) k.answers (sym (answer_is s h.accepted o r here refl (line_found next h place w k serves)))
          ∙ sym (map-append (right_answer s.config h.accepted) h.owners (o ∷ []));
      ended = k.ended;
      finished = k.finished;
      due = due;
    }

-- a cycle: the choice

-- what a lawful column command serves: it is pending, and no older request is to its line
serves_of : (g : History) (place : ℕ) (w : Waiting) → slice_get g.state.pending place ≡ Some w → hazards.is_blocked g.state.pending place ≡ false → Serves g place w
serves_of g place w here free = record {
  here = here;
  first = λ address same.
      subst (λ (rs : List Request). NoneTo address rs) (sym (take-map (λ v. v.request) place g.state.pending))
      (none_older (take place g.state.pending) w
      (sym (ap (λ (o : Option Waiting). option_map_or (λ v. list_any (λ older. hazards.is_same_line older.request.place v.request.place) (take place g.state.pending)) o false) here) ∙ free) address same);
}

-- the number of a place that isn't there is no owner's: a lawful choice has none such
keeps_column : (g : History) (auto : Bool) (place : ℕ) (o : Option Waiting) → slice_get g.state.pending place ≡ o → place < length g.state.pending → hazards.is_blocked g.state.pending place ≡ false → Keeps (g.state.now + 1) g →
    IsSound (ticked (served_at place o (recorded (option_map (λ w. column_of auto w.request) o) g.state))) →
    Keeps (g.state.now + 1) (record (owned auto place g) { state = ticked (served_at place o (recorded (option_map (λ w. column_of auto w.request) o) g.state)) })
keeps_column g auto place None here within free k after = absurd (not_past g.state.pending place within here)
  where
    not_past : {X : Type 0} (xs : List X) (n : ℕ) → n < length xs → slice_get xs n ≡ None → ⊥
    not_past [] n before is = omega arith
    not_past (x ∷ xs) zero before is = cc
    not_past (x ∷ xs) (suc n) before is = not_past xs n (omega arith) is
keeps_column g auto place (Some w) here within free k after = keeps_served (g.state.now + 1) g auto place w (serves_of g place w here free) after.due k

keeps_issued : (g : History) (c : Choice) → IsLawful (situation_of g.state) c → Keeps (g.state.now + 1) g → IsSound (ticked (issued c g.state)) →
    Keeps (g.state.now + 1) (record (with_owner c g) { state = ticked (issued c g.state) })
keeps_issued g choice.Nothing law k after = keeps_recorded (g.state.now + 1) g None refl k
keeps_issued g (choice.Refresh rank) law k after = keeps_recorded (g.state.now + 1) g (command_of g.state.pending (choice.Refresh rank)) refl k
keeps_issued g (choice.PreAll rank) law k after = keeps_recorded (g.state.now + 1) g (command_of g.state.pending (choice.PreAll rank)) refl k
keeps_issued g (choice.Act place) law k after = keeps_recorded (g.state.now + 1) g _ (no_data (λ w. activate_at w.request.place) (slice_get g.state.pending place) (λ w. refl)) k
keeps_issued g (choice.Pre place) law k after = keeps_recorded (g.state.now + 1) g _ (no_data (λ w. precharge_at w.request.place) (slice_get g.state.pending place) (λ w. refl)) k
keeps_issued g (choice.Column place) law k after = keeps_column g false place (slice_get g.state.pending place) refl law.in_list law.no_older k after
keeps_issued g (choice.ColumnAuto place) law k after = keeps_column g true place (slice_get g.state.pending place) refl law.in_list law.no_older k after

-- the whole invariant: of the configuration and the start as at open, and of the state and its history
pub record IsKept (config : Config) (start : ℕ) (h : History) : Type 0 where
  pub config_is : h.state.config ≡ config
  pub start_is : h.state.start ≡ start
  pub sound : IsSound h.state
  pub keeps : Keeps h.state.now h

-- what the data of a column command leave alone

alike_at : {X : Type 0} (f : State → X) → ((s : State) (place : ℕ) (r : Request) → f (served place r s) ≡ f s) → (place : ℕ) (o : Option Waiting) (s : State) → f (served_at place o s) ≡ f s
alike_at f same place None s = refl
alike_at f same place (Some w) s = same s place w.request

pub served_alike : {X : Type 0} (f : State → X) → ((s : State) (place : ℕ) (r : Request) → f (served place r s) ≡ f s) → (c : Choice) (s : State) → f (served_by c s) ≡ f s
served_alike f same choice.Nothing s = refl
served_alike f same (choice.Refresh rank) s = refl
served_alike f same (choice.PreAll rank) s = refl
served_alike f same (choice.Act place) s = refl
served_alike f same (choice.Pre place) s = refl
served_alike f same (choice.Column place) s = alike_at f same place (slice_get s.pending place) s
served_alike f same (choice.ColumnAuto place) s = alike_at f same place (slice_get s.pending place) s

-- the owner of a command doesn't depend on what comes before the choice
pub owner_alike : (c : Choice) (h : History) (after : State) → record (with_owner c (record h { state = at_choice h.state })) { state = after } ≡ record (with_owner c h) { state = after }
owner_alike choice.Nothing h after = refl
owner_alike (choice.Refresh rank) h after = refl
owner_alike (choice.PreAll rank) h after = refl
owner_alike (choice.Act place) h after = refl
owner_alike (choice.Pre place) h after = refl
owner_alike (choice.Column place) h after = refl
owner_alike (choice.ColumnAuto place) h after = refl

-- a cycle keeps it
pub kept_cycle : (config : Config) (start : ℕ) (h : History) → IsKept config start h → IsKept config start (record (with_owner (choice_of (at_choice h.state)) h) { state = after_cycle h.state })
kept_cycle config start h k =
    let c = choice_of (at_choice h.state) in
    let s = recorded (command_of h.state.pending c) (at_choice h.state) in
    let sound = IsSound-after_cycle h.state k.sound in
    let keeps = keeps_issued (record h { state = at_choice h.state }) c (choice_lawful (situation_of (at_choice h.state))) (keeps_at_choice h k.keeps) sound in
    record {
      config_is = served_alike (λ t. t.config) (λ t place r. refl) c s ∙ k.config_is;
      start_is = served_alike (λ t. t.start) (λ t place r. refl) c s ∙ k.start_is;
      sound = sound;
      keeps = subst (λ (g : History). Keeps (after_cycle h.state).now g) (owner_alike c h (after_cycle h.state))
          (subst (λ n. Keeps n (record (with_owner c (record h { state = at_choice h.state })) { state = after_cycle h.state })) (sym (ap (λ n. n + 1) (served_alike (λ t. t.now) (λ t place r. refl) c s))) keeps);
    }

kept_if : (config : Config) (start : ℕ) (b : Bool) (old new : History) → IsKept config start old → IsKept config start new → IsKept config start (cond b old new)
kept_if config start true old new k l = k
kept_if config start false old new k l = l

-- each call keeps it
pub kept_call : (config : Config) (start : ℕ) (h : History) (call : Call) → MayCall config call → IsKept config start h → IsKept config start (after_call h call)
kept_call config start h (Admit r) may k = kept_if config start (is_queue_full h.state r.echo.kind) h _ k (record {
  config_is = k.config_is;
  start_is = k.start_is;
  sound = IsSound-after_admit h.state r k.sound (subst (λ (c : Config). IsServed c r.place) (sym k.config_is) may);
  keeps = keeps_admit h.state.now h r k.keeps;
})
kept_call config start h Cycle may k = kept_if config start (eqb h.state.now CLOCK_STOP) h _ k (kept_cycle config start h k)
kept_call config start h Pop may k = record {
  config_is = k.config_is;
  start_is = k.start_is;
  sound = IsSound-after_pop h.state k.sound;
  keeps = keeps_pop h.state.now h k.keeps;
}

kept_from : (config : Config) (start : ℕ) (h : History) (calls : List Call) → AreCalls config calls → IsKept config start h → IsKept config start (fold after_call h calls)
kept_from config start h [] may k = k
kept_from config start h (call ∷ calls) may k = kept_from config start (after_call h call) calls may.1 (kept_call config start h call may.0 k)

pub kept_begun : (config : Config) (start : ℕ) → IsKept config start (begun config start)
kept_begun config start = record {
  config_is = refl;
  start_is = refl;
  sound = IsSound-opened config start;
  keeps = record {
    each_once = IsPermutation-refl [];
    pending = refl;
    below = tt;
    oldest_first = λ i j d before within. absurd (omega arith);
    placed = tt;
    formed = λ address. refl;
    promise = λ place r here. cc;
    memory = λ address. refl;
    commands = refl;
    answers = refl;
    ended = tt;
    finished = tt;
    due = tt;
  };
}

-- every run keeps it
pub kept_run : (config : Config) (start : ℕ) (calls : List Call) → AreCalls config calls → IsKept config start (run config start calls)
kept_run config start calls may = kept_from config start (begun config start) calls may (kept_begun config start)
