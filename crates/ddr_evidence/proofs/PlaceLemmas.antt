-- The last place that passes a test, as a history is walked through.
use Rattle.std.proofs.Common.{◌≡◌, ℕ, ◌+◌, ◌<◌, ◌≤◌, Bool, true, false, ◌&&◌, ◌||◌, cond, nat_lt, List, [], ◌∷◌, ◌++◌, length, get_or, take, drop, Option, Some, None, refl, sym, subst, ap, ◌∙◌, arith, append_assoc, append-nil, length-append, ltb-true, ltb-false}
use Rattle.std.specs.Prelude.{IfNone, slice_get}
use Rattle.std.specs.List.{count_by}
use Rattle.std.specs.Option.{option_map_or}
use Rattle.std.proofs.Math.Seq.{drop-append_seam, drop-length}
use Rattle.std.proofs.lemmas.List.{take_more}
use Rattle.std.proofs.lemmas.List.Sums.{sum_by-cons}
use Rattle.std.proofs.lemmas.Option.{slice_get_past, slice_get-get_or}
use Rattle.ddr_timing.specs.declared.timing.Timing.{Timing}
use Rattle.ddr_trace.specs.declared.bank.OpenBank.{OpenBank}
use Rattle.ddr_trace.specs.declared.command.Command.{Command}
use Rattle.ddr_trace.specs.declared.command.Entry.{Entry}
use Rattle.ddr_trace.specs.declared.rule.Rule.{Rule}
use Rattle.ddr_trace.specs.Banks.{bank_after, bank_behind}
use Rattle.ddr_trace.specs.Commands.{is_activate, is_auto, is_precharge, is_same_bank}
use Rattle.ddr_trace.proofs.BankLemmas.{bank_behind-append}
use Rattle.ddr_evidence.specs.Places.{IsLastChangeAt, are_breaking, breaks_from, changes, changes_at, counts}

-- ---- walking back

pub get_seam : {X : Type 0} (xs : List X) (x : X) (ys : List X) → slice_get (xs ++ x ∷ ys) (length xs) ≡ Some x
get_seam [] x ys = refl
get_seam (a ∷ xs) x ys = get_seam xs x ys

-- what is left and what was walked through are the whole
abbrev pub IsSplit : List Entry → List Entry → Type 0
IsSplit history earlier = history ≡ earlier ++ drop (length earlier) history

pub split_whole : (history : List Entry) → IsSplit history history
split_whole history = sym (ap (λ d. history ++ d) (drop-length history) ∙ append-nil history)

pub left_length : (earlier before : List Entry) (last : Entry) → earlier ≡ before ++ last ∷ [] → length earlier ≡ length before + 1
left_length earlier before last e = ap length e ∙ length-append before (last ∷ [])

pub split_more : (history earlier before : List Entry) (last : Entry) → IsSplit history earlier → earlier ≡ before ++ last ∷ [] → history ≡ before ++ (last ∷ drop (length earlier) history)
split_more history earlier before last split e =
    split ∙ ap (λ xs. xs ++ drop (length earlier) history) e ∙ append_assoc before (last ∷ []) (drop (length earlier) history)

-- the newest entry of what is left, and what was walked through
pub rest_is : (history earlier before : List Entry) (last : Entry) → IsSplit history earlier → earlier ≡ before ++ last ∷ [] → drop (length before) history ≡ last ∷ drop (length earlier) history
rest_is history earlier before last split e =
    ap (drop (length before)) (split_more history earlier before last split e) ∙ drop-append_seam before (last ∷ drop (length earlier) history)

pub split_next : (history earlier before : List Entry) (last : Entry) → IsSplit history earlier → earlier ≡ before ++ last ∷ [] → IsSplit history before
split_next history earlier before last split e =
    split_more history earlier before last split e ∙ ap (λ xs. before ++ xs) (sym (rest_is history earlier before last split e))

-- the newest entry of what is left, at its place
pub breaks_here : (t : Timing) (r : Rule) (history : List Entry) (e : Entry) (earlier before : List Entry) (last : Entry) → IsSplit history earlier → earlier ≡ before ++ last ∷ []
    → breaks_from t r history e (length before) ≡ are_breaking t r e last (count_by (counts r e) (drop (length earlier) history))
breaks_here t r history e earlier before last split same =
    let here : slice_get history (length before) ≡ Some last =
    ap (λ h. slice_get h (length before)) (split_more history earlier before last split same) ∙ get_seam before last (drop (length earlier) history) in
    let behind : drop (length before + 1) history ≡ drop (length earlier) history = ap (λ n. drop n history) (sym (left_length earlier before last same)) in
    ap (λ o. option_map_or (λ a. are_breaking t r e a (count_by (counts r e) (drop (length before + 1) history))) o false) here
    ∙ ap (λ d. are_breaking t r e last (count_by (counts r e) d)) behind

pub get_here : (history earlier before : List Entry) (last : Entry) → IsSplit history earlier → earlier ≡ before ++ last ∷ [] → slice_get history (length before) ≡ Some last
get_here history earlier before last split same =
    ap (λ h. slice_get h (length before)) (split_more history earlier before last split same) ∙ get_seam before last (drop (length earlier) history)

-- no entry stands behind the history
pub breaks_past : (t : Timing) (r : Rule) (history : List Entry) (e : Entry) (place : ℕ) → length history ≤ place → breaks_from t r history e place ≡ false
breaks_past t r history e place past =
    ap (λ o. option_map_or (λ a. are_breaking t r e a (count_by (counts r e) (drop (place + 1) history))) o false) (slice_get_past history place past)

-- a test that fails from m on, and at n before it
pub none_next : (test : ℕ → Bool) (n m : ℕ) → m ≡ n + 1 → ((place : ℕ) → m ≤ place → test place ≡ false) → test n ≡ false → (place : ℕ) → n ≤ place → test place ≡ false
none_next test n m next none here place from = go (nat_lt n place) refl
  where
    go : (b : Bool) → nat_lt n place ≡ b → test place ≡ false
    go true above = let over = ltb-true n place above in none place (omega (arith, over, next))
    go false above =
        let over = ltb-false n place above in
        let same : n ≡ place = omega (arith, over, from) in
        ap test (sym same) ∙ here

pub counted_none : (p : Entry → Bool) (history : List Entry) → 0 ≡ count_by p (drop (length history) history)
counted_none p history = sym (ap (count_by p) (drop-length history))

count_cons : (p : Entry → Bool) (x : Entry) (xs : List Entry) → count_by p (x ∷ xs) ≡ cond (p x) 1 0 + count_by p xs
count_cons p x xs = sum_by-cons (λ y. cond (p y) 1 0) x xs

-- the newest entry of what is left counts, or doesn't
pub counted_more : (p : Entry → Bool) (history earlier before : List Entry) (last : Entry) (between : ℕ) → IsSplit history earlier → earlier ≡ before ++ last ∷ [] → between ≡ count_by p (drop (length earlier) history) → true ≡ p last → between + 1 ≡ count_by p (drop (length before) history)
counted_more p history earlier before last between split e counted passes =
    let all = ap (count_by p) (rest_is history earlier before last split e) ∙ count_cons p last (drop (length earlier) history) ∙ ap (λ b. cond b 1 0 + count_by p (drop (length earlier) history)) (sym passes) in
    omega (arith, all, counted)

pub counted_same : (p : Entry → Bool) (history earlier before : List Entry) (last : Entry) (between : ℕ) → IsSplit history earlier → earlier ≡ before ++ last ∷ [] → between ≡ count_by p (drop (length earlier) history) → false ≡ p last → between ≡ count_by p (drop (length before) history)
counted_same p history earlier before last between split e counted fails =
    let all = ap (count_by p) (rest_is history earlier before last split e) ∙ count_cons p last (drop (length earlier) history) ∙ ap (λ b. cond b 1 0 + count_by p (drop (length earlier) history)) (sym fails) in
    omega (arith, all, counted)

-- ---- walking forth

-- the last place below n that passes, if one does
abbrev pub IsLastBelow : (ℕ → Bool) → ℕ → Option ℕ → Type 0
IsLastBelow test n None = (place : ℕ) → place < n → test place ≡ false
IsLastBelow test n (Some last) = (last < n) × (test last ≡ true) × ((place : ℕ) → last < place → place < n → test place ≡ false)

pub none_below : (test : ℕ → Bool) → IsLastBelow test 0 None
none_below test place below = absurd (omega (arith, below))

fails_more : (test : ℕ → Bool) (n place : ℕ) → (place < n → test place ≡ false) → test n ≡ false → place < n + 1 → test place ≡ false
fails_more test n place so_far here below = go (nat_lt place n) refl
  where
    go : (b : Bool) → nat_lt place n ≡ b → test place ≡ false
    go true less = so_far (ltb-true place n less)
    go false less =
        let over = ltb-false place n less in
        let same : n ≡ place = omega (arith, over, below) in
        ap test (sym same) ∙ here

pub last_next : (test : ℕ → Bool) (n : ℕ) (found : Option ℕ) (b : Bool) → IsLastBelow test n found → test n ≡ b → IsLastBelow test (n + 1) (cond b (Some n) found)
last_next test n found true so_far here = (omega arith, here, λ place above below. absurd (omega (arith, above, below)))
last_next test n None false so_far here = λ place below. fails_more test n place (so_far place) here below
last_next test n (Some last) false so_far here =
    let low = so_far.0 in
    (omega (arith, low), so_far.1, λ place above below. fails_more test n place (so_far.2 place above) here below)

change_past : (command : Command) (history : List Entry) (place : ℕ) → length history ≤ place → changes_at command history place ≡ false
change_past command history place past =
    ap (λ o. option_map_or (λ a. is_same_bank a.command command && changes a (bank_behind command (take place history))) o false) (slice_get_past history place past)

below_or_past : (command : Command) (history : List Entry) (place : ℕ) → (place < length history → changes_at command history place ≡ false) → changes_at command history place ≡ false
below_or_past command history place below = go (nat_lt place (length history)) refl
  where
    go : (b : Bool) → nat_lt place (length history) ≡ b → changes_at command history place ≡ false
    go true less = below (ltb-true place (length history) less)
    go false less = change_past command history place (ltb-false place (length history) less)

-- the whole history was walked through
-- an entry that changes the bank is in the history
pub change_within : (command : Command) (history : List Entry) (place : ℕ) → changes_at command history place ≡ true → place < length history
change_within command history place passes = go (nat_lt place (length history)) refl
  where
    go : (b : Bool) → nat_lt place (length history) ≡ b → place < length history
    go true below = ltb-true place (length history) below
    go false above =
        let past = ltb-false place (length history) above in
        absurd (let none = change_past command history place past in cc)

pub change_all : (command : Command) (history : List Entry) (found : Option ℕ) → IsLastBelow (changes_at command history) (length history) found → IsLastChangeAt command history found
change_all command history None none = λ place. below_or_past command history place (none place)
change_all command history (Some last) found = record {
  passes = found.1;
  last = λ later above. below_or_past command history later (found.2 later above);
}

pub bank_more : (command : Command) (history : List Entry) (n : ℕ) (d : Entry) (bank next : Option OpenBank) → n < length history → bank ≡ bank_behind command (take n history) → next ≡ bank_after command bank (get_or history n d) → next ≡ bank_behind command (take (n + 1) history)
bank_more command history n d bank next within so_far e =
    e ∙ ap (λ b. bank_after command b (get_or history n d)) so_far
    ∙ sym (ap (bank_behind command) (take_more history n d within) ∙ bank_behind-append command (take n history) (get_or history n d))

pub change_more : (command : Command) (history : List Entry) (n : ℕ) (d : Entry) (bank : Option OpenBank) (changed next : Option ℕ) → n < length history → bank ≡ bank_behind command (take n history) → IsLastBelow (changes_at command history) n changed
    → next ≡ cond (is_same_bank (get_or history n d).command command && changes (get_or history n d) bank) (Some n) changed → IsLastBelow (changes_at command history) (n + 1) next
change_more command history n d bank changed next within so_far found e =
    let x = get_or history n d in
    let here : changes_at command history n ≡ (is_same_bank x.command command && changes x bank) =
    ap (λ o. option_map_or (λ a. is_same_bank a.command command && changes a (bank_behind command (take n history))) o false) (slice_get-get_or history n d within)
    ∙ ap (λ b. is_same_bank x.command command && changes x b) (sym so_far) in
    subst (IsLastBelow (changes_at command history) (n + 1)) (sym e) (last_next (changes_at command history) n changed _ found here)

-- a bank that nothing changed is idle
stays_idle : (s a p u : Bool) (o : Option OpenBank) → (s && (a || (false && (p || u)))) ≡ false → cond s (cond a o (cond p None (cond u None None))) None ≡ None
stays_idle true true p u o e = cc
stays_idle true false true u o e = refl
stays_idle true false false true o e = refl
stays_idle true false false false o e = refl
stays_idle false a p u o e = refl

pub idle_more : (command : Command) (history : List Entry) (n : ℕ) (d : Entry) (bank next : Option OpenBank) (changed later : Option ℕ) → IfNone changed (bank ≡ None) → next ≡ bank_after command bank (get_or history n d)
    → later ≡ cond (is_same_bank (get_or history n d).command command && changes (get_or history n d) bank) (Some n) changed → IfNone later (next ≡ None)
idle_more command history n d bank next changed later idle is_next is_later = subst (λ o. IfNone o (next ≡ None)) (sym is_later) (go changed (is_same_bank (get_or history n d).command command && changes (get_or history n d) bank) refl idle)
  where
    go : (changed : Option ℕ) (b : Bool) → (is_same_bank (get_or history n d).command command && changes (get_or history n d) bank) ≡ b → IfNone changed (bank ≡ None) → IfNone (cond b (Some n) changed) (next ≡ None)
    go changed true e idle = tt
    go (Some place) false e idle = tt
    go None false e idle =
        is_next ∙ ap (λ b. bank_after command b (get_or history n d)) idle
        ∙ stays_idle (is_same_bank (get_or history n d).command command) (is_activate (get_or history n d).command) (is_precharge (get_or history n d).command) (is_auto (get_or history n d).command) _ (ap (λ b. is_same_bank (get_or history n d).command command && changes (get_or history n d) b) (sym idle) ∙ e)
