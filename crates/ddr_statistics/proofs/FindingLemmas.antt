-- What the history makes of a bank, told by looking back.
use Rattle.std.proofs.Common.{◌≡◌, ℕ, ◌+◌, Bool, true, false, ◌&&◌, ◌||◌, ◌==◌, if◌then◌else◌, List, [], ◌∷◌, ◌++◌, count_by, cond, Some, refl, sym, subst, ap, arith, append_assoc, ◌∙◌}
use Rattle.std.specs.List.{AllByRecursion}
use Rattle.std.proofs.lemmas.Bool.Decides.{nat_tests}
use Rattle.std.proofs.lemmas.List.{append-nil}
use Rattle.std.proofs.lemmas.List.Sums.{sum_by_push}
use Rattle.ddr_trace.specs.declared.command.Command.{Command}
use Rattle.ddr_trace.specs.declared.command.Command.TheVariants.{Act, Rd, Wr, RdAuto, WrAuto, Pre, PreAll, Refresh}
use Rattle.ddr_trace.specs.declared.command.Entry.{Entry}
use Rattle.ddr_trace.specs.Commands.{is_activate, is_column}
use Rattle.ddr_trace.specs.Rules.{some_earlier}
use Rattle.ddr_trace.proofs.Earlier.{some_earlier_here, some_earlier_skip, some_earlier_stop}
use Rattle.ddr_statistics.specs.declared.bank.Visit.{Visit}
use Rattle.ddr_statistics.specs.declared.counts.Finding.TheVariants.{Miss, Conflict}
use Rattle.ddr_statistics.specs.Counts.{is_pre}
use Rattle.ddr_statistics.specs.Findings.{LeavesBank, LooksBack, closes, is_closed_by_pre, is_visited}
use Rattle.ddr_statistics.specs.Visits.{is_at, is_hit, visit_after, visit_behind}
use Rattle.ddr_statistics.proofs.CountLemmas.{visit_behind-push}
use Rattle.ddr_statistics.proofs.PlaceLemmas.{and_false}

-- what holds before the first entry, and stays, holds of every history
grown : (P : List Entry → Type 0) → ((h : List Entry) (e : Entry) → P h → P (h ++ e ∷ [])) → (before later : List Entry) → P before → P (before ++ later)
grown P step before [] holds = subst P (sym (append-nil before)) holds
grown P step before (e ∷ later) holds = subst P (append_assoc before (e ∷ []) later) (grown P step (before ++ e ∷ []) later (step before e holds))

-- an entry of the one kind, and none of the other since
abbrev last_of : (Entry → Bool) → (Entry → Bool) → Entry → List Entry → Bool
last_of kind reset a since = kind a && (count_by reset since == 0)

not_none : (n : ℕ) → (n + 1 == 0) ≡ false
not_none n = grind (arith, nat_tests)

counted : (reset : Entry → Bool) (since : List Entry) (e : Entry) (w : Bool) → reset e ≡ w → count_by reset (since ++ e ∷ []) ≡ count_by reset since + (if w then 1 else 0)
counted reset since e w is = sum_by_push (λ (a : Entry). cond (reset a) 1 0) since e ∙ ap (λ v. count_by reset since + (if v then 1 else 0)) is

look_here : (kind reset : Entry → Bool) (h : List Entry) (e : Entry) → kind e ≡ true → some_earlier (last_of kind reset) (h ++ e ∷ []) ≡ true
look_here kind reset h e here = some_earlier_here (last_of kind reset) h e (ap (λ w. w && true) here)

look_stop : (kind reset : Entry → Bool) (h : List Entry) (e : Entry) → kind e ≡ false → reset e ≡ true → some_earlier (last_of kind reset) (h ++ e ∷ []) ≡ false
look_stop kind reset h e away stops =
    some_earlier_stop (last_of kind reset) h e false
    (λ a since. ap (λ n. kind a && (n == 0)) (counted reset since e true stops) ∙ ap (λ w. kind a && w) (not_none (count_by reset since)) ∙ and_false (kind a))
    (ap (λ w. w && true) away)

look_skip : (kind reset : Entry → Bool) (h : List Entry) (e : Entry) → kind e ≡ false → reset e ≡ false → some_earlier (last_of kind reset) (h ++ e ∷ []) ≡ some_earlier (last_of kind reset) h
look_skip kind reset h e away stays =
    some_earlier_skip (last_of kind reset) (last_of kind reset) h e
    (λ a since. let same : count_by reset since + 0 ≡ count_by reset since = omega arith in ap (λ n. kind a && (n == 0)) (counted reset since e false stays ∙ same))
    (ap (λ w. w && true) away)

-- what a command of the bank does to its visit
hit_after : (c : Command) (v : Visit) → is_hit (Some (visit_after c v).next) ≡ (if is_column c then true else if is_activate c then false else is_hit (Some v.next))
hit_after (Act k g b w) v = first v.closed_by_pre
  where
    first : (by_pre : Bool) → is_hit (Some (if by_pre then Conflict else Miss)) ≡ false
    first true = refl
    first false = refl
hit_after (Rd k g b w l) v = refl
hit_after (Wr k g b w l) v = refl
hit_after (RdAuto k g b w l) v = refl
hit_after (WrAuto k g b w l) v = refl
hit_after (Pre k g b) v = refl
hit_after (PreAll k) v = refl
hit_after (Refresh k) v = refl

closed_after : (c : Command) (v : Visit) → (visit_after c v).closed_by_pre ≡ (if is_pre c then true else if closes c then false else v.closed_by_pre)
closed_after (Act k g b w) v = refl
closed_after (Rd k g b w l) v = refl
closed_after (Wr k g b w l) v = refl
closed_after (RdAuto k g b w l) v = refl
closed_after (WrAuto k g b w l) v = refl
closed_after (Pre k g b) v = refl
closed_after (PreAll k) v = refl
closed_after (Refresh k) v = refl

next_after : (c : Command) (v : Visit) → (is_activate c || is_column c) ≡ false → (visit_after c v).next ≡ v.next
next_after (Act k g b w) v idle = cc idle
next_after (Rd k g b w l) v idle = cc idle
next_after (Wr k g b w l) v idle = cc idle
next_after (RdAuto k g b w l) v idle = cc idle
next_after (WrAuto k g b w l) v idle = cc idle
next_after (Pre k g b) v idle = refl
next_after (PreAll k) v idle = refl
next_after (Refresh k) v idle = refl

first_after : (c : Command) (v : Visit) → is_activate c ≡ true → (visit_after c v).next ≡ (if v.closed_by_pre then Conflict else Miss)
first_after (Act k g b w) v opens = refl
first_after (Rd k g b w l) v opens = cc opens
first_after (Wr k g b w l) v opens = cc opens
first_after (RdAuto k g b w l) v opens = cc opens
first_after (WrAuto k g b w l) v opens = cc opens
first_after (Pre k g b) v opens = cc opens
first_after (PreAll k) v opens = cc opens
first_after (Refresh k) v opens = cc opens

and_true : (a : Bool) → (a && true) ≡ a
and_true true = refl
and_true false = refl

-- a step of a look back that has an answer f of the visit
looked : (kind reset : Command → Bool) (answer : Visit → Bool) → ((c : Command) (v : Visit) → answer (visit_after c v) ≡ (if kind c then true else if reset c then false else answer v))
    → (k g b : ℕ) (h : List Entry) (e : Entry)
    → answer (visit_behind k g b h) ≡ some_earlier (last_of (λ a. kind a.command && is_at k g b a.command) (λ a. reset a.command && is_at k g b a.command)) h
    → answer (visit_behind k g b (h ++ e ∷ [])) ≡ some_earlier (last_of (λ a. kind a.command && is_at k g b a.command) (λ a. reset a.command && is_at k g b a.command)) (h ++ e ∷ [])
looked kind reset answer step k g b h e kept = by_place (is_at k g b e.command) refl
  where
    by_kind : (x y : Bool) → kind e.command ≡ x → reset e.command ≡ y → is_at k g b e.command ≡ true
        → (if x then true else if y then false else answer (visit_behind k g b h)) ≡ some_earlier (last_of (λ a. kind a.command && is_at k g b a.command) (λ a. reset a.command && is_at k g b a.command)) (h ++ e ∷ [])
    by_kind true y is_kind is_reset at =
        sym (look_here (λ a. kind a.command && is_at k g b a.command) (λ a. reset a.command && is_at k g b a.command) h e (ap (λ w. kind e.command && w) at ∙ and_true (kind e.command) ∙ is_kind))
    by_kind false true is_kind is_reset at =
        sym (look_stop (λ a. kind a.command && is_at k g b a.command) (λ a. reset a.command && is_at k g b a.command) h e (ap (λ w. w && is_at k g b e.command) is_kind) (ap (λ w. reset e.command && w) at ∙ and_true (reset e.command) ∙ is_reset))
    by_kind false false is_kind is_reset at =
        kept ∙ sym (look_skip (λ a. kind a.command && is_at k g b a.command) (λ a. reset a.command && is_at k g b a.command) h e (ap (λ w. w && is_at k g b e.command) is_kind) (ap (λ w. w && is_at k g b e.command) is_reset))

    by_place : (w : Bool) → is_at k g b e.command ≡ w → answer (visit_behind k g b (h ++ e ∷ [])) ≡ some_earlier (last_of (λ a. kind a.command && is_at k g b a.command) (λ a. reset a.command && is_at k g b a.command)) (h ++ e ∷ [])
    by_place true at =
        ap answer (visit_behind-push k g b h e ∙ ap (λ w. if w then visit_after e.command (visit_behind k g b h) else visit_behind k g b h) at)
        ∙ step e.command (visit_behind k g b h)
        ∙ by_kind (kind e.command) (reset e.command) refl refl at
    by_place false away =
        ap answer (visit_behind-push k g b h e ∙ ap (λ w. if w then visit_after e.command (visit_behind k g b h) else visit_behind k g b h) away)
        ∙ kept
        ∙ sym (look_skip (λ a. kind a.command && is_at k g b a.command) (λ a. reset a.command && is_at k g b a.command) h e (ap (λ w. kind e.command && w) away ∙ and_false (kind e.command)) (ap (λ w. reset e.command && w) away ∙ and_false (reset e.command)))

hit_is : (k g b : ℕ) (h : List Entry) → is_hit (Some (visit_behind k g b h).next) ≡ is_visited k g b h
unfolding visit_behind
hit_is k g b h =
    grown (λ (past : List Entry). is_hit (Some (visit_behind k g b past).next) ≡ is_visited k g b past)
    (λ past e kept. looked is_column is_activate (λ (v : Visit). is_hit (Some v.next)) hit_after k g b past e kept) [] h refl

closed_is : (k g b : ℕ) (h : List Entry) → (visit_behind k g b h).closed_by_pre ≡ is_closed_by_pre k g b h
unfolding visit_behind
closed_is k g b h =
    grown (λ (past : List Entry). (visit_behind k g b past).closed_by_pre ≡ is_closed_by_pre k g b past)
    (λ past e kept. looked is_pre closes (λ (v : Visit). v.closed_by_pre) closed_after k g b past e kept) [] h refl

-- an entry that leaves the bank
left : (k g b : ℕ) (h : List Entry) (e : Entry) → LeavesBank k g b e → (visit_behind k g b (h ++ e ∷ [])).next ≡ (visit_behind k g b h).next
left k g b h e leaves = by_place (is_at k g b e.command) refl
  where
    by_place : (w : Bool) → is_at k g b e.command ≡ w → (visit_behind k g b (h ++ e ∷ [])).next ≡ (visit_behind k g b h).next
    by_place true at =
        ap (λ (v : Visit). v.next) (visit_behind-push k g b h e ∙ ap (λ w. if w then visit_after e.command (visit_behind k g b h) else visit_behind k g b h) at)
        ∙ next_after e.command (visit_behind k g b h) (sym (and_true (is_activate e.command || is_column e.command)) ∙ sym (ap (λ w. (is_activate e.command || is_column e.command) && w) at) ∙ leaves)
    by_place false away =
        ap (λ (v : Visit). v.next) (visit_behind-push k g b h e ∙ ap (λ w. if w then visit_after e.command (visit_behind k g b h) else visit_behind k g b h) away)

all_left : (k g b : ℕ) (h since : List Entry) → AllByRecursion (LeavesBank k g b) since → (visit_behind k g b (h ++ since)).next ≡ (visit_behind k g b h).next
all_left k g b h [] leave = ap (λ (es : List Entry). (visit_behind k g b es).next) (append-nil h)
all_left k g b h (e ∷ since) leave =
    sym (ap (λ (es : List Entry). (visit_behind k g b es).next) (append_assoc h (e ∷ []) since))
    ∙ all_left k g b (h ++ e ∷ []) since leave.1
    ∙ left k g b h e leave.0

first_is : (k g b : ℕ) (h : List Entry) (act : Entry) (since : List Entry) → is_activate act.command ≡ true → is_at k g b act.command ≡ true → AllByRecursion (LeavesBank k g b) since
    → (visit_behind k g b (h ++ act ∷ since)).next ≡ (if is_closed_by_pre k g b h then Conflict else Miss)
first_is k g b h act since opens at leave =
    sym (ap (λ (es : List Entry). (visit_behind k g b es).next) (append_assoc h (act ∷ []) since))
    ∙ all_left k g b (h ++ act ∷ []) since leave
    ∙ ap (λ (v : Visit). v.next) (visit_behind-push k g b h act ∙ ap (λ w. if w then visit_after act.command (visit_behind k g b h) else visit_behind k g b h) at)
    ∙ first_after act.command (visit_behind k g b h) opens
    ∙ ap (λ w. if w then Conflict else Miss) (closed_is k g b h)

pub looks_back : (rank group bank : ℕ) (history : List Entry) → LooksBack rank group bank history
looks_back rank group bank history = record { hit = hit_is rank group bank history; first = first_is rank group bank history }
