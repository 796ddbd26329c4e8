-- The numbers of places that have no command in common add up.
use Rattle.std.proofs.Common.{◌≡◌, ℕ, zero, suc, ◌+◌, ◌*◌, ◌/◌, ◌%◌, ◌<◌, ◌≤◌, Bool, true, false, ◌&&◌, ◌==◌, if◌then◌else◌, List, [], ◌∷◌, ◌++◌, cond, Option, refl, sym, ap, arith, ◌∙◌}
use Rattle.std.specs.Prelude.{nat_lt}
use Rattle.std.specs.List.{AllByRecursion}
use Rattle.std.proofs.lemmas.Bool.Decides.{nat_tests}
use Rattle.std.proofs.lemmas.List.Sums.{sum_by-cons}
use Rattle.ddr_timing.specs.declared.geometry.Geometry.{Geometry}
use Rattle.ddr_trace.specs.declared.command.Command.{Command}
use Rattle.ddr_trace.specs.declared.command.Command.TheVariants.{Act, Rd, Wr, RdAuto, WrAuto, Pre, PreAll, Refresh}
use Rattle.ddr_trace.specs.declared.command.Entry.{Entry}
use Rattle.ddr_trace.specs.Commands.{bank_of, group_of, is_activate, is_column, is_of_all_banks, is_refresh, rank_of}
use Rattle.ddr_trace.specs.Rules.{is_in}
use Rattle.ddr_statistics.specs.declared.counts.Counts.{Counts}
use Rattle.ddr_statistics.specs.declared.counts.Finding.{Finding}
use Rattle.ddr_statistics.specs.Counts.{count_behind, count_from, counts_of, found_count, is_any, is_of_one, is_of_one_bank, is_of_rank, is_pre, is_rd, is_rda, is_wr, is_wra, kind_count}
use Rattle.ddr_statistics.specs.Noted.{no_counts}
use Rattle.ddr_statistics.specs.Sums.{ArePlaced, BanksAddUp, RanksAddUp, is_of_banks, plus, sum_below}
use Rattle.ddr_statistics.specs.Visits.{finding, is_conflict, is_hit, is_miss}
use Rattle.ddr_statistics.proofs.CountLemmas.{alike}
use Rattle.ddr_trace.proofs.PlaceLemmas.{bank_in}
use Rattle.ddr_statistics.proofs.PlaceLemmas.{and_false}

abbrev one : Bool → ℕ
one w = if w then 1 else 0

-- of each command of the history, one place has it exactly where one of the two others does
abbrev Splits : (Command → Bool) → (Command → Bool) → (Command → Bool) → List Entry → Type 0
Splits p q r history = AllByRecursion (λ e. one (p e.command) ≡ one (q e.command) + one (r e.command)) history

and_true : (a : Bool) → (a && true) ≡ a
and_true true = refl
and_true false = refl

one_split : (a b d k : Bool) → one a ≡ one b + one d → one (a && k) ≡ one (b && k) + one (d && k)
one_split a b d true h = rw (and_true a, and_true b, and_true d) h
one_split a b d false h = rw (and_false a, and_false b, and_false d) refl

added : (a b c x y z : ℕ) → a ≡ b + c → x ≡ y + z → a + x ≡ (b + y) + (c + z)
added a b c x y z h k = omega arith

kind_split : (kind p q r : Command → Bool) (history : List Entry) → Splits p q r history → kind_count kind p history ≡ kind_count kind q history + kind_count kind r history
unfolding kind_count
kind_split kind p q r [] split = refl
kind_split kind p q r (e ∷ history) split =
    sum_by-cons (λ (a : Entry). cond (p a.command && kind a.command) 1 0) e history
    ∙ added _ _ _ _ _ _ (one_split (p e.command) (q e.command) (r e.command) (kind e.command) split.0) (kind_split kind p q r history split.1)
    ∙ sym (ap (λ n. n + kind_count kind r (e ∷ history)) (sum_by-cons (λ (a : Entry). cond (q a.command && kind a.command) 1 0) e history)
    ∙ ap (λ n. (one (q e.command && kind e.command) + kind_count kind q history) + n) (sum_by-cons (λ (a : Entry). cond (r a.command && kind a.command) 1 0) e history))

from_split : (so : Option Finding → Bool) (p q r : Command → Bool) (before history : List Entry) → Splits p q r history
    → count_from (λ past e. p e.command && so (finding past e.command)) before history
    ≡ count_from (λ past e. q e.command && so (finding past e.command)) before history + count_from (λ past e. r e.command && so (finding past e.command)) before history
from_split so p q r before [] split = refl
from_split so p q r before (e ∷ history) split =
    added _ _ _ _ _ _ (one_split (p e.command) (q e.command) (r e.command) (so (finding before e.command)) split.0) (from_split so p q r (before ++ e ∷ []) history split.1)

found_split : (so : Option Finding → Bool) (p q r : Command → Bool) (history : List Entry) → Splits p q r history → found_count so p history ≡ found_count so q history + found_count so r history
unfolding count_behind
found_split so p q r history split = from_split so p q r [] history split

four_times : (a b c : ℕ) → a ≡ b + c → 4 * a ≡ 4 * b + 4 * c
four_times a b c h = omega arith

counts_split : (p q r : Command → Bool) (history : List Entry) → Splits p q r history → counts_of p history ≡ plus (counts_of q history) (counts_of r history)
unfolding counts_of
counts_split p q r history split =
    alike _ _
    (kind_split is_activate p q r history split)
    (kind_split is_pre p q r history split)
    (kind_split is_of_all_banks p q r history split)
    (kind_split is_rd p q r history split)
    (kind_split is_wr p q r history split)
    (kind_split is_rda p q r history split)
    (kind_split is_wra p q r history split)
    (kind_split is_refresh p q r history split)
    (found_split is_hit p q r history split)
    (found_split is_miss p q r history split)
    (found_split is_conflict p q r history split)
    (four_times _ _ _ (kind_split is_column p q r history split))

nothing : (n : ℕ) → n ≡ n + n → n ≡ 0
nothing n h = omega arith

-- a place without commands
counts_nowhere : (p : Command → Bool) (history : List Entry) → Splits p p p history → counts_of p history ≡ no_counts
counts_nowhere p history none =
    let twice = counts_split p p p history none in
    alike _ _
    (nothing _ (ap (λ (n : Counts). n.activates) twice))
    (nothing _ (ap (λ (n : Counts). n.precharges) twice))
    (nothing _ (ap (λ (n : Counts). n.precharges_all) twice))
    (nothing _ (ap (λ (n : Counts). n.reads) twice))
    (nothing _ (ap (λ (n : Counts). n.writes) twice))
    (nothing _ (ap (λ (n : Counts). n.reads_auto) twice))
    (nothing _ (ap (λ (n : Counts). n.writes_auto) twice))
    (nothing _ (ap (λ (n : Counts). n.refreshes) twice))
    (nothing _ (ap (λ (n : Counts). n.row_hits) twice))
    (nothing _ (ap (λ (n : Counts). n.row_misses) twice))
    (nothing _ (ap (λ (n : Counts). n.row_conflicts) twice))
    (nothing _ (ap (λ (n : Counts). n.busy_clocks) twice))

-- how many of the first n places have the command
abbrev places_with : (ℕ → Command → Bool) → ℕ → Command → ℕ
places_with place zero c = 0
places_with place (suc n) c = places_with place n c + one (place n c)

one_or_none : (w : Bool) → one w ≤ 1
one_or_none true = omega arith
one_or_none false = omega arith

positive : (m : ℕ) → m ≤ 1 → one (nat_lt 0 m) ≡ m
positive zero h = refl
positive (suc zero) h = refl
positive (suc (suc m)) h = absurd (omega arith)

some_of : (a b : ℕ) (w : Bool) → one w ≡ a + b → one (nat_lt 0 a) ≡ a
some_of a b w h = positive a (omega (arith, one_or_none w))

all_with : (P Q : Entry → Type 0) (history : List Entry) → ((e : Entry) → P e → Q e) → AllByRecursion P history → AllByRecursion Q history
all_with P Q [] step all = tt
all_with P Q (e ∷ history) step all = (step e all.0, all_with P Q history step all.1)

-- a place that has a command exactly where one of the first n places does
counts_below : (place : ℕ → Command → Bool) (n : ℕ) (p : Command → Bool) (history : List Entry) → AllByRecursion (λ e. one (p e.command) ≡ places_with place n e.command) history
    → counts_of p history ≡ sum_below (λ k. counts_of (place k) history) n
counts_below place zero p history each =
    counts_nowhere p history (all_with (λ e. one (p e.command) ≡ 0) (λ e. one (p e.command) ≡ one (p e.command) + one (p e.command)) history (λ e h. omega (arith, h)) each)
counts_below place (suc n) p history each =
    let q : Command → Bool = λ c. nat_lt 0 (places_with place n c) in
    let split : Splits p q (place n) history =
    all_with (λ e. one (p e.command) ≡ places_with place n e.command + one (place n e.command)) (λ e. one (p e.command) ≡ one (q e.command) + one (place n e.command)) history
    (λ e h. let below = some_of (places_with place n e.command) (one (place n e.command)) (p e.command) h in h ∙ ap (λ m. m + one (place n e.command)) (sym below)) each in
    let fewer : AllByRecursion (λ e. one (q e.command) ≡ places_with place n e.command) history =
    all_with (λ e. one (p e.command) ≡ places_with place n e.command + one (place n e.command)) (λ e. one (q e.command) ≡ places_with place n e.command) history
    (λ e h. some_of (places_with place n e.command) (one (place n e.command)) (p e.command) h) each in
    counts_split p q (place n) history split
    ∙ ap (λ (c : Counts). plus c (counts_of (place n) history)) (counts_below place n q history fewer)

-- places that are told apart by a number of the command
one_more : (w : Bool) (x n : ℕ) → one (w && nat_lt x n) + one (w && (x == n)) ≡ one (w && nat_lt x (suc n))
one_more true x n = grind (arith, nat_tests)
one_more false x n = omega arith

none_below : (w : Bool) (x : ℕ) → 0 ≡ one (w && nat_lt x 0)
none_below true x = grind (arith, nat_tests)
none_below false x = refl

places_by_number : (place : ℕ → Command → Bool) (c : Command) (w : Bool) (x : ℕ) → ((k : ℕ) → place k c ≡ (w && (x == k))) → (n : ℕ) → places_with place n c ≡ one (w && nat_lt x n)
places_by_number place c w x by zero = none_below w x
places_by_number place c w x by (suc n) =
    ap (λ m. m + one (place n c)) (places_by_number place c w x by n)
    ∙ ap (λ v. one (w && nat_lt x n) + one v) (by n)
    ∙ one_more w x n

-- the ranks of a channel
rank_below : (g : Geometry) (c : Command) → is_in g c ≡ true → nat_lt (rank_of c) g.ranks ≡ true
rank_below g (Act k n b w) h = grind (arith, nat_tests)
rank_below g (Rd k n b w l) h = grind (arith, nat_tests)
rank_below g (Wr k n b w l) h = grind (arith, nat_tests)
rank_below g (RdAuto k n b w l) h = grind (arith, nat_tests)
rank_below g (WrAuto k n b w l) h = grind (arith, nat_tests)
rank_below g (Pre k n b) h = grind (arith, nat_tests)
rank_below g (PreAll k) h = h
rank_below g (Refresh k) h = h

pub ranks_add_up : (g : Geometry) (history : List Entry) → ArePlaced g history → RanksAddUp g history
ranks_add_up g history placed =
    counts_below (λ k c. is_of_rank k c) g.ranks is_any history
    (all_with (λ e. is_in g e.command ≡ true) (λ e. 1 ≡ places_with (λ k c. is_of_rank k c) g.ranks e.command) history
    (λ e here. sym (places_by_number (λ k c. is_of_rank k c) e.command true (rank_of e.command) (λ k. refl) g.ranks ∙ ap one (rank_below g e.command here))) placed)

-- the banks of a rank
digits_of : (group bank number : ℕ) → bank < 4 → (group == number / 4 && bank == number % 4) ≡ (group * 4 + bank == number)
digits_of group bank number h = grind (arith, nat_tests)

bank_below : (g : Geometry) (c : Command) → is_in g c ≡ true → is_of_one_bank c ≡ true → nat_lt (group_of c * 4 + bank_of c) (g.groups * 4) ≡ true
bank_below g (Act k n b w) h one = grind (arith, nat_tests)
bank_below g (Rd k n b w l) h one = grind (arith, nat_tests)
bank_below g (Wr k n b w l) h one = grind (arith, nat_tests)
bank_below g (RdAuto k n b w l) h one = grind (arith, nat_tests)
bank_below g (WrAuto k n b w l) h one = grind (arith, nat_tests)
bank_below g (Pre k n b) h one = grind (arith, nat_tests)
bank_below g (PreAll k) h one = cc one
bank_below g (Refresh k) h one = cc one

of_number : (rank : ℕ) (c : Command) → bank_of c < 4 → (number : ℕ) → is_of_one rank (number / 4) (number % 4) c ≡ (is_of_banks rank c && (group_of c * 4 + bank_of c == number))
of_number rank (Act k n b w) h number = ap (λ v. (k == rank) && v) (digits_of n b number h) ∙ ap (λ v. v && (n * 4 + b == number)) (sym (and_true (k == rank)))
of_number rank (Rd k n b w l) h number = ap (λ v. (k == rank) && v) (digits_of n b number h) ∙ ap (λ v. v && (n * 4 + b == number)) (sym (and_true (k == rank)))
of_number rank (Wr k n b w l) h number = ap (λ v. (k == rank) && v) (digits_of n b number h) ∙ ap (λ v. v && (n * 4 + b == number)) (sym (and_true (k == rank)))
of_number rank (RdAuto k n b w l) h number = ap (λ v. (k == rank) && v) (digits_of n b number h) ∙ ap (λ v. v && (n * 4 + b == number)) (sym (and_true (k == rank)))
of_number rank (WrAuto k n b w l) h number = ap (λ v. (k == rank) && v) (digits_of n b number h) ∙ ap (λ v. v && (n * 4 + b == number)) (sym (and_true (k == rank)))
of_number rank (Pre k n b) h number = ap (λ v. (k == rank) && v) (digits_of n b number h) ∙ ap (λ v. v && (n * 4 + b == number)) (sym (and_true (k == rank)))
of_number rank (PreAll k) h number = sym (ap (λ v. v && (0 == number)) (and_false (k == rank)))
of_number rank (Refresh k) h number = sym (ap (λ v. v && (0 == number)) (and_false (k == rank)))

-- a test that holds where another one does
and_holds : (a b : Bool) (t : Bool) → (b ≡ true → t ≡ true) → one ((a && b) && t) ≡ one (a && b)
and_holds true true t h = ap one (h refl)
and_holds true false t h = refl
and_holds false b t h = refl

pub banks_add_up : (g : Geometry) (history : List Entry) (rank : ℕ) → ArePlaced g history → BanksAddUp g history rank
banks_add_up g history rank placed =
    counts_below (λ number c. is_of_one rank (number / 4) (number % 4) c) (g.groups * 4) (is_of_banks rank) history
    (all_with (λ e. is_in g e.command ≡ true) (λ e. one (is_of_banks rank e.command) ≡ places_with (λ number c. is_of_one rank (number / 4) (number % 4) c) (g.groups * 4) e.command) history
    (λ e here.
    let key = group_of e.command * 4 + bank_of e.command in
    let found = places_by_number (λ number c. is_of_one rank (number / 4) (number % 4) c) e.command (is_of_banks rank e.command) key (of_number rank e.command (bank_in g e.command here)) (g.groups * 4) in
    sym (found ∙ and_holds (is_of_rank rank e.command) (is_of_one_bank e.command) (nat_lt key (g.groups * 4)) (bank_below g e.command here)))
    placed)
