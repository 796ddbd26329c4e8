-- What is kept of a rank's clocks after one more command, and that the clocks up to a cycle are those of the history.
use Rattle.std.proofs.Common.{◌≡◌, ℕ, zero, suc, ◌+◌, ◌-◌, ◌*◌, ◌/◌, ◌%◌, ◌^◌, ◌<◌, ◌≤◌, Bool, true, false, ◌&&◌, ◌||◌, ◌==◌, not, if◌then◌else◌, min, max, List, [], ◌∷◌, ◌++◌, count_by, cond, length, Option, Some, None, slice_index_or, get_or-set_same, get_or-set_other, refl, sym, ap, arith, ◌∙◌}
use Rattle.std.specs.Prelude.{nat_le, nat_lt, fold}
use Rattle.std.specs.List.{AllByRecursion, list_any, range_with_len}
use Rattle.std.specs.Option.{is_some}
use Rattle.std.proofs.lemmas.Bool.{ltb-true}
use Rattle.std.proofs.lemmas.Bool.Decides.{nat_tests}
use Rattle.std.proofs.lemmas.List.{append-nil, get_or-replicate, length-replicate, length-set}
use Rattle.std.proofs.lemmas.List.Elements.{filter-append}
use Rattle.std.proofs.lemmas.List.Folds.{list_any-append}
use Rattle.std.proofs.lemmas.List.Sums.{sum_by-cons}
use Rattle.ddr_timing.specs.declared.geometry.Geometry.{Geometry}
use Rattle.ddr_timing.specs.declared.timing.Timing.{Timing}
use Rattle.ddr_timing.specs.declared.units.TheConstants.{GROUP_BANKS, MOST_GROUPS}
use Rattle.ddr_trace.specs.declared.bank.OpenBank.{OpenBank}
use Rattle.ddr_trace.specs.declared.command.Command.{Command}
use Rattle.ddr_trace.specs.declared.command.Command.TheVariants.{Act, Rd, Wr, RdAuto, WrAuto, Pre, PreAll, Refresh}
use Rattle.ddr_trace.specs.declared.command.Entry.{Entry}
use Rattle.ddr_trace.specs.Banks.{any_bank, auto_start, bank_after, bank_behind, changed_by, closing, is_active, row_until}
use Rattle.ddr_trace.specs.Commands.{bank_of, group_of, is_refresh, is_same_bank, rank_of}
use Rattle.ddr_trace.proofs.BankLemmas.{bank_behind-append}
use Rattle.ddr_statistics.specs.declared.background.Activity.{Activity}
use Rattle.ddr_statistics.specs.declared.background.Background.{Background}
use Rattle.ddr_statistics.specs.declared.rank.TheConstants.{MOST_BANKS}
use Rattle.ddr_statistics.specs.Background.{active_clocks, clocks_of, idle_clocks, is_rank_active, is_rank_refreshed, is_within_refresh, refresh_clocks, up_to}
use Rattle.ddr_statistics.specs.Counts.{is_of_rank}
use Rattle.ddr_statistics.specs.Debts.{IsInOrder, most_of}
use Rattle.ddr_statistics.specs.Noted.{active_to, activities_noted, activity_noted, auto_until, background_noted, opens_or_closes, latest_until, new_background, no_activity, one_activity_noted, raised, refresh_to}
use Rattle.ddr_statistics.specs.Stands.{HasCounted, KeepsBackground, activity_of, until_of}
use Rattle.ddr_statistics.proofs.PlaceLemmas.{apart, same_number}

-- how many cycles pass a test
step_count : (test : ℕ → Bool) (a n : ℕ) → count_by test (range_with_len a (suc n)) ≡ (if test a then 1 else 0) + count_by test (range_with_len (a + 1) n)
step_count test a n = sum_by-cons (λ (c : ℕ). cond (test c) 1 0) a (range_with_len (a + 1) n)

counts_alike : (f g : ℕ → Bool) (a n : ℕ) → ((c : ℕ) → a ≤ c → c < a + n → f c ≡ g c) → count_by f (range_with_len a n) ≡ count_by g (range_with_len a n)
counts_alike f g a zero same = refl
counts_alike f g a (suc n) same =
    step_count f a n
    ∙ ap (λ w. (if w then 1 else 0) + count_by f (range_with_len (a + 1) n)) (same a (omega arith) (omega arith))
    ∙ ap (λ m. (if g a then 1 else 0) + m) (counts_alike f g (a + 1) n (λ c from below. same c (omega arith) (omega arith)))
    ∙ sym (step_count g a n)

counts_join : (f : ℕ → Bool) (a m n : ℕ) → count_by f (range_with_len a (m + n)) ≡ count_by f (range_with_len a m) + count_by f (range_with_len (a + m) n)
counts_join f a zero n =
    let none : zero + n ≡ n = omega arith in
    let here : a + zero ≡ a = omega arith in
    ap (λ k. count_by f (range_with_len a k)) none ∙ sym (ap (λ b. count_by f (range_with_len b n)) here) ∙ omega arith
counts_join f a (suc m) n =
    let more : suc m + n ≡ suc (m + n) = omega arith in
    let there : a + 1 + m ≡ a + suc m = omega arith in
    let rest = counts_join f (a + 1) m n in
    let first = step_count f a (m + n) in
    let last = step_count f a m in
    ap (λ k. count_by f (range_with_len a k)) more ∙ first
    ∙ ap (λ k. (if f a then 1 else 0) + k) (rest ∙ ap (λ b. count_by f (range_with_len (a + 1) m) + count_by f (range_with_len b n)) there)
    ∙ omega (arith, last)

-- those before an end come first
one_below : (a n end : ℕ) (w : Bool) → nat_lt a end ≡ w → (if w then 1 else 0) + (min end (a + 1 + n) - (a + 1)) ≡ min end (a + suc n) - a
one_below a n end true less = let lt : a < end = grind (arith, nat_tests) in omega (arith, lt)
one_below a n end false not_less = let le : end ≤ a = grind (arith, nat_tests) in omega (arith, le)

counts_below : (end a n : ℕ) → count_by (λ c. nat_lt c end) (range_with_len a n) ≡ min end (a + n) - a
counts_below end a zero = omega arith
counts_below end a (suc n) =
    step_count (λ c. nat_lt c end) a n
    ∙ ap (λ m. (if nat_lt a end then 1 else 0) + m) (counts_below end (a + 1) n)
    ∙ one_below a n end (nat_lt a end) refl

-- those between two ends
one_between : (a n end from : ℕ) (v w : Bool) → nat_lt a end ≡ v → nat_lt a from ≡ w → (if v && not w then 1 else 0) + (min end (a + 1 + n) - max (a + 1) from) ≡ min end (a + suc n) - max a from
one_between a n end from true true less before = let lt : a < from = grind (arith, nat_tests) in omega (arith, lt)
one_between a n end from true false less after =
    let lt : a < end = grind (arith, nat_tests) in
    let le : from ≤ a = grind (arith, nat_tests) in
    omega (arith, lt, le)
one_between a n end from false w not_less h = let le : end ≤ a = grind (arith, nat_tests) in omega (arith, le)

counts_between : (end from a n : ℕ) → count_by (λ c. nat_lt c end && not (nat_lt c from)) (range_with_len a n) ≡ min end (a + n) - max a from
counts_between end from a zero = omega arith
counts_between end from a (suc n) =
    step_count (λ c. nat_lt c end && not (nat_lt c from)) a n
    ∙ ap (λ m. (if nat_lt a end && not (nat_lt a from) then 1 else 0) + m) (counts_between end from (a + 1) n)
    ∙ one_between a n end from (nat_lt a end) (nat_lt a from) refl refl

-- each cycle is active, refreshed or neither
one_of_three : (a r : Bool) → (if a then 1 else 0) + (if r && not a then 1 else 0) + (if not a && not (r && not a) then 1 else 0) ≡ 1
one_of_three true true = refl
one_of_three true false = refl
one_of_three false true = refl
one_of_three false false = refl

three_steps : (a r i x y z n : ℕ) → a + r + i ≡ 1 → x + y + z ≡ n → (a + x) + (r + y) + (i + z) ≡ suc n
three_steps a r i x y z n h k = omega arith

counts_of_three : (f g : ℕ → Bool) (a n : ℕ) → count_by f (range_with_len a n) + count_by (λ c. g c && not (f c)) (range_with_len a n) + count_by (λ c. not (f c) && not (g c && not (f c))) (range_with_len a n) ≡ n
counts_of_three f g a zero = refl
counts_of_three f g a (suc n) =
    let first = step_count f a n in
    let second = step_count (λ c. g c && not (f c)) a n in
    let third = step_count (λ c. not (f c) && not (g c && not (f c))) a n in
    let rest = counts_of_three f g (a + 1) n in
    let here = one_of_three (f a) (g a) in
    omega (arith, first, second, third, three_steps _ _ _ _ _ _ _ here rest)

pub clocks_add_up : (t : Timing) (g : Geometry) (start end rank : ℕ) (history : List Entry)
    → active_clocks t g start end rank history + refresh_clocks t g start end rank history + idle_clocks t g start end rank history ≡ end - start
unfolding active_clocks refresh_clocks idle_clocks
clocks_add_up t g start end rank history = counts_of_three (is_rank_active t g rank history) (λ c. is_within_refresh t rank (up_to c history) c) start (end - start)

-- a bank of the history, and what is kept of it
abbrev pub last : ℕ
last = 2 ^ 64 - 1

below_last : (c n : ℕ) → c < last → nat_lt c (min n last) ≡ nat_lt c n
below_last c n below = grind (arith, nat_tests)

is_open : (t : Timing) (bank : OpenBank) (auto : Option Entry) → (until_of t bank auto == 0) ≡ false
is_open t bank None = refl
is_open t bank (Some auto) =
    let some : 1 ≤ auto_until t bank.since auto = omega (arith, t.ras_range.0) in
    grind (arith, nat_tests)

closes_open : (t : Timing) (e : Entry) (bank : OpenBank)
    → (if not (until_of t bank bank.auto == 0) then record { since = bank.since; until = auto_until t bank.since e } else activity_of t (Some bank)) ≡ activity_of t (Some (closing e bank))
closes_open t e bank =
    let closed : Activity = record { since = bank.since; until = auto_until t bank.since e } in
    ap (λ w. if not w then closed else activity_of t (Some bank)) (is_open t bank bank.auto)

-- a command of the bank does the same to both
activity_step : (t : Timing) (cycle : ℕ) (c : Command) (bank : Option OpenBank)
    → activity_noted t (record { cycle = cycle; command = c }) (activity_of t bank) ≡ activity_of t (changed_by (record { cycle = cycle; command = c }) bank)
activity_step t cycle (Act k g b w) bank = refl
activity_step t cycle (Rd k g b w l) bank = refl
activity_step t cycle (Wr k g b w l) bank = refl
activity_step t cycle (RdAuto k g b w l) None = refl
activity_step t cycle (RdAuto k g b w l) (Some bank) = closes_open t (record { cycle = cycle; command = RdAuto k g b w l }) bank
activity_step t cycle (WrAuto k g b w l) None = refl
activity_step t cycle (WrAuto k g b w l) (Some bank) = closes_open t (record { cycle = cycle; command = WrAuto k g b w l }) bank
activity_step t cycle (Pre k g b) bank = refl
activity_step t cycle (PreAll k) bank = refl
activity_step t cycle (Refresh k) bank = refl

auto_told : (t : Timing) (bank : OpenBank) (auto : Entry) (c : ℕ) → c < last → (w : Bool) → nat_le (auto_start t bank auto) c ≡ w → nat_lt c (auto_until t bank.since auto) ≡ not w
auto_told t bank auto c below true started =
    let le : auto_start t bank auto ≤ c = grind (arith, nat_tests) in
    let not_before : auto_until t bank.since auto ≤ c = omega (arith, le) in
    grind (arith, nat_tests)
auto_told t bank auto c below false not_yet =
    let lt : c < auto_start t bank auto = grind (arith, nat_tests) in
    let before : c < auto_until t bank.since auto = omega (arith, lt, below) in
    grind (arith, nat_tests)

not_some : (w : Bool) (row : ℕ) → not w ≡ is_some {T = ℕ} (if w then None else Some row)
not_some true row = refl
not_some false row = refl

open_told : (t : Timing) (bank : OpenBank) (auto : Option Entry) (c : ℕ) → c < last → nat_lt c (until_of t bank auto) ≡ is_some {T = ℕ} (row_until t c bank auto)
open_told t bank None c below = grind (arith, nat_tests)
open_told t bank (Some auto) c below =
    auto_told t bank auto c below (nat_le (auto_start t bank auto) c) refl ∙ not_some (nat_le (auto_start t bank auto) c) bank.row

-- the bank is active in the cycles before that
bank_told : (t : Timing) (bank : Option OpenBank) (c : ℕ) → c < last → nat_lt c (activity_of t bank).until ≡ is_active t c bank
bank_told t None c below = grind (arith, nat_tests)
bank_told t (Some bank) c below = open_told t bank bank.auto c below

-- a test of some number
or_false : (a : Bool) → (a || false) ≡ a
or_false true = refl
or_false false = refl

or_assoc : (a b c : Bool) → (a || (b || c)) ≡ ((a || b) || c)
or_assoc true b c = refl
or_assoc false b c = refl

any_more : (p : ℕ → Bool) (a n : ℕ) → list_any p (range_with_len a (suc n)) ≡ (list_any p (range_with_len a n) || p (a + n))
any_more p a zero = let here : a ≡ a + 0 = omega arith in or_false (p a) ∙ ap p here
any_more p a (suc n) =
    let there : a + 1 + n ≡ a + suc n = omega arith in
    let rest : list_any p (range_with_len (a + 1) (suc n)) ≡ (list_any p (range_with_len (a + 1) n) || p (a + suc n)) =
    any_more p (a + 1) n ∙ ap (λ k. list_any p (range_with_len (a + 1) n) || p k) there in
    ap (λ w. p a || w) rest
    ∙ or_assoc (p a) (list_any p (range_with_len (a + 1) n)) (p (a + suc n))

any_alike : (p q : ℕ → Bool) (a n : ℕ) → ((k : ℕ) → a ≤ k → k < a + n → p k ≡ q k) → list_any p (range_with_len a n) ≡ list_any q (range_with_len a n)
any_alike p q a zero same = refl
any_alike p q a (suc n) same =
    ap (λ w. w || list_any p (range_with_len (a + 1) n)) (same a (omega arith) (omega arith))
    ∙ ap (λ w. q a || w) (any_alike p q (a + 1) n (λ k from below. same k (omega (arith, from)) (omega (arith, below))))

below_max : (c a b : ℕ) → nat_lt c (max a b) ≡ (nat_lt c a || nat_lt c b)
below_max c a b = by (nat_lt c a) (nat_lt c b) refl refl
  where
    by : (v w : Bool) → nat_lt c a ≡ v → nat_lt c b ≡ w → nat_lt c (max a b) ≡ (v || w)
    by true w first second = let lt : c < a = grind (arith, nat_tests) in let more : c < max a b = omega (arith, lt) in grind (arith, nat_tests)
    by false true first second = let lt : c < b = grind (arith, nat_tests) in let more : c < max a b = omega (arith, lt) in grind (arith, nat_tests)
    by false false first second =
        let le : a ≤ c = grind (arith, nat_tests) in
        let le_too : b ≤ c = grind (arith, nat_tests) in
        let none : max a b ≤ c = omega (arith, le, le_too) in
        grind (arith, nat_tests)

most_any : (f : ℕ → ℕ) (c n : ℕ) → nat_lt c (most_of f n) ≡ list_any (λ k. nat_lt c (f k)) (range_with_len 0 n)
most_any f c zero = grind (arith, nat_tests)
most_any f c (suc n) =
    let here : n ≡ 0 + n = omega arith in
    below_max c (most_of f n) (f n)
    ∙ ap (λ w. w || nat_lt c (f n)) (most_any f c n)
    ∙ ap (λ k. list_any (λ j. nat_lt c (f j)) (range_with_len 0 n) || nat_lt c (f k)) here
    ∙ sym (any_more (λ k. nat_lt c (f k)) 0 n)

none_of : (f : ℕ → ℕ) (n : ℕ) → ((k : ℕ) → k < n → f k ≡ 0) → most_of f n ≡ 0
none_of f zero each = refl
none_of f (suc n) each =
    let earlier = none_of f n (λ k below. each k (omega (arith, below))) in
    let here = each n (omega arith) in
    omega (arith, earlier, here)

any_bank_alike : (g : Geometry) (rank : ℕ) (p q : Command → Bool) → ((group bank : ℕ) → p (Pre rank group bank) ≡ q (Pre rank group bank)) → any_bank g rank p ≡ any_bank g rank q
any_bank_alike g rank p q same =
    any_alike (λ n. p (Pre rank (n / 4) (n % 4))) (λ n. q (Pre rank (n / 4) (n % 4))) 0 (g.groups * 4) (λ k from below. same (k / 4) (k % 4))

few_groups : (g : Geometry) → g.groups ≤ 4
few_groups g = grind (arith, nat_tests, g.groups_are)

-- the banks of a rank
abbrev AreKept : Timing → ℕ → List Entry → List Activity → Type 0
AreKept t rank history banks = (group bank : ℕ) → group < MOST_GROUPS → bank < GROUP_BANKS
    → slice_index_or banks (group * GROUP_BANKS + bank) no_activity ≡ activity_of t (bank_behind (Pre rank group bank) history)

latest_told : (t : Timing) (g : Geometry) (rank : ℕ) (history : List Entry) (banks : List Activity) (c : ℕ) → AreKept t rank history banks → c < last
    → nat_lt c (latest_until g banks) ≡ any_bank g rank (λ bank. is_active t c (bank_behind bank history))
latest_told t g rank history banks c kept below =
    most_any (λ n. (slice_index_or banks n no_activity).until) c (g.groups * 4)
    ∙ any_alike (λ n. nat_lt c (slice_index_or banks n no_activity).until) (λ n. is_active t c (bank_behind (Pre rank (n / 4) (n % 4)) history)) 0 (g.groups * 4)
    (λ n from within.
    let few = few_groups g in
    let digits : n / 4 * 4 + n % 4 ≡ n = omega arith in
    let group : n / 4 < 4 = omega (arith, few, within) in
    let bank : n % 4 < 4 = omega arith in
    ap (λ k. nat_lt c (slice_index_or banks k no_activity).until) (sym digits)
    ∙ ap (λ (a : Activity). nat_lt c a.until) (kept (n / 4) (n % 4) group bank)
    ∙ bank_told t (bank_behind (Pre rank (n / 4) (n % 4)) history) c below)

-- a bank after a command that leaves it
stays : (command : Command) (history : List Entry) (e : Entry) → ((bank : Option OpenBank) → changed_by e bank ≡ bank) → bank_behind command (history ++ e ∷ []) ≡ bank_behind command history
stays command history e same = bank_behind-append command history e ∙ by (is_same_bank e.command command)
  where
    by : (w : Bool) → (if w then changed_by e (bank_behind command history) else bank_behind command history) ≡ bank_behind command history
    by true = same (bank_behind command history)
    by false = refl

after_own : (t : Timing) (k g b : ℕ) (history : List Entry) (e : Entry) (w : Bool) → is_same_bank e.command (Pre k g b) ≡ w
    → activity_of t (if w then changed_by e (bank_behind (Pre k g b) history) else bank_behind (Pre k g b) history) ≡ activity_of t (bank_behind (Pre k g b) (history ++ e ∷ []))
after_own t k g b history e w is =
    let old = bank_behind (Pre k g b) history in
    sym (ap (activity_of t) (bank_behind-append (Pre k g b) history e ∙ ap (λ v. if v then changed_by e old else old) is))

-- the banks after a command of one of them
one_kept : (t : Timing) (k g b : ℕ) (history : List Entry) (e : Entry) (banks : List Activity) (g' b' : ℕ) → AreKept t k history banks → length banks ≡ MOST_BANKS
    → g < MOST_GROUPS → b < GROUP_BANKS → g' < MOST_GROUPS → b' < GROUP_BANKS → is_same_bank e.command (Pre k g' b') ≡ (g == g' && b == b')
    → slice_index_or (one_activity_noted t e (g * GROUP_BANKS + b) banks) (g' * GROUP_BANKS + b') no_activity ≡ activity_of t (bank_behind (Pre k g' b') (history ++ e ∷ []))
one_kept t k g b history e banks g' b' kept size group bank group' bank' at = by_test (g == g' && b == b') refl
  where
    by_test : (w : Bool) → (g == g' && b == b') ≡ w → slice_index_or (one_activity_noted t e (g * 4 + b) banks) (g' * 4 + b') no_activity ≡ activity_of t (bank_behind (Pre k g' b') (history ++ e ∷ []))
    by_test true same =
        let same_group : g ≡ g' = grind (arith, nat_tests) in
        let same_bank : b ≡ b' = grind (arith, nat_tests) in
        let within : g' * 4 + b' < length banks = omega (arith, size) in
        rw (same_group, same_bank)
        (get_or-set_same banks (g' * 4 + b') _ no_activity within
        ∙ ap (λ (a : Activity). activity_noted t e a) (kept g' b' group' bank')
        ∙ activity_step t e.cycle e.command (bank_behind (Pre k g' b') history)
        ∙ after_own t k g' b' history e true (at ∙ same))
    by_test false other =
        get_or-set_other banks (g * 4 + b) (g' * 4 + b') _ no_activity (apart g b g' b' bank bank' other)
        ∙ kept g' b' group' bank'
        ∙ after_own t k g' b' history e false (at ∙ other)

banks_step : (t : Timing) (history : List Entry) (cycle : ℕ) (c : Command) (banks : List Activity) → AreKept t (rank_of c) history banks → length banks ≡ MOST_BANKS → group_of c < MOST_GROUPS → bank_of c < GROUP_BANKS
    → AreKept t (rank_of c) (history ++ record { cycle = cycle; command = c } ∷ []) (activities_noted t (record { cycle = cycle; command = c }) banks)
banks_step t history cycle (Act k g b w) banks kept size group bank g' b' group' bank' =
    let this = same_number k in
    one_kept t k g b history (record { cycle = cycle; command = Act k g b w }) banks g' b' kept size group bank group' bank' (rw this refl)
banks_step t history cycle (Rd k g b w l) banks kept size group bank g' b' group' bank' =
    kept g' b' group' bank' ∙ sym (ap (activity_of t) (stays (Pre k g' b') history (record { cycle = cycle; command = Rd k g b w l }) (λ old. refl)))
banks_step t history cycle (Wr k g b w l) banks kept size group bank g' b' group' bank' =
    kept g' b' group' bank' ∙ sym (ap (activity_of t) (stays (Pre k g' b') history (record { cycle = cycle; command = Wr k g b w l }) (λ old. refl)))
banks_step t history cycle (RdAuto k g b w l) banks kept size group bank g' b' group' bank' =
    let this = same_number k in
    one_kept t k g b history (record { cycle = cycle; command = RdAuto k g b w l }) banks g' b' kept size group bank group' bank' (rw this refl)
banks_step t history cycle (WrAuto k g b w l) banks kept size group bank g' b' group' bank' =
    let this = same_number k in
    one_kept t k g b history (record { cycle = cycle; command = WrAuto k g b w l }) banks g' b' kept size group bank group' bank' (rw this refl)
banks_step t history cycle (Pre k g b) banks kept size group bank g' b' group' bank' =
    let this = same_number k in
    one_kept t k g b history (record { cycle = cycle; command = Pre k g b }) banks g' b' kept size group bank group' bank' (rw this refl)
banks_step t history cycle (PreAll k) banks kept size group bank g' b' group' bank' =
    get_or-replicate MOST_BANKS (g' * GROUP_BANKS + b') no_activity no_activity (omega (arith, group', bank'))
    ∙ after_own t k g' b' history (record { cycle = cycle; command = PreAll k }) true (rw (same_number k) refl)
banks_step t history cycle (Refresh k) banks kept size group bank g' b' group' bank' =
    kept g' b' group' bank' ∙ sym (ap (activity_of t) (stays (Pre k g' b') history (record { cycle = cycle; command = Refresh k }) (λ old. refl)))

size_after : (t : Timing) (cycle : ℕ) (c : Command) (banks : List Activity) → length banks ≡ MOST_BANKS → length (activities_noted t (record { cycle = cycle; command = c }) banks) ≡ MOST_BANKS
size_after t cycle (Act k g b w) banks size = length-set banks _ _ ∙ size
size_after t cycle (Rd k g b w l) banks size = size
size_after t cycle (Wr k g b w l) banks size = size
size_after t cycle (RdAuto k g b w l) banks size = length-set banks _ _ ∙ size
size_after t cycle (WrAuto k g b w l) banks size = length-set banks _ _ ∙ size
size_after t cycle (Pre k g b) banks size = length-set banks _ _ ∙ size
size_after t cycle (PreAll k) banks size = length-replicate MOST_BANKS no_activity
size_after t cycle (Refresh k) banks size = size

-- before which cycle a bank of the rank is active, after a command of the rank
leaves_rows : (cycle : ℕ) (c : Command) (bank : Option OpenBank) → opens_or_closes c ≡ false → changed_by (record { cycle = cycle; command = c }) bank ≡ bank
leaves_rows cycle (Act k g b w) bank none = cc none
leaves_rows cycle (Rd k g b w l) bank none = refl
leaves_rows cycle (Wr k g b w l) bank none = refl
leaves_rows cycle (RdAuto k g b w l) bank none = cc none
leaves_rows cycle (WrAuto k g b w l) bank none = cc none
leaves_rows cycle (Pre k g b) bank none = cc none
leaves_rows cycle (PreAll k) bank none = cc none
leaves_rows cycle (Refresh k) bank none = refl

until_step : (t : Timing) (g : Geometry) (rank : ℕ) (history : List Entry) (e : Entry) (until : ℕ) (banks : List Activity) (c : ℕ) → AreKept t rank (history ++ e ∷ []) banks → c < last
    → nat_lt c until ≡ any_bank g rank (λ bank. is_active t c (bank_behind bank history))
    → (w : Bool) → opens_or_closes e.command ≡ w
    → nat_lt c (if w then latest_until g banks else until) ≡ any_bank g rank (λ bank. is_active t c (bank_behind bank (history ++ e ∷ [])))
until_step t g rank history e until banks c kept below told true changes = latest_told t g rank (history ++ e ∷ []) banks c kept below
until_step t g rank history e until banks c kept below told false leaves =
    told
    ∙ any_bank_alike g rank (λ bank. is_active t c (bank_behind bank history)) (λ bank. is_active t c (bank_behind bank (history ++ e ∷ [])))
    (λ group bank. ap (is_active t c) (sym (stays (Pre rank group bank) history e (λ old. leaves_rows e.cycle e.command old leaves))))

-- refreshes after one more command
within_more : (t : Timing) (rank : ℕ) (history : List Entry) (e : Entry) (c : ℕ)
    → is_within_refresh t rank (history ++ e ∷ []) c ≡ (is_within_refresh t rank history c || (is_of_rank rank e.command && is_refresh e.command && nat_lt c (e.cycle + t.rfc)))
within_more t rank history e c =
    let p = λ (a : Entry). is_of_rank rank a.command && is_refresh a.command && nat_lt c (a.cycle + t.rfc) in
    list_any-append p history (e ∷ []) ∙ ap (λ w. list_any p history || w) (or_false (p e))

refresh_step : (t : Timing) (rank : ℕ) (history : List Entry) (e : Entry) (until c : ℕ) → c < last → nat_lt c until ≡ is_within_refresh t rank history c → is_of_rank rank e.command ≡ true
    → (w : Bool) → is_refresh e.command ≡ w
    → nat_lt c (if w then max until (raised t.rfc e.cycle) else until) ≡ is_within_refresh t rank (history ++ e ∷ []) c
refresh_step t rank history e until c below told own true is =
    let here : (is_of_rank rank e.command && is_refresh e.command && nat_lt c (e.cycle + t.rfc)) ≡ nat_lt c (e.cycle + t.rfc) = rw (own, is) refl in
    below_max c until (raised t.rfc e.cycle)
    ∙ ap (λ w. w || nat_lt c (raised t.rfc e.cycle)) told
    ∙ ap (λ w. is_within_refresh t rank history c || w) (below_last c (e.cycle + t.rfc) below ∙ sym here)
    ∙ sym (within_more t rank history e c)
refresh_step t rank history e until c below told own false is =
    let none : (is_of_rank rank e.command && is_refresh e.command && nat_lt c (e.cycle + t.rfc)) ≡ false = rw (own, is) refl in
    told ∙ sym (within_more t rank history e c ∙ ap (λ w. is_within_refresh t rank history c || w) none ∙ or_false (is_within_refresh t rank history c))

-- the commands up to a cycle, with one more command
up_to_more : (c : ℕ) (history : List Entry) (e : Entry) (w : Bool) → nat_le e.cycle c ≡ w → up_to c (history ++ e ∷ []) ≡ (if w then up_to c history ++ e ∷ [] else up_to c history)
up_to_more c history e true is =
    filter-append (λ (a : Entry). nat_le a.cycle c) history (e ∷ []) ∙ ap (λ w. up_to c history ++ cond w (e ∷ []) []) is
up_to_more c history e false is =
    filter-append (λ (a : Entry). nat_le a.cycle c) history (e ∷ []) ∙ ap (λ w. up_to c history ++ cond w (e ∷ []) []) is ∙ append-nil (up_to c history)

-- what a cycle is told by the commands up to it
abbrev pub active_by : Timing → Geometry → ℕ → ℕ → List Entry → Bool
active_by t g rank c past = any_bank g rank (λ bank. is_active t c (bank_behind bank past))

refreshed_by : (t : Timing) (g : Geometry) (rank : ℕ) (past : List Entry) (history : List Entry) (c : ℕ) → is_within_refresh t rank past c ≡ is_within_refresh t rank (up_to c history) c
    → active_by t g rank c past ≡ is_rank_active t g rank history c → (is_within_refresh t rank past c && not (active_by t g rank c past)) ≡ is_rank_refreshed t g rank history c
refreshed_by t g rank past history c within active = ap (λ w. w && not (active_by t g rank c past)) within ∙ ap (λ w. is_within_refresh t rank (up_to c history) c && not w) active

-- two histories that are told the same in cycles before an end have as many
record AreAlike (t : Timing) (g : Geometry) (rank end : ℕ) (history later : List Entry) : Type 0 where
  active : (c : ℕ) → c < end → is_rank_active t g rank history c ≡ is_rank_active t g rank later c
  within : (c : ℕ) → c < end → is_within_refresh t rank (up_to c history) c ≡ is_within_refresh t rank (up_to c later) c

active_alike : (t : Timing) (g : Geometry) (start end rank : ℕ) (history later : List Entry) → AreAlike t g rank end history later
    → active_clocks t g start end rank history ≡ active_clocks t g start end rank later
unfolding active_clocks
active_alike t g start end rank history later alike =
    counts_alike (is_rank_active t g rank history) (is_rank_active t g rank later) start (end - start) (λ c from below. alike.active c (omega (arith, from, below)))

refresh_alike : (t : Timing) (g : Geometry) (start end rank : ℕ) (history later : List Entry) → AreAlike t g rank end history later
    → refresh_clocks t g start end rank history ≡ refresh_clocks t g start end rank later
unfolding refresh_clocks
refresh_alike t g start end rank history later alike =
    counts_alike (is_rank_refreshed t g rank history) (is_rank_refreshed t g rank later) start (end - start)
    (λ c from below. let before : c < end = omega (arith, from, below) in refreshed_by t g rank (up_to c history) later c (alike.within c before) (alike.active c before))

-- a command is nothing to the cycles before its own
alike_before : (t : Timing) (g : Geometry) (rank : ℕ) (history : List Entry) (e : Entry) → AreAlike t g rank e.cycle history (history ++ e ∷ [])
alike_before t g rank history e = record {
  active = λ c below. ap (active_by t g rank c) (same c below);
  within = λ c below. ap (λ (past : List Entry). is_within_refresh t rank past c) (same c below);
}
  where
    same : (c : ℕ) → c < e.cycle → up_to c history ≡ up_to c (history ++ e ∷ [])
    same c below = let later : nat_le e.cycle c ≡ false = grind (arith, nat_tests) in sym (up_to_more c history e false later)

-- nor to another rank
bank_away : (k g b : ℕ) (history : List Entry) (e : Entry) → is_of_rank k e.command ≡ false → bank_behind (Pre k g b) (history ++ e ∷ []) ≡ bank_behind (Pre k g b) history
bank_away k g b history e other =
    let old = bank_behind (Pre k g b) history in
    let away : is_same_bank e.command (Pre k g b) ≡ false = rw other refl in
    bank_behind-append (Pre k g b) history e ∙ ap (λ w. if w then changed_by e old else old) away

active_away : (t : Timing) (g : Geometry) (k c : ℕ) (history : List Entry) (e : Entry) → is_of_rank k e.command ≡ false → active_by t g k c history ≡ active_by t g k c (history ++ e ∷ [])
active_away t g k c history e other =
    any_bank_alike g k (λ bank. is_active t c (bank_behind bank history)) (λ bank. is_active t c (bank_behind bank (history ++ e ∷ [])))
    (λ group bank. ap (is_active t c) (sym (bank_away k group bank history e other)))

within_away : (t : Timing) (k c : ℕ) (history : List Entry) (e : Entry) → is_of_rank k e.command ≡ false → is_within_refresh t k history c ≡ is_within_refresh t k (history ++ e ∷ []) c
within_away t k c history e other =
    let none : (is_of_rank k e.command && is_refresh e.command && nat_lt c (e.cycle + t.rfc)) ≡ false = rw other refl in
    sym (within_more t k history e c ∙ ap (λ w. is_within_refresh t k history c || w) none ∙ or_false (is_within_refresh t k history c))

alike_away : (t : Timing) (g : Geometry) (k end : ℕ) (history : List Entry) (e : Entry) → is_of_rank k e.command ≡ false → AreAlike t g k end history (history ++ e ∷ [])
alike_away t g k end history e other = record {
  active = λ c below. active_in c (nat_le e.cycle c) refl;
  within = λ c below. within_in c (nat_le e.cycle c) refl;
}
  where
    active_in : (c : ℕ) (w : Bool) → nat_le e.cycle c ≡ w → is_rank_active t g k history c ≡ is_rank_active t g k (history ++ e ∷ []) c
    active_in c true is = active_away t g k c (up_to c history) e other ∙ sym (ap (active_by t g k c) (up_to_more c history e true is))
    active_in c false is = sym (ap (active_by t g k c) (up_to_more c history e false is))

    within_in : (c : ℕ) (w : Bool) → nat_le e.cycle c ≡ w → is_within_refresh t k (up_to c history) c ≡ is_within_refresh t k (up_to c (history ++ e ∷ [])) c
    within_in c true is = within_away t k c (up_to c history) e other ∙ sym (ap (λ (past : List Entry). is_within_refresh t k past c) (up_to_more c history e true is))
    within_in c false is = sym (ap (λ (past : List Entry). is_within_refresh t k past c) (up_to_more c history e false is))

-- the rank's commands come up to a cycle
abbrev pub AreUpTo : ℕ → ℕ → List Entry → Type 0
AreUpTo rank to history = AllByRecursion (λ e. is_of_rank rank e.command ≡ true → e.cycle ≤ to) history

-- so those up to a later cycle are all that is to be known of it
bank_whole : (k g b to c : ℕ) → to ≤ c → (history : List Entry) (old : Option OpenBank) → AreUpTo k to history
    → fold (bank_after (Pre k g b)) old (up_to c history) ≡ fold (bank_after (Pre k g b)) old history
bank_whole k g b to c le [] old behind = refl
bank_whole k g b to c le (e ∷ later) old behind = by (nat_le e.cycle c) refl (λ start. bank_whole k g b to c le later start behind.1)
  where
    next : Option OpenBank
    next = bank_after (Pre k g b) old e

    rest : (w : Bool) → nat_le e.cycle c ≡ w → fold (bank_after (Pre k g b)) old (up_to c (e ∷ later)) ≡ fold (bank_after (Pre k g b)) old (cond w (e ∷ up_to c later) (up_to c later))
    rest w is = ap (λ v. fold (bank_after (Pre k g b)) old (cond v (e ∷ up_to c later) (up_to c later))) is

    away : (w : Bool) → is_of_rank k e.command ≡ w → c < e.cycle → old ≡ next
    away true own late = let here = behind.0 own in absurd (omega (arith, here, late, le))
    away false other late =
        let none : is_same_bank e.command (Pre k g b) ≡ false = rw other refl in
        sym (ap (λ w. if w then changed_by e old else old) none)

    by : (w : Bool) → nat_le e.cycle c ≡ w → ((start : Option OpenBank) → fold (bank_after (Pre k g b)) start (up_to c later) ≡ fold (bank_after (Pre k g b)) start later)
        → fold (bank_after (Pre k g b)) old (up_to c (e ∷ later)) ≡ fold (bank_after (Pre k g b)) next later
    by true is known = rest true is ∙ known next
    by false is known =
        let late : c < e.cycle = grind (arith, nat_tests) in
        rest false is ∙ known old ∙ ap (λ (start : Option OpenBank). fold (bank_after (Pre k g b)) start later) (away (is_of_rank k e.command) refl late)

active_whole : (t : Timing) (g : Geometry) (k to c : ℕ) (history : List Entry) → to ≤ c → AreUpTo k to history → is_rank_active t g k history c ≡ active_by t g k c history
unfolding bank_behind
active_whole t g k to c history le behind =
    any_bank_alike g k (λ bank. is_active t c (bank_behind bank (up_to c history))) (λ bank. is_active t c (bank_behind bank history))
    (λ group bank. ap (is_active t c) (bank_whole k group bank to c le history None behind))

within_whole : (t : Timing) (k to c : ℕ) (history : List Entry) → to ≤ c → AreUpTo k to history → is_within_refresh t k (up_to c history) c ≡ is_within_refresh t k history c
within_whole t k to c [] le behind = refl
within_whole t k to c (e ∷ later) le behind = by (nat_le e.cycle c) refl (within_whole t k to c later le behind.1)
  where
    test : Entry → Bool
    test a = is_of_rank k a.command && is_refresh a.command && nat_lt c (a.cycle + t.rfc)

    rest : (w : Bool) → nat_le e.cycle c ≡ w → list_any test (up_to c (e ∷ later)) ≡ list_any test (cond w (e ∷ up_to c later) (up_to c later))
    rest w is = ap (λ v. list_any test (cond v (e ∷ up_to c later) (up_to c later))) is

    away : (w : Bool) → is_of_rank k e.command ≡ w → c < e.cycle → false ≡ test e
    away true own late = let here = behind.0 own in absurd (omega (arith, here, late, le))
    away false other late = sym (rw other refl)

    by : (w : Bool) → nat_le e.cycle c ≡ w → list_any test (up_to c later) ≡ list_any test later → list_any test (up_to c (e ∷ later)) ≡ (test e || list_any test later)
    by true is known = rest true is ∙ ap (λ w. test e || w) known
    by false is known =
        let late : c < e.cycle = grind (arith, nat_tests) in
        rest false is ∙ known ∙ ap (λ w. w || list_any test later) (away (is_of_rank k e.command) refl late)

-- What is kept of a rank whose commands come up to some cycle, from which on nothing but an end tells.
pub record IsKept (t : Timing) (g : Geometry) (start rank : ℕ) (history : List Entry) (kept : Background) : Type 0 where
  pub active_until : (c : ℕ) → c < last → nat_lt c kept.active_until ≡ active_by t g rank c history
  pub refresh_until : (c : ℕ) → c < last → nat_lt c kept.refresh_until ≡ is_within_refresh t rank history c
  pub from_start : start ≤ kept.counted_to
  pub behind : AreUpTo rank kept.counted_to history
  pub active : kept.active ≡ active_clocks t g start kept.counted_to rank history
  pub refresh : kept.refresh ≡ refresh_clocks t g start kept.counted_to rank history

within_count : (test : ℕ → Bool) (a n : ℕ) → count_by test (range_with_len a n) ≤ n
within_count test a zero = omega arith
within_count test a (suc n) =
    let first = step_count test a n in
    let rest = within_count test (a + 1) n in
    let one = one_at_most (test a) in
    omega (arith, first, rest, one)
  where
    one_at_most : (w : Bool) → (if w then 1 else 0) ≤ 1
    one_at_most true = omega arith
    one_at_most false = omega arith

-- the cycles up to an end are those that are counted, and those since
counts_since : (test : ℕ → Bool) (start to end : ℕ) → start ≤ to → to ≤ end → count_by test (range_with_len start (end - start)) ≡ count_by test (range_with_len start (to - start)) + count_by test (range_with_len to (end - to))
counts_since test start to end from le =
    let whole : end - start ≡ (to - start) + (end - to) = omega (arith, from, le) in
    let there : start + (to - start) ≡ to = omega (arith, from) in
    ap (λ n. count_by test (range_with_len start n)) whole
    ∙ counts_join test start (to - start) (end - to)
    ∙ ap (λ a. count_by test (range_with_len start (to - start)) + count_by test (range_with_len a (end - to))) there

active_since : (t : Timing) (g : Geometry) (start rank : ℕ) (history : List Entry) (kept : Background) (end : ℕ) → IsKept t g start rank history kept → kept.counted_to ≤ end → end ≤ last
    → count_by (is_rank_active t g rank history) (range_with_len kept.counted_to (end - kept.counted_to)) ≡ min kept.active_until end - kept.counted_to
active_since t g start rank history kept end is le below =
    let whole : kept.counted_to + (end - kept.counted_to) ≡ end = omega (arith, le) in
    counts_alike (is_rank_active t g rank history) (λ c. nat_lt c kept.active_until) kept.counted_to (end - kept.counted_to)
    (λ c from before. active_whole t g rank kept.counted_to c history from is.behind ∙ sym (is.active_until c (omega (arith, before, whole, below))))
    ∙ counts_below kept.active_until kept.counted_to (end - kept.counted_to)
    ∙ ap (λ n. min kept.active_until n - kept.counted_to) whole

refresh_since : (t : Timing) (g : Geometry) (start rank : ℕ) (history : List Entry) (kept : Background) (end : ℕ) → IsKept t g start rank history kept → kept.counted_to ≤ end → end ≤ last
    → count_by (is_rank_refreshed t g rank history) (range_with_len kept.counted_to (end - kept.counted_to)) ≡ min kept.refresh_until end - max kept.counted_to kept.active_until
refresh_since t g start rank history kept end is le below =
    let whole : kept.counted_to + (end - kept.counted_to) ≡ end = omega (arith, le) in
    counts_alike (is_rank_refreshed t g rank history) (λ c. nat_lt c kept.refresh_until && not (nat_lt c kept.active_until)) kept.counted_to (end - kept.counted_to)
    (λ c from before.
    let early : c < last = omega (arith, before, whole, below) in
    sym (refreshed_by t g rank history history c (sym (within_whole t rank kept.counted_to c history from is.behind)) (sym (active_whole t g rank kept.counted_to c history from is.behind)))
    ∙ ap (λ w. w && not (active_by t g rank c history)) (sym (is.refresh_until c early))
    ∙ ap (λ w. nat_lt c kept.refresh_until && not w) (sym (is.active_until c early)))
    ∙ counts_between kept.refresh_until kept.active_until kept.counted_to (end - kept.counted_to)
    ∙ ap (λ n. min kept.refresh_until n - max kept.counted_to kept.active_until) whole

-- so the clocks up to an end are those of the history, where the rank's commands come before it
no_clocks : (test : ℕ → Bool) (start end : ℕ) → end ≤ start → clocks_of test start end ≡ 0
no_clocks test start end le = let none : end - start ≡ 0 = omega (arith, le) in ap (λ n. count_by test (range_with_len start n)) none

abbrev pub Comes : ℕ → Background → ℕ → Type 0
Comes start kept end = start < kept.counted_to → kept.counted_to < end

-- no command came since the start, where one would come behind the end
at_start : (start to end : ℕ) → (start < to → to < end) → end ≤ to → to ≤ start
at_start start to end comes late = by (nat_lt start to) refl
  where
    by : (w : Bool) → nat_lt start to ≡ w → to ≤ start
    by true h = let early = comes (ltb-true start to h) in absurd (omega (arith, early, late))
    by false h = grind (arith, nat_tests)

pub active_told : (t : Timing) (g : Geometry) (start rank : ℕ) (history : List Entry) (kept : Background) (end : ℕ) → IsKept t g start rank history kept → Comes start kept end → end ≤ last
    → active_to kept end ≡ active_clocks t g start end rank history
unfolding active_clocks
active_told t g start rank history kept end is comes below = by (nat_le kept.counted_to end) refl
  where
    by : (w : Bool) → nat_le kept.counted_to end ≡ w → raised (min kept.active_until end - kept.counted_to) kept.active ≡ clocks_of (is_rank_active t g rank history) start end
    by true h =
        let le : kept.counted_to ≤ end = grind (arith, nat_tests) in
        let parts = counts_since (is_rank_active t g rank history) start kept.counted_to end is.from_start le in
        let since = active_since t g start rank history kept end is le below in
        let most = within_count (is_rank_active t g rank history) start (end - start) in
        let before = is.active in
        omega (arith, parts, since, most, before, below)
    by false h =
        let lt : end < kept.counted_to = grind (arith, nat_tests) in
        let none_came = at_start start kept.counted_to end comes (omega (arith, lt)) in
        let none = no_clocks (is_rank_active t g rank history) start end (omega (arith, lt, none_came)) in
        let before = is.active in
        let early = no_clocks (is_rank_active t g rank history) start kept.counted_to none_came in
        omega (arith, none, before, early, lt)

pub refresh_told : (t : Timing) (g : Geometry) (start rank : ℕ) (history : List Entry) (kept : Background) (end : ℕ) → IsKept t g start rank history kept → Comes start kept end → end ≤ last
    → refresh_to kept end ≡ refresh_clocks t g start end rank history
unfolding refresh_clocks
refresh_told t g start rank history kept end is comes below = by (nat_le kept.counted_to end) refl
  where
    by : (w : Bool) → nat_le kept.counted_to end ≡ w → raised (min kept.refresh_until end - max kept.counted_to kept.active_until) kept.refresh ≡ clocks_of (is_rank_refreshed t g rank history) start end
    by true h =
        let le : kept.counted_to ≤ end = grind (arith, nat_tests) in
        let parts = counts_since (is_rank_refreshed t g rank history) start kept.counted_to end is.from_start le in
        let since = refresh_since t g start rank history kept end is le below in
        let most = within_count (is_rank_refreshed t g rank history) start (end - start) in
        let before = is.refresh in
        omega (arith, parts, since, most, before, below)
    by false h =
        let lt : end < kept.counted_to = grind (arith, nat_tests) in
        let none_came = at_start start kept.counted_to end comes (omega (arith, lt)) in
        let none = no_clocks (is_rank_refreshed t g rank history) start end (omega (arith, lt, none_came)) in
        let before = is.refresh in
        let early = no_clocks (is_rank_refreshed t g rank history) start kept.counted_to none_came in
        omega (arith, none, before, early, lt)

-- cycles that rise with one more command
order_front : (end : ℕ) (history : List Entry) (e : Entry) → IsInOrder end (history ++ e ∷ []) → IsInOrder e.cycle history × IsInOrder end history × (e.cycle < end)
order_front end [] e order = (tt, tt, order.0)
order_front end (a ∷ []) e order =
    let here : a.cycle < end = order.0 in
    let below : a.cycle < e.cycle = order.1 in
    let last_one : e.cycle < end = order.2.0 in
    ((below, tt, tt), (here, tt, tt), last_one)
order_front end (a ∷ b ∷ later) e order =
    let rest = order_front end (b ∷ later) e order.2 in
    let here : a.cycle < end = order.0 in
    let next : a.cycle < b.cycle = order.1 in
    let its : b.cycle < e.cycle = rest.0.0 in
    let below : a.cycle < e.cycle = omega (arith, next, its) in
    ((below, next, rest.0), (here, next, rest.1), rest.2)

up_to_later : (rank to more : ℕ) → to ≤ more → (history : List Entry) (e : Entry) → AreUpTo rank to history → (is_of_rank rank e.command ≡ true → e.cycle ≤ more) → AreUpTo rank more (history ++ e ∷ [])
up_to_later rank to more le [] e behind here = (here, tt)
up_to_later rank to more le (a ∷ later) e behind here =
    (λ own. let known = behind.0 own in omega (arith, known, le), up_to_later rank to more le later e behind.1 here)

is_kept : (t : Timing) (g : Geometry) (start rank : ℕ) (history : List Entry) (kept : Background) → KeepsBackground t g start rank history kept → IsInOrder last history → IsKept t g start rank history kept
is_kept t g start rank history kept keeps order = record {
  active_until = keeps.active_until;
  refresh_until = keeps.refresh_until;
  from_start = keeps.from_start;
  behind = keeps.behind;
  active = (keeps.counted order).active;
  refresh = (keeps.counted order).refresh;
}

-- what comes before the newest command's cycle is counted
module _ (t : Timing) (g : Geometry) (start : ℕ) (history : List Entry) (e : Entry) (kept : Background) where
  ends_alike : (test : ℕ → Bool) → Comes start kept e.cycle → start ≤ kept.counted_to → clocks_of test start e.cycle ≡ clocks_of test start (max kept.counted_to e.cycle)
  ends_alike test comes from =
      let same : e.cycle - start ≡ max kept.counted_to e.cycle - start = by (nat_le e.cycle kept.counted_to) refl in
      ap (λ n. count_by test (range_with_len start n)) same
    where
      by : (w : Bool) → nat_le e.cycle kept.counted_to ≡ w → e.cycle - start ≡ max kept.counted_to e.cycle - start
      by true h =
          let le : e.cycle ≤ kept.counted_to = grind (arith, nat_tests) in
          let none_came = at_start start kept.counted_to e.cycle comes le in
          omega (arith, le, none_came, from)
      by false h = let lt : kept.counted_to < e.cycle = grind (arith, nat_tests) in omega (arith, lt)

  own_counted : (rank : ℕ) → KeepsBackground t g start rank history kept → IsInOrder last (history ++ e ∷ []) → HasCounted t g start rank (history ++ e ∷ []) (background_noted t g e kept)
  unfolding active_clocks refresh_clocks
  own_counted rank keeps order =
      let front = order_front last history e order in
      let is = is_kept t g start rank history kept keeps front.1 in
      let comes : Comes start kept e.cycle = keeps.below e.cycle front.0 in
      let below : e.cycle ≤ last = let h = front.2 in omega (arith, h) in
      let alike = alike_before t g rank history e in
      record {
        active =
            active_told t g start rank history kept e.cycle is comes below
            ∙ active_alike t g start e.cycle rank history (history ++ e ∷ []) alike
            ∙ ends_alike (is_rank_active t g rank (history ++ e ∷ [])) comes keeps.from_start;
        refresh =
            refresh_told t g start rank history kept e.cycle is comes below
            ∙ refresh_alike t g start e.cycle rank history (history ++ e ∷ []) alike
            ∙ ends_alike (is_rank_refreshed t g rank (history ++ e ∷ [])) comes keeps.from_start;
      }

pub keeps_own_clocks : (t : Timing) (g : Geometry) (start : ℕ) (history : List Entry) (e : Entry) (kept : Background) → KeepsBackground t g start (rank_of e.command) history kept
    → group_of e.command < MOST_GROUPS → bank_of e.command < GROUP_BANKS → KeepsBackground t g start (rank_of e.command) (history ++ e ∷ []) (background_noted t g e kept)
keeps_own_clocks t g start history e kept keeps group bank = record {
  size = size_after t e.cycle e.command kept.banks keeps.size;
  banks = banks;
  active_until = λ c below. until_step t g rank history e kept.active_until (activities_noted t e kept.banks) c banks below (keeps.active_until c below) (opens_or_closes e.command) refl;
  refresh_until = λ c below. refresh_step t rank history e kept.refresh_until c below (keeps.refresh_until c below) (same_number rank) (is_refresh e.command) refl;
  from_start = let from = keeps.from_start in omega (arith, from);
  behind = up_to_later rank kept.counted_to (max kept.counted_to e.cycle) (omega arith) history e keeps.behind (λ own. omega arith);
  below = λ end order after.
      let front = order_front end history e order in
      let here = front.2 in
      let known = keeps.below end front.1 in
      below_end end here known after (nat_lt start kept.counted_to) refl;
  counted = own_counted t g start history e kept rank keeps;
}
  where
    rank : ℕ
    rank = rank_of e.command

    banks : AreKept t rank (history ++ e ∷ []) (activities_noted t e kept.banks)
    banks = banks_step t history e.cycle e.command kept.banks keeps.banks keeps.size group bank

    below_end : (end : ℕ) → e.cycle < end → (start < kept.counted_to → kept.counted_to < end) → start < max kept.counted_to e.cycle → (w : Bool) → nat_lt start kept.counted_to ≡ w → max kept.counted_to e.cycle < end
    below_end end here known after true h = let early = known (ltb-true start kept.counted_to h) in omega (arith, here, early)
    below_end end here known after false h = let none_came : kept.counted_to ≤ start = grind (arith, nat_tests) in omega (arith, here, after, none_came)

pub keeps_other_clocks : (t : Timing) (g : Geometry) (start k : ℕ) (history : List Entry) (e : Entry) (kept : Background) → KeepsBackground t g start k history kept → is_of_rank k e.command ≡ false
    → KeepsBackground t g start k (history ++ e ∷ []) kept
keeps_other_clocks t g start k history e kept keeps other = record {
  size = keeps.size;
  banks = λ group bank few fewer. keeps.banks group bank few fewer ∙ sym (ap (activity_of t) (bank_away k group bank history e other));
  active_until = λ c below. keeps.active_until c below ∙ active_away t g k c history e other;
  refresh_until = λ c below. keeps.refresh_until c below ∙ within_away t k c history e other;
  from_start = keeps.from_start;
  behind = up_to_later k kept.counted_to kept.counted_to (omega arith) history e keeps.behind (λ own. cc (own, other));
  below = λ end order after. let front = order_front end history e order in keeps.below end front.1 after;
  counted = λ order.
      let front = order_front last history e order in
      let counted = keeps.counted front.1 in
      let alike = alike_away t g k kept.counted_to history e other in
      record {
        active = counted.active ∙ active_alike t g start kept.counted_to k history (history ++ e ∷ []) alike;
        refresh = counted.refresh ∙ refresh_alike t g start kept.counted_to k history (history ++ e ∷ []) alike;
      };
}

-- before the first command
no_bank_active : (t : Timing) (g : Geometry) (rank c : ℕ) → false ≡ active_by t g rank c []
unfolding bank_behind
no_bank_active t g rank c = none 0 (g.groups * 4)
  where
    none : (a n : ℕ) → false ≡ list_any (λ k. is_active t c (bank_behind (Pre rank (k / 4) (k % 4)) [])) (range_with_len a n)
    none a zero = refl
    none a (suc n) = none (a + 1) n

pub new_keeps_clocks : (t : Timing) (g : Geometry) (start rank : ℕ) → KeepsBackground t g start rank [] (new_background start)
unfolding bank_behind active_clocks refresh_clocks
new_keeps_clocks t g start rank = record {
  size = length-replicate MOST_BANKS no_activity;
  banks = λ group bank few fewer. get_or-replicate MOST_BANKS (group * GROUP_BANKS + bank) no_activity no_activity (omega (arith, few, fewer));
  active_until = λ c below. let none : nat_lt c 0 ≡ false = grind (arith, nat_tests) in none ∙ no_bank_active t g rank c;
  refresh_until = λ c below. grind (arith, nat_tests);
  from_start = omega arith;
  behind = tt;
  below = λ end order after. absurd (omega (arith, after));
  counted = λ order. record {
    active = sym (no_clocks (is_rank_active t g rank []) start start (omega arith));
    refresh = sym (no_clocks (is_rank_refreshed t g rank []) start start (omega arith));
  };
}

-- the clocks of a rank up to the trace's end
pub idle_told : (t : Timing) (g : Geometry) (start end rank : ℕ) (history : List Entry) (active refresh : ℕ) → active ≡ active_clocks t g start end rank history → refresh ≡ refresh_clocks t g start end rank history → end ≤ last
    → (end - start) - min (active + refresh) last ≡ idle_clocks t g start end rank history
idle_told t g start end rank history active refresh is_active_one is_refresh_one below =
    let all = clocks_add_up t g start end rank history in
    omega (arith, all, is_active_one, is_refresh_one, below)

pub clocks_told : (t : Timing) (g : Geometry) (start rank end : ℕ) (history : List Entry) (kept : Background) → KeepsBackground t g start rank history kept → IsInOrder end history → end ≤ last
    → (active_to kept end ≡ active_clocks t g start end rank history) × (refresh_to kept end ≡ refresh_clocks t g start end rank history)
clocks_told t g start rank end history kept keeps order below =
    let is = is_kept t g start rank history kept keeps (order_up end last below history order) in
    let comes : Comes start kept end = keeps.below end order in
    (active_told t g start rank history kept end is comes below, refresh_told t g start rank history kept end is comes below)
  where
    order_up : (least most : ℕ) → least ≤ most → (past : List Entry) → IsInOrder least past → IsInOrder most past
    order_up least most le [] rise = tt
    order_up least most le (a ∷ later) rise = let here : a.cycle < least = rise.0 in (omega (arith, here, le), rise.1, order_up least most le later rise.2)
