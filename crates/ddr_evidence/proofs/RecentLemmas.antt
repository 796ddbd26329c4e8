-- An entry that stands far enough behind an earlier one breaks no rule with it.
use Rattle.std.proofs.Common.{◌≡◌, ℕ, zero, suc, ◌+◌, ◌-◌, ◌≤◌, Bool, true, false, ◌&&◌, cond, nat_lt, List, [], ◌∷◌, take, drop, Option, Some, None, refl, arith}
use Rattle.std.specs.Prelude.{max, not, ◌==◌, slice_get}
use Rattle.std.specs.List.{All, count_by, list_any}
use Rattle.std.specs.Option.{option_map_or}
use Rattle.std.proofs.lemmas.Bool.Decides.{nat_tests}
use Rattle.std.proofs.lemmas.List.Elements.{All-head, All-tail, All-weaker}
use Rattle.ddr_timing.specs.declared.timing.Timing.{Timing}
use Rattle.ddr_timing.specs.declared.units.TheConstants.{BURST_CLOCKS}
use Rattle.ddr_trace.specs.declared.command.Command.{Command}
use Rattle.ddr_trace.specs.declared.command.Entry.{Entry}
use Rattle.ddr_trace.specs.declared.rule.Rule.{Rule}
use Rattle.ddr_trace.specs.declared.rule.Rule.TheVariants as rule
use Rattle.ddr_trace.specs.Commands.{is_activate, is_column, is_read, is_same_rank}
use Rattle.ddr_trace.specs.Rules.{is_switched_too_soon, is_too_close, latency, rank_switch, some_earlier, spacing_of, speaks_of}
use Rattle.ddr_evidence.specs.Places.{are_breaking, counts, pair_breaks}
use Rattle.ddr_evidence.specs.Recent.{is_later, is_of_near, span_of}
use Rattle.ddr_evidence.proofs.FindLemmas.{pair_kept}

-- ---- a command that is not the later one of a pair

second_of_three : (a b c d : Bool) → b ≡ false → ((a && b && c) && d) ≡ false
second_of_three true true c d e = cc
second_of_three true false c d e = refl
second_of_three false b c d e = refl

second_of_four : (a b c d : Bool) → b ≡ false → (a && b && c && d) ≡ false
second_of_four true true c d e = cc
second_of_four true false c d e = refl
second_of_four false b c d e = refl

second_of_five : (a b c d f : Bool) → b ≡ false → (a && b && c && d && f) ≡ false
second_of_five true true c d f e = cc
second_of_five true false c d f e = refl
second_of_five false b c d f e = refl

none_with : (t : Timing) (r : Rule) (e a : Entry) (between : ℕ) → is_of_near r ≡ true → is_later t r e.command ≡ false → are_breaking t r e a between ≡ false
none_with t rule.Rtrs e a between near wrong = second_of_four (is_column a.command) (is_column e.command) (not (is_same_rank a.command e.command)) _ wrong
none_with t rule.Faw e a between near wrong = second_of_five (is_activate a.command) (is_activate e.command) (is_same_rank a.command e.command) (between == 3) _ wrong
none_with t rule.RefGap e a between near wrong = cc
none_with t r e a between near wrong = second_of_three ((spacing_of t r).earlier a.command) ((spacing_of t r).later e.command) ((spacing_of t r).pairs a.command e.command) (nat_lt e.cycle (a.cycle + (spacing_of t r).at_least)) wrong

pub not_later : (t : Timing) (r : Rule) (history : List Entry) (e : Entry) → is_of_near r ≡ true → is_later t r e.command ≡ false → pair_breaks t r history e ≡ false
not_later t r history e near wrong = pair_kept t r history e (λ place. at (slice_get history place) (count_by (counts r e) (drop (place + 1) history)))
  where
    at : (o : Option Entry) (n : ℕ) → option_map_or (λ a. are_breaking t r e a n) o false ≡ false
    at None n = refl
    at (Some a) n = none_with t r e a n near wrong

-- ---- an entry far enough before

last_of : (a b : Bool) → b ≡ false → (a && b) ≡ false
last_of true b e = e
last_of false b e = refl

last_of_four : (a b c d : Bool) → d ≡ false → (a && b && c && d) ≡ false
last_of_four false b c d e = refl
last_of_four true false c d e = refl
last_of_four true true false d e = refl
last_of_four true true true d e = e

last_of_five : (a b c d f : Bool) → f ≡ false → (a && b && c && d && f) ≡ false
last_of_five false b c d f e = refl
last_of_five true false c d f e = refl
last_of_five true true false d f e = refl
last_of_five true true true false f e = refl
last_of_five true true true true f e = e

not_below : (cycle end : ℕ) → end ≤ cycle → nat_lt cycle end ≡ false
not_below cycle end far = grind (arith, nat_tests)

one_latency : (b : Bool) (x y : ℕ) → cond b x y ≤ max x y
one_latency true x y = omega arith
one_latency false x y = omega arith

switch_within : (t : Timing) (a b : Command) → rank_switch t a b ≤ max t.cl t.cwl + BURST_CLOCKS + t.rtrs
switch_within t a b =
    let low = one_latency (is_read a) t.cl t.cwl in
    go (latency t a) (latency t b) low
  where
    go : (x y : ℕ) → x ≤ max t.cl t.cwl → max BURST_CLOCKS (x + BURST_CLOCKS + t.rtrs - y) ≤ max t.cl t.cwl + BURST_CLOCKS + t.rtrs
    go x y low = omega arith

none_far : (t : Timing) (r : Rule) (e a : Entry) (between : ℕ) → is_of_near r ≡ true → a.cycle + span_of t r ≤ e.cycle → are_breaking t r e a between ≡ false
none_far t rule.Rtrs e a between near far =
    let low = switch_within t a.command e.command in
    last_of_four (is_column a.command) (is_column e.command) (not (is_same_rank a.command e.command)) _ (not_below e.cycle (a.cycle + rank_switch t a.command e.command) (omega (arith, low, far)))
none_far t rule.Faw e a between near far = last_of_five (is_activate a.command) (is_activate e.command) (is_same_rank a.command e.command) (between == 3) _ (not_below e.cycle (a.cycle + t.faw) far)
none_far t rule.RefGap e a between near far = cc
none_far t r e a between near far = last_of (speaks_of (spacing_of t r) a.command e.command) _ (not_below e.cycle (a.cycle + (spacing_of t r).at_least) far)

-- what fails of the first entries is told by the others
any_behind : (test : Entry → Bool) (k : ℕ) (history : List Entry) → All (λ a. test a ≡ false) (take k history) → list_any test history ≡ list_any test (drop k history)
any_behind test zero history none = refl
any_behind test (suc k) [] none = refl
any_behind test (suc k) (a ∷ history) none =
    let here : test a ≡ false = All-head (λ a. test a ≡ false) a (take k history) none in
    rw here (any_behind test k history (All-tail (λ a. test a ≡ false) a (take k history) none))

earlier_behind : (test : Entry → List Entry → Bool) (k : ℕ) (history : List Entry) → All (λ a. (between : List Entry) → test a between ≡ false) (take k history) → some_earlier test history ≡ some_earlier test (drop k history)
earlier_behind test zero history none = refl
earlier_behind test (suc k) [] none = refl
earlier_behind test (suc k) (a ∷ history) none =
    let here : test a history ≡ false = All-head (λ a. (between : List Entry) → test a between ≡ false) a (take k history) none history in
    rw here (earlier_behind test k history (All-tail (λ a. (between : List Entry) → test a between ≡ false) a (take k history) none))

abbrev IsFar : Timing → Rule → Entry → Entry → Type 0
IsFar t r e a = a.cycle + span_of t r ≤ e.cycle

pub pair_behind : (t : Timing) (r : Rule) (history : List Entry) (e : Entry) (k : ℕ) → is_of_near r ≡ true → All (λ a. a.cycle + span_of t r ≤ e.cycle) (take k history) → pair_breaks t r history e ≡ pair_breaks t r (drop k history) e
pair_behind t rule.Rtrs history e k near far =
    any_behind (λ a. is_switched_too_soon t a e) k history
    (All-weaker (IsFar t rule.Rtrs e) (λ a. is_switched_too_soon t a e ≡ false) (λ a here. none_far t rule.Rtrs e a 0 near here) (take k history) far)
pair_behind t rule.Faw history e k near far =
    earlier_behind (λ a between. are_breaking t rule.Faw e a (count_by (counts rule.Faw e) between)) k history
    (All-weaker (IsFar t rule.Faw e) (λ a. (between : List Entry) → are_breaking t rule.Faw e a (count_by (counts rule.Faw e) between) ≡ false)
    (λ a here between. none_far t rule.Faw e a (count_by (counts rule.Faw e) between) near here) (take k history) far)
pair_behind t rule.RefGap history e k near far = cc
pair_behind t r history e k near far =
    any_behind (λ a. is_too_close (spacing_of t r) a e) k history
    (All-weaker (IsFar t r e) (λ a. is_too_close (spacing_of t r) a e ≡ false) (λ a here. none_far t r e a 0 near here) (take k history) far)
