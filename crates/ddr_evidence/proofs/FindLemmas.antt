-- A rule that earlier entries break, by each earlier entry.
use Rattle.std.proofs.Common.{◌≡◌, ℕ, zero, suc, ◌+◌, ◌*◌, ◌/◌, ◌<◌, ◌≤◌, Bool, true, false, ◌&&◌, ◌||◌, cond, nat_lt, List, [], ◌∷◌, drop, refl, sym, subst, ap, ◌∙◌, ltb-true, ltb-false, arith}
use Rattle.std.specs.Prelude.{MatchOption, Option, Some, None, is_some, not, slice_get}
use Rattle.std.specs.List.{count_by, list_any, range_with_len}
use Rattle.std.specs.Option.{option_map_or}
use Rattle.ddr_timing.specs.declared.config.Config.{Config}
use Rattle.ddr_timing.specs.declared.geometry.Geometry.{Geometry}
use Rattle.ddr_timing.specs.declared.timing.Timing.{Timing}
use Rattle.ddr_timing.specs.declared.units.TheConstants.{GROUP_BANKS, LINE_COLUMNS}
use Rattle.ddr_trace.specs.declared.bank.OpenBank.{OpenBank}
use Rattle.ddr_trace.specs.declared.command.Command.{Command}
use Rattle.ddr_trace.specs.declared.command.Command.TheVariants.{Act, Rd, Wr, RdAuto, WrAuto, Pre, PreAll, Refresh}
use Rattle.ddr_trace.specs.declared.command.Entry.{Entry}
use Rattle.ddr_trace.specs.declared.rule.Rule.{Rule}
use Rattle.ddr_trace.specs.declared.rule.Rule.TheVariants as rule
use Rattle.ddr_trace.specs.Banks.{any_bank, bank_behind}
use Rattle.ddr_trace.specs.Rules.{ends_late, is_in, is_switched_too_soon, is_too_close, refresh_count, some_earlier, spacing_of}
use Rattle.ddr_evidence.specs.declared.evidence.Part.TheVariants as part
use Rattle.ddr_evidence.specs.declared.evidence.Part.{Part}
use Rattle.ddr_evidence.specs.Evidence.{IsFirstBank, bound_of, first_outside, first_part, is_outside, number_in}
use Rattle.ddr_evidence.specs.Places.{are_breaking, bank_at, breaks_from, counts, pair_breaks}

-- no place passes
no_earlier : (test : Entry → List Entry → Bool) (history : List Entry) → ((place : ℕ) → option_map_or (λ a. test a (drop (place + 1) history)) (slice_get history place) false ≡ false) → some_earlier test history ≡ false
no_earlier test [] none = refl
no_earlier test (a ∷ history) none =
    let here : test a history ≡ false = none 0 in
    rw here (no_earlier test history (λ place.
    let next : suc place + 1 ≡ suc (place + 1) = omega arith in
    let Fails : ℕ → Type 0 = λ n. option_map_or (λ b. test b (drop n (a ∷ history))) (slice_get history place) false ≡ false in
    subst Fails next (none (suc place))))

none_any : (test : Entry → Bool) (history : List Entry) → ((place : ℕ) → option_map_or test (slice_get history place) false ≡ false) → list_any test history ≡ false
none_any test [] none = refl
none_any test (a ∷ history) none = let here : test a ≡ false = none 0 in rw here (none_any test history (λ place. none (suc place)))

-- where no earlier entry breaks it, it is not broken
pub pair_kept : (t : Timing) (r : Rule) (history : List Entry) (e : Entry) → ((place : ℕ) → breaks_from t r history e place ≡ false) → pair_breaks t r history e ≡ false
pair_kept t rule.Rtrs history e none = none_any (λ a. is_switched_too_soon t a e) history none
pair_kept t rule.Faw history e none = no_earlier (λ a between. are_breaking t rule.Faw e a (count_by (counts rule.Faw e) between)) history none
pair_kept t rule.RefGap history e none = no_earlier (λ a between. are_breaking t rule.RefGap e a (count_by (counts rule.RefGap e) between)) history none
pair_kept t r history e none = none_any (λ a. is_too_close (spacing_of t r) a e) history none

or_true : (b : Bool) → (b || true) ≡ true
or_true true = refl
or_true false = refl

-- some place passes
some_any : (test : Entry → Bool) (history : List Entry) (place : ℕ) → option_map_or test (slice_get history place) false ≡ true → list_any test history ≡ true
some_any test [] place here = cc
some_any test (a ∷ history) zero here = let first : test a ≡ true = here in rw first refl
some_any test (a ∷ history) (suc place) here = rw (some_any test history place here) (or_true (test a))

some_at : (test : Entry → List Entry → Bool) (history : List Entry) (place : ℕ) → option_map_or (λ a. test a (drop (place + 1) history)) (slice_get history place) false ≡ true → some_earlier test history ≡ true
some_at test [] place here = cc
some_at test (a ∷ history) zero here = let first : test a history ≡ true = here in rw first refl
some_at test (a ∷ history) (suc place) here =
    let next : suc place + 1 ≡ suc (place + 1) = omega arith in
    let Passes : ℕ → Type 0 = λ n. option_map_or (λ b. test b (drop n (a ∷ history))) (slice_get history place) false ≡ true in
    rw (some_at test history place (subst Passes next here)) (or_true (test a history))

-- where an earlier entry breaks it, it is broken
pub pair_broken : (t : Timing) (r : Rule) (history : List Entry) (e : Entry) (place : ℕ) → breaks_from t r history e place ≡ true → pair_breaks t r history e ≡ true
pair_broken t rule.Rtrs history e place here = some_any (λ a. is_switched_too_soon t a e) history place here
pair_broken t rule.Faw history e place here = some_at (λ a between. are_breaking t rule.Faw e a (count_by (counts rule.Faw e) between)) history place here
pair_broken t rule.RefGap history e place here = some_at (λ a between. are_breaking t rule.RefGap e a (count_by (counts rule.RefGap e) between)) history place here
pair_broken t r history e place here = some_any (λ a. is_too_close (spacing_of t r) a e) history place here

-- none of so many numbers passes
pub none_in_range : (test : ℕ → Bool) (a n : ℕ) → ((k : ℕ) → a ≤ k → k < a + n → test k ≡ false) → list_any test (range_with_len a n) ≡ false
none_in_range test a zero none = refl
none_in_range test a (suc n) none =
    let here : test a ≡ false = none a (omega arith) (omega arith) in
    rw here (none_in_range test (a + 1) n (λ k above below. none k (omega (arith, above)) (omega (arith, below))))

-- one of them passes
pub some_in_range : (test : ℕ → Bool) (a n k : ℕ) → a ≤ k → k < a + n → test k ≡ true → list_any test (range_with_len a n) ≡ true
some_in_range test a zero k above below here = absurd (omega (arith, above, below))
some_in_range test a (suc n) k above below here = go (nat_lt a k) refl (some_in_range test (a + 1) n k)
  where
    go : (b : Bool) → nat_lt a k ≡ b → (a + 1 ≤ k → k < a + 1 + n → test k ≡ true → list_any test (range_with_len (a + 1) n) ≡ true) → (test a || list_any test (range_with_len (a + 1) n)) ≡ true
    go true less later = let more = ltb-true a k less in rw (later (omega (arith, more)) (omega (arith, below)) here) (or_true (test a))
    go false even later =
        let over = ltb-false a k even in
        let same : k ≡ a = omega (arith, over, above) in
        let first : test a ≡ true = ap test (sym same) ∙ here in
        rw first refl

-- some bank of the rank passes
pub any_bank_some : (g : Geometry) (rank : ℕ) (test : Command → Bool) (number : ℕ) → number < g.groups * GROUP_BANKS → test (bank_at rank number) ≡ true → any_bank g rank test ≡ true
any_bank_some g rank test number below here = some_in_range (λ n. test (bank_at rank n)) 0 (g.groups * GROUP_BANKS) number (omega arith) (omega (arith, below)) here

-- no bank of the rank passes
pub any_bank_none : (g : Geometry) (rank : ℕ) (test : Command → Bool) → ((number : ℕ) → number < g.groups * GROUP_BANKS → test (bank_at rank number) ≡ false) → any_bank g rank test ≡ false
any_bank_none g rank test none =
    none_in_range (λ n. test (bank_at rank n)) 0 (g.groups * GROUP_BANKS) (λ k above below. none k (omega (arith, below)))

-- the first bank that passes a test of what the history makes of it, or none
pub first_is_any : (c : Config) (rank : ℕ) (history : List Entry) (test : Option OpenBank → Bool) (found : Option ℕ)
    → MatchOption found ((number : ℕ) → number < c.geometry.groups * GROUP_BANKS → test (bank_behind (bank_at rank number) history) ≡ false) (IsFirstBank c test rank history)
    → is_some found ≡ any_bank c.geometry rank (λ bank. test (bank_behind bank history))
first_is_any c rank history test None none = sym (any_bank_none c.geometry rank (λ bank. test (bank_behind bank history)) none)
first_is_any c rank history test (Some number) first = sym (any_bank_some c.geometry rank (λ bank. test (bank_behind bank history)) number first.inside first.passes)

-- no rank is late at the trace's end
pub ends_in_time : (c : Config) (start end : ℕ) (entries : List Entry) → ((rank : ℕ) → rank < c.geometry.ranks → nat_lt (start + (refresh_count entries (Refresh rank) + 9) * c.timing.refi) end ≡ false) → ends_late c start end entries ≡ false
ends_in_time c start end entries none =
    none_in_range (λ rank. nat_lt (start + (refresh_count entries (Refresh rank) + 9) * c.timing.refi) end) 0 c.geometry.ranks (λ k above below. none k (omega (arith, below)))

-- a rank is late at the trace's end
pub ends_behind : (c : Config) (start end : ℕ) (entries : List Entry) (rank : ℕ) → rank < c.geometry.ranks → nat_lt (start + (refresh_count entries (Refresh rank) + 9) * c.timing.refi) end ≡ true → ends_late c start end entries ≡ true
ends_behind c start end entries rank below late =
    some_in_range (λ rank. nat_lt (start + (refresh_count entries (Refresh rank) + 9) * c.timing.refi) end) 0 c.geometry.ranks rank (omega arith) (omega (arith, below)) late

-- ---- PLACE

all_three : (a b c : Bool) → not a ≡ false → not b ≡ false → not c ≡ false → (a && b && c) ≡ true
all_three true true true p q r = refl
all_three false b c p q r = cc
all_three true false c p q r = cc
all_three true true false p q r = cc

and_one : (a b : Bool) → a ≡ true → not b ≡ false → (a && b) ≡ true
and_one true true p q = refl
and_one false b p q = cc
and_one true false p q = cc

one_inside : (a : Bool) → not a ≡ false → a ≡ true
one_inside true p = refl
one_inside false p = cc

-- a command of whose numbers none is outside
is_inside : (g : Geometry) (command : Command) → is_outside g command part.Rank ≡ false → is_outside g command part.Group ≡ false → is_outside g command part.Bank ≡ false → is_outside g command part.Row ≡ false → is_outside g command part.Line ≡ false → is_in g command ≡ true
is_inside g (Act rank group bank row) r gr b ro l = and_one _ _ (all_three _ _ _ r gr b) ro
is_inside g (Rd rank group bank row line) r gr b ro l = and_one _ _ (and_one _ _ (all_three _ _ _ r gr b) ro) l
is_inside g (Wr rank group bank row line) r gr b ro l = and_one _ _ (and_one _ _ (all_three _ _ _ r gr b) ro) l
is_inside g (RdAuto rank group bank row line) r gr b ro l = and_one _ _ (and_one _ _ (all_three _ _ _ r gr b) ro) l
is_inside g (WrAuto rank group bank row line) r gr b ro l = and_one _ _ (and_one _ _ (all_three _ _ _ r gr b) ro) l
is_inside g (Pre rank group bank) r gr b ro l = all_three _ _ _ r gr b
is_inside g (PreAll rank) r gr b ro l = one_inside _ r
is_inside g (Refresh rank) r gr b ro l = one_inside _ r

one_outside : (a : Bool) → not a ≡ true → a ≡ false
one_outside true p = cc
one_outside false p = refl

left_out : (a b : Bool) → a ≡ false → (a && b) ≡ false
left_out a b e = rw e refl

right_out : (a b : Bool) → b ≡ false → (a && b) ≡ false
right_out true b e = e
right_out false b e = refl

first_out : (a b c : Bool) → not a ≡ true → (a && b && c) ≡ false
first_out true b c p = cc
first_out false true c p = refl
first_out false false c p = refl

second_out : (a b c : Bool) → not b ≡ true → (a && b && c) ≡ false
second_out a true c p = cc
second_out true false c p = refl
second_out false false c p = refl

third_out : (a b c : Bool) → not c ≡ true → (a && b && c) ≡ false
third_out a b true p = cc
third_out true true false p = refl
third_out true false false p = refl
third_out false true false p = refl
third_out false false false p = refl

-- a command of which a number is outside
is_not_inside : (g : Geometry) (command : Command) (p : Part) → is_outside g command p ≡ true → is_in g command ≡ false
is_not_inside g (Act rank group bank row) part.Rank h = left_out ((nat_lt rank g.ranks) && (nat_lt group g.groups) && (nat_lt bank GROUP_BANKS)) (nat_lt row g.rows) (first_out (nat_lt rank g.ranks) (nat_lt group g.groups) (nat_lt bank GROUP_BANKS) h)
is_not_inside g (Act rank group bank row) part.Group h = left_out ((nat_lt rank g.ranks) && (nat_lt group g.groups) && (nat_lt bank GROUP_BANKS)) (nat_lt row g.rows) (second_out (nat_lt rank g.ranks) (nat_lt group g.groups) (nat_lt bank GROUP_BANKS) h)
is_not_inside g (Act rank group bank row) part.Bank h = left_out ((nat_lt rank g.ranks) && (nat_lt group g.groups) && (nat_lt bank GROUP_BANKS)) (nat_lt row g.rows) (third_out (nat_lt rank g.ranks) (nat_lt group g.groups) (nat_lt bank GROUP_BANKS) h)
is_not_inside g (Act rank group bank row) part.Row h = right_out ((nat_lt rank g.ranks) && (nat_lt group g.groups) && (nat_lt bank GROUP_BANKS)) (nat_lt row g.rows) (one_outside (nat_lt row g.rows) h)
is_not_inside g (Act rank group bank row) part.Line h = cc
is_not_inside g (Rd rank group bank row line) part.Rank h = left_out (((nat_lt rank g.ranks) && (nat_lt group g.groups) && (nat_lt bank GROUP_BANKS)) && (nat_lt row g.rows)) (nat_lt line (g.columns / LINE_COLUMNS)) (left_out ((nat_lt rank g.ranks) && (nat_lt group g.groups) && (nat_lt bank GROUP_BANKS)) (nat_lt row g.rows) (first_out (nat_lt rank g.ranks) (nat_lt group g.groups) (nat_lt bank GROUP_BANKS) h))
is_not_inside g (Rd rank group bank row line) part.Group h = left_out (((nat_lt rank g.ranks) && (nat_lt group g.groups) && (nat_lt bank GROUP_BANKS)) && (nat_lt row g.rows)) (nat_lt line (g.columns / LINE_COLUMNS)) (left_out ((nat_lt rank g.ranks) && (nat_lt group g.groups) && (nat_lt bank GROUP_BANKS)) (nat_lt row g.rows) (second_out (nat_lt rank g.ranks) (nat_lt group g.groups) (nat_lt bank GROUP_BANKS) h))
is_not_inside g (Rd rank group bank row line) part.Bank h = left_out (((nat_lt rank g.ranks) && (nat_lt group g.groups) && (nat_lt bank GROUP_BANKS)) && (nat_lt row g.rows)) (nat_lt line (g.columns / LINE_COLUMNS)) (left_out ((nat_lt rank g.ranks) && (nat_lt group g.groups) && (nat_lt bank GROUP_BANKS)) (nat_lt row g.rows) (third_out (nat_lt rank g.ranks) (nat_lt group g.groups) (nat_lt bank GROUP_BANKS) h))
is_not_inside g (Rd rank group bank row line) part.Row h = left_out (((nat_lt rank g.ranks) && (nat_lt group g.groups) && (nat_lt bank GROUP_BANKS)) && (nat_lt row g.rows)) (nat_lt line (g.columns / LINE_COLUMNS)) (right_out ((nat_lt rank g.ranks) && (nat_lt group g.groups) && (nat_lt bank GROUP_BANKS)) (nat_lt row g.rows) (one_outside (nat_lt row g.rows) h))
is_not_inside g (Rd rank group bank row line) part.Line h = right_out (((nat_lt rank g.ranks) && (nat_lt group g.groups) && (nat_lt bank GROUP_BANKS)) && (nat_lt row g.rows)) (nat_lt line (g.columns / LINE_COLUMNS)) (one_outside (nat_lt line (g.columns / LINE_COLUMNS)) h)
is_not_inside g (Wr rank group bank row line) part.Rank h = left_out (((nat_lt rank g.ranks) && (nat_lt group g.groups) && (nat_lt bank GROUP_BANKS)) && (nat_lt row g.rows)) (nat_lt line (g.columns / LINE_COLUMNS)) (left_out ((nat_lt rank g.ranks) && (nat_lt group g.groups) && (nat_lt bank GROUP_BANKS)) (nat_lt row g.rows) (first_out (nat_lt rank g.ranks) (nat_lt group g.groups) (nat_lt bank GROUP_BANKS) h))
is_not_inside g (Wr rank group bank row line) part.Group h = left_out (((nat_lt rank g.ranks) && (nat_lt group g.groups) && (nat_lt bank GROUP_BANKS)) && (nat_lt row g.rows)) (nat_lt line (g.columns / LINE_COLUMNS)) (left_out ((nat_lt rank g.ranks) && (nat_lt group g.groups) && (nat_lt bank GROUP_BANKS)) (nat_lt row g.rows) (second_out (nat_lt rank g.ranks) (nat_lt group g.groups) (nat_lt bank GROUP_BANKS) h))
is_not_inside g (Wr rank group bank row line) part.Bank h = left_out (((nat_lt rank g.ranks) && (nat_lt group g.groups) && (nat_lt bank GROUP_BANKS)) && (nat_lt row g.rows)) (nat_lt line (g.columns / LINE_COLUMNS)) (left_out ((nat_lt rank g.ranks) && (nat_lt group g.groups) && (nat_lt bank GROUP_BANKS)) (nat_lt row g.rows) (third_out (nat_lt rank g.ranks) (nat_lt group g.groups) (nat_lt bank GROUP_BANKS) h))
is_not_inside g (Wr rank group bank row line) part.Row h = left_out (((nat_lt rank g.ranks) && (nat_lt group g.groups) && (nat_lt bank GROUP_BANKS)) && (nat_lt row g.rows)) (nat_lt line (g.columns / LINE_COLUMNS)) (right_out ((nat_lt rank g.ranks) && (nat_lt group g.groups) && (nat_lt bank GROUP_BANKS)) (nat_lt row g.rows) (one_outside (nat_lt row g.rows) h))
is_not_inside g (Wr rank group bank row line) part.Line h = right_out (((nat_lt rank g.ranks) && (nat_lt group g.groups) && (nat_lt bank GROUP_BANKS)) && (nat_lt row g.rows)) (nat_lt line (g.columns / LINE_COLUMNS)) (one_outside (nat_lt line (g.columns / LINE_COLUMNS)) h)
is_not_inside g (RdAuto rank group bank row line) part.Rank h = left_out (((nat_lt rank g.ranks) && (nat_lt group g.groups) && (nat_lt bank GROUP_BANKS)) && (nat_lt row g.rows)) (nat_lt line (g.columns / LINE_COLUMNS)) (left_out ((nat_lt rank g.ranks) && (nat_lt group g.groups) && (nat_lt bank GROUP_BANKS)) (nat_lt row g.rows) (first_out (nat_lt rank g.ranks) (nat_lt group g.groups) (nat_lt bank GROUP_BANKS) h))
is_not_inside g (RdAuto rank group bank row line) part.Group h = left_out (((nat_lt rank g.ranks) && (nat_lt group g.groups) && (nat_lt bank GROUP_BANKS)) && (nat_lt row g.rows)) (nat_lt line (g.columns / LINE_COLUMNS)) (left_out ((nat_lt rank g.ranks) && (nat_lt group g.groups) && (nat_lt bank GROUP_BANKS)) (nat_lt row g.rows) (second_out (nat_lt rank g.ranks) (nat_lt group g.groups) (nat_lt bank GROUP_BANKS) h))
is_not_inside g (RdAuto rank group bank row line) part.Bank h = left_out (((nat_lt rank g.ranks) && (nat_lt group g.groups) && (nat_lt bank GROUP_BANKS)) && (nat_lt row g.rows)) (nat_lt line (g.columns / LINE_COLUMNS)) (left_out ((nat_lt rank g.ranks) && (nat_lt group g.groups) && (nat_lt bank GROUP_BANKS)) (nat_lt row g.rows) (third_out (nat_lt rank g.ranks) (nat_lt group g.groups) (nat_lt bank GROUP_BANKS) h))
is_not_inside g (RdAuto rank group bank row line) part.Row h = left_out (((nat_lt rank g.ranks) && (nat_lt group g.groups) && (nat_lt bank GROUP_BANKS)) && (nat_lt row g.rows)) (nat_lt line (g.columns / LINE_COLUMNS)) (right_out ((nat_lt rank g.ranks) && (nat_lt group g.groups) && (nat_lt bank GROUP_BANKS)) (nat_lt row g.rows) (one_outside (nat_lt row g.rows) h))
is_not_inside g (RdAuto rank group bank row line) part.Line h = right_out (((nat_lt rank g.ranks) && (nat_lt group g.groups) && (nat_lt bank GROUP_BANKS)) && (nat_lt row g.rows)) (nat_lt line (g.columns / LINE_COLUMNS)) (one_outside (nat_lt line (g.columns / LINE_COLUMNS)) h)
is_not_inside g (WrAuto rank group bank row line) part.Rank h = left_out (((nat_lt rank g.ranks) && (nat_lt group g.groups) && (nat_lt bank GROUP_BANKS)) && (nat_lt row g.rows)) (nat_lt line (g.columns / LINE_COLUMNS)) (left_out ((nat_lt rank g.ranks) && (nat_lt group g.groups) && (nat_lt bank GROUP_BANKS)) (nat_lt row g.rows) (first_out (nat_lt rank g.ranks) (nat_lt group g.groups) (nat_lt bank GROUP_BANKS) h))
is_not_inside g (WrAuto rank group bank row line) part.Group h = left_out (((nat_lt rank g.ranks) && (nat_lt group g.groups) && (nat_lt bank GROUP_BANKS)) && (nat_lt row g.rows)) (nat_lt line (g.columns / LINE_COLUMNS)) (left_out ((nat_lt rank g.ranks) && (nat_lt group g.groups) && (nat_lt bank GROUP_BANKS)) (nat_lt row g.rows) (second_out (nat_lt rank g.ranks) (nat_lt group g.groups) (nat_lt bank GROUP_BANKS) h))
is_not_inside g (WrAuto rank group bank row line) part.Bank h = left_out (((nat_lt rank g.ranks) && (nat_lt group g.groups) && (nat_lt bank GROUP_BANKS)) && (nat_lt row g.rows)) (nat_lt line (g.columns / LINE_COLUMNS)) (left_out ((nat_lt rank g.ranks) && (nat_lt group g.groups) && (nat_lt bank GROUP_BANKS)) (nat_lt row g.rows) (third_out (nat_lt rank g.ranks) (nat_lt group g.groups) (nat_lt bank GROUP_BANKS) h))
is_not_inside g (WrAuto rank group bank row line) part.Row h = left_out (((nat_lt rank g.ranks) && (nat_lt group g.groups) && (nat_lt bank GROUP_BANKS)) && (nat_lt row g.rows)) (nat_lt line (g.columns / LINE_COLUMNS)) (right_out ((nat_lt rank g.ranks) && (nat_lt group g.groups) && (nat_lt bank GROUP_BANKS)) (nat_lt row g.rows) (one_outside (nat_lt row g.rows) h))
is_not_inside g (WrAuto rank group bank row line) part.Line h = right_out (((nat_lt rank g.ranks) && (nat_lt group g.groups) && (nat_lt bank GROUP_BANKS)) && (nat_lt row g.rows)) (nat_lt line (g.columns / LINE_COLUMNS)) (one_outside (nat_lt line (g.columns / LINE_COLUMNS)) h)
is_not_inside g (Pre rank group bank) part.Rank h = first_out (nat_lt rank g.ranks) (nat_lt group g.groups) (nat_lt bank GROUP_BANKS) h
is_not_inside g (Pre rank group bank) part.Group h = second_out (nat_lt rank g.ranks) (nat_lt group g.groups) (nat_lt bank GROUP_BANKS) h
is_not_inside g (Pre rank group bank) part.Bank h = third_out (nat_lt rank g.ranks) (nat_lt group g.groups) (nat_lt bank GROUP_BANKS) h
is_not_inside g (Pre rank group bank) part.Row h = cc
is_not_inside g (Pre rank group bank) part.Line h = cc
is_not_inside g (PreAll rank) part.Rank h = one_outside (nat_lt rank g.ranks) h
is_not_inside g (PreAll rank) part.Group h = cc
is_not_inside g (PreAll rank) part.Bank h = cc
is_not_inside g (PreAll rank) part.Row h = cc
is_not_inside g (PreAll rank) part.Line h = cc
is_not_inside g (Refresh rank) part.Rank h = one_outside (nat_lt rank g.ranks) h
is_not_inside g (Refresh rank) part.Group h = cc
is_not_inside g (Refresh rank) part.Bank h = cc
is_not_inside g (Refresh rank) part.Row h = cc
is_not_inside g (Refresh rank) part.Line h = cc

-- the first number that passes does, and where none is there, none does
first_passes : (test : Part → Bool) (p : Part) → first_part test ≡ Some p → test p ≡ true
first_passes test p found = go (test part.Rank) (test part.Group) (test part.Bank) (test part.Row) (test part.Line) refl refl refl refl refl found
  where
    go : (a b c d f : Bool) → test part.Rank ≡ a → test part.Group ≡ b → test part.Bank ≡ c → test part.Row ≡ d → test part.Line ≡ f
        → cond a (Some part.Rank) (cond b (Some part.Group) (cond c (Some part.Bank) (cond d (Some part.Row) (cond f (Some part.Line) None)))) ≡ Some p → test p ≡ true
    go true b c d f ra rb rc rd rf e = let same : part.Rank ≡ p = cc in ap test (sym same) ∙ ra
    go false true c d f ra rb rc rd rf e = let same : part.Group ≡ p = cc in ap test (sym same) ∙ rb
    go false false true d f ra rb rc rd rf e = let same : part.Bank ≡ p = cc in ap test (sym same) ∙ rc
    go false false false true f ra rb rc rd rf e = let same : part.Row ≡ p = cc in ap test (sym same) ∙ rd
    go false false false false true ra rb rc rd rf e = let same : part.Line ≡ p = cc in ap test (sym same) ∙ rf
    go false false false false false ra rb rc rd rf e = cc

-- what is asked of the first number that is outside
pub outside_breaks : (g : Geometry) (command : Command) (p : Part) → first_outside g command ≡ Some p → true ≡ not (is_in g command)
outside_breaks g command p found = sym (ap not (is_not_inside g command p (first_passes (is_outside g command) p found)))

pub outside_has : (g : Geometry) (command : Command) (p : Part) (A : Type 0) → first_outside g command ≡ Some p → number_in p command ≡ None → A
outside_has g command p A found none =
    let passes = first_passes (is_outside g command) p found in
    absurd (let fails : is_outside g command p ≡ false = ap (λ o. option_map_or (λ number. not (nat_lt number (bound_of g p))) o false) none in cc)

pub outside_above : (g : Geometry) (command : Command) (p : Part) (number : ℕ) → first_outside g command ≡ Some p → number_in p command ≡ Some number → bound_of g p ≤ number
outside_above g command p number found has =
    let passes = first_passes (is_outside g command) p found in
    let above : not (nat_lt number (bound_of g p)) ≡ true = ap (λ o. option_map_or (λ number. not (nat_lt number (bound_of g p))) o false) (sym has) ∙ passes in
    ltb-false number (bound_of g p) (one_outside _ above)

pub inside_kept : (g : Geometry) (command : Command) → first_outside g command ≡ None → false ≡ not (is_in g command)
inside_kept g command none = sym (ap not (go (is_outside g command part.Rank) (is_outside g command part.Group) (is_outside g command part.Bank) (is_outside g command part.Row) (is_outside g command part.Line) refl refl refl refl refl none))
  where
    go : (a b c d f : Bool) → is_outside g command part.Rank ≡ a → is_outside g command part.Group ≡ b → is_outside g command part.Bank ≡ c → is_outside g command part.Row ≡ d → is_outside g command part.Line ≡ f
        → cond a (Some part.Rank) (cond b (Some part.Group) (cond c (Some part.Bank) (cond d (Some part.Row) (cond f (Some part.Line) None)))) ≡ None → is_in g command ≡ true
    go true b c d f ra rb rc rd rf e = cc
    go false true c d f ra rb rc rd rf e = cc
    go false false true d f ra rb rc rd rf e = cc
    go false false false true f ra rb rc rd rf e = cc
    go false false false false true ra rb rc rd rf e = cc
    go false false false false false ra rb rc rd rf e = is_inside g command ra rb rc rd rf

-- ---- two tests at once

pub and_none : (a b : Bool) → b ≡ false → (a && b) ≡ false
and_none true b e = e
and_none false b e = refl

pub and_both : (a b : Bool) → a ≡ true → b ≡ true → (a && b) ≡ true
and_both a b p q = rw (p, q) refl
