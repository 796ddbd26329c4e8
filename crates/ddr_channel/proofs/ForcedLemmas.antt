-- What the choice does for a rank that owes more REFs than may be put off.
use Rattle.std.proofs.Common.{◌≡◌, ℕ, zero, suc, ◌+◌, ◌-◌, ◌/◌, ◌<◌, ◌≤◌, Bool, true, false, cond, ltb, List, [], ◌∷◌, ◌++◌, length, get_or, Option, Some, None, refl, sym, ap, ◌∙◌, ◌⊎◌, inl, inr, arith}
use Rattle.std.specs.List.{filter, find, range_with_len, slice_get}
use Rattle.std.specs.Option.{IfSome, option_map, option_map_or}
use Rattle.std.proofs.Math.Nat.{le-div_iff_mul-le}
use Rattle.std.proofs.lemmas.Bool.{cases_Bool, lt-ltb, ltb-true, true≢false, false≢true}
use Rattle.std.proofs.lemmas.List.{length-map}
use Rattle.std.proofs.lemmas.List.FromFn.{length-range_with_len, get_or-range_with_len}
use Rattle.std.proofs.lemmas.Option.{slice_get-get_or}
use Rattle.ddr_trace.specs.declared.command.Command.{Command}
use Rattle.ddr_trace.specs.Commands.{rank_of}
use Rattle.ddr_trace.specs.Rules.{refresh_count}
use Rattle.ddr_address_map.specs.declared.place.Place.{Place}
use Rattle.ddr_address_map.specs.declared.request.Kind.{Kind}
use Rattle.ddr_address_map.specs.declared.request.Kind.TheVariants.{Read, Write}
use Rattle.ddr_legality.specs.Bus.{Bus, is_legal_now}
use Rattle.ddr_hazards.specs.declared.waiting.Waiting.{Waiting}
use Rattle.ddr_refresh.specs.Refreshes.{Refreshes, after_tick, debt_of, is_forced}
use Rattle.ddr_arbiter.specs.declared.choice.Choice.{Choice}
use Rattle.ddr_arbiter.specs.declared.choice.Choice.TheVariants as choice
use Rattle.ddr_arbiter.specs.Choice as arbiter
use Rattle.ddr_arbiter.specs.Choice.{access_choice, candidates_of, column_choice, column_place, first_choice, is_idly_forced, is_overdue, is_rank_forced, is_something, ranks_of, refresh_choice, refresh_choice_at, row_choice, row_choice_at, some_bank_active}
use Rattle.ddr_arbiter.specs.Commands.{activate_at, column_at, column_of, precharge_all, precharge_at, refresh}
use Rattle.ddr_arbiter.specs.Laws.{IsLawful, command_of, refreshed_rank}
use Rattle.ddr_arbiter.specs.Situation.{Situation}
use Rattle.ddr_channel.specs.Choice.{rank_refreshes, refreshes_of, situation_of}
use Rattle.ddr_channel.specs.State.{State}
use Rattle.ddr_channel.proofs.ListLemmas.{mapped_at}
use Rattle.ddr_channel.specs.Refresh.{overdue_from}

-- the step of a forced rank

pub record Refreshed (b : Bus) (rank : ℕ) (c : Choice) : Type 0 where
  pub is : c ≡ choice.Refresh rank
  pub idle : some_bank_active b rank ≡ false
  pub legal : is_legal_now b (refresh rank) ≡ true

pub record Precharged (b : Bus) (rank : ℕ) (c : Choice) : Type 0 where
  pub is : c ≡ choice.PreAll rank
  pub active : some_bank_active b rank ≡ true
  pub legal : is_legal_now b (precharge_all rank) ≡ true

-- neither is legal that would be wanted
pub record Waits (b : Bus) (rank : ℕ) (c : Choice) : Type 0 where
  pub is : c ≡ choice.Nothing
  pub idle : some_bank_active b rank ≡ false → is_legal_now b (refresh rank) ≡ false
  pub active : some_bank_active b rank ≡ true → is_legal_now b (precharge_all rank) ≡ false

pub step_cases : (b : Bus) (rank : ℕ) → Refreshed b rank (refresh_choice_at b rank) ⊎ (Precharged b rank (refresh_choice_at b rank) ⊎ Waits b rank (refresh_choice_at b rank))
step_cases b rank = by_tests (some_bank_active b rank) (is_legal_now b (refresh rank)) (is_legal_now b (precharge_all rank)) refl refl refl
  where
    by_tests : (active ref pre : Bool) → some_bank_active b rank ≡ active → is_legal_now b (refresh rank) ≡ ref → is_legal_now b (precharge_all rank) ≡ pre →
        Refreshed b rank (refresh_choice_at b rank) ⊎ (Precharged b rank (refresh_choice_at b rank) ⊎ Waits b rank (refresh_choice_at b rank))
    by_tests false true pre a r p = inl (record { is = rw (a, r) refl; idle = a; legal = r })
    by_tests false false pre a r p = inr (inr (record { is = rw (a, r) refl; idle = λ _. r; active = λ is. absurd (false≢true (sym a ∙ is)) }))
    by_tests true ref true a r p = inr (inl (record { is = rw (a, p) refl; active = a; legal = p }))
    by_tests true ref false a r p = inr (inr (record { is = rw (a, p) refl; idle = λ is. absurd (true≢false (sym a ∙ is)); active = λ _. p }))

-- the first of the forced ranks that has a step

pub record Picked (f : ℕ → Choice) (xs : List ℕ) : Type 0 where
  pub at : ℕ
  pub is : first_choice f xs ≡ f at

picked : (f : ℕ → Choice) (xs : List ℕ) → is_something (first_choice f xs) ≡ true → Picked f xs
picked f [] some = absurd (false≢true some)
picked f (x ∷ xs) some = by_test (is_something (f x)) refl (picked f xs)
  where
    by_test : (w : Bool) → is_something (f x) ≡ w → (is_something (first_choice f xs) ≡ true → Picked f xs) → Picked f (x ∷ xs)
    by_test true is rest = record { at = x; is = rw is refl }
    by_test false is rest = let it = rest (rw is at some) in record { at = it.at; is = rw is it.is }

record First (passes test : ℕ → Bool) (xs ys : List ℕ) (most : ℕ) : Type 0 where
  at : ℕ
  low : at ≤ most
  kept : passes at ≡ true
  here : test at ≡ true
  found : find test (xs ++ ys) ≡ Some at

found_here : (passes test : ℕ → Bool) (a : ℕ) (rest ys : List ℕ) → passes a ≡ true → test a ≡ true → find test (cond (passes a) (a ∷ rest) rest ++ ys) ≡ Some a
found_here passes test a rest ys p t = rw (p, t) refl

found_next : (passes test : ℕ → Bool) (a : ℕ) (rest ys : List ℕ) → passes a ≡ true → test a ≡ false → find test (cond (passes a) (a ∷ rest) rest ++ ys) ≡ find test (rest ++ ys)
found_next passes test a rest ys p t = rw (p, t) refl

found_skip : (passes test : ℕ → Bool) (a : ℕ) (rest ys : List ℕ) → passes a ≡ false → find test (cond (passes a) (a ∷ rest) rest ++ ys) ≡ find test (rest ++ ys)
found_skip passes test a rest ys p = rw p refl

first_kept : (passes test : ℕ → Bool) (a n : ℕ) (ys : List ℕ) (r : ℕ) → a ≤ r → r < a + n → passes r ≡ true → test r ≡ true → First passes test (filter passes (range_with_len a n)) ys r
first_kept passes test a zero ys r above below kept here = absurd (omega arith)
first_kept passes test a (suc n) ys r above below kept here = by_tests (passes a) (test a) refl refl (λ other. first_kept passes test (a + 1) n ys r (omega arith) (omega arith) kept here)
  where
    by_tests : (v w : Bool) → passes a ≡ v → test a ≡ w → ((a ≡ r → ⊥) → First passes test (filter passes (range_with_len (a + 1) n)) ys r) → First passes test (filter passes (range_with_len a (suc n))) ys r
    by_tests true true p t rest = record { at = a; low = above; kept = p; here = t; found = found_here passes test a (filter passes (range_with_len (a + 1) n)) ys p t }
    by_tests true false p t rest =
        let it = rest (λ same. false≢true (sym t ∙ ap test same ∙ here)) in
        record { at = it.at; low = it.low; kept = it.kept; here = it.here; found = found_next passes test a (filter passes (range_with_len (a + 1) n)) ys p t ∙ it.found }
    by_tests false w p t rest =
        let it = rest (λ same. false≢true (sym p ∙ ap passes same ∙ kept)) in
        record { at = it.at; low = it.low; kept = it.kept; here = it.here; found = found_skip passes test a (filter passes (range_with_len (a + 1) n)) ys p ∙ it.found }

-- The rank's own step is nothing, or the choice is the step of an overdue rank that is tried no later.
pub record OverdueServed (s : Situation) (rank : ℕ) : Type 0 where
  pub at : ℕ
  pub low : at ≤ rank
  pub overdue : is_overdue s.refreshes at ≡ true
  pub is : arbiter.choice_of s ≡ refresh_choice_at s.bus at
  pub some : is_something (refresh_choice_at s.bus at) ≡ true

pub overdue_served : (s : Situation) (rank : ℕ) → rank < length s.refreshes → is_overdue s.refreshes rank ≡ true → (is_something (refresh_choice_at s.bus rank) ≡ false) ⊎ OverdueServed s rank
overdue_served s rank inside overdue = elim (cases_Bool (is_something (refresh_choice_at s.bus rank))) [
  | inr nothing ↦ inl nothing
  | inl some ↦
      let it = first_kept (is_overdue s.refreshes) (λ n. is_something (refresh_choice_at s.bus n)) 0 (length s.refreshes) (filter (is_idly_forced s.waiting s.refreshes) (ranks_of s.refreshes)) rank (omega arith) (omega (arith, inside)) overdue some in
      let chosen : refresh_choice s.bus s.waiting s.refreshes ≡ refresh_choice_at s.bus it.at = ap (λ o. option_map_or (refresh_choice_at s.bus) o choice.Nothing) it.found in
      inr (record { at = it.at; low = it.low; overdue = it.kept; is = rw (chosen, it.here) refl; some = it.here })
]

-- a choice for a request refreshes no rank

row_at_free : (x y : Bool) (place : ℕ) → refreshed_rank (cond x (choice.Act place) (cond y (choice.Pre place) choice.Nothing)) ≡ None
row_at_free true y place = refl
row_at_free false true place = refl
row_at_free false false place = refl

option_free : (f : ℕ → Choice) (o : Option ℕ) (c : Choice) → ((n : ℕ) → refreshed_rank (f n) ≡ None) → refreshed_rank c ≡ None → refreshed_rank (option_map_or f o c) ≡ None
option_free f None c each rest = rest
option_free f (Some n) c each rest = each n

column_free : (x : Bool) (place : ℕ) → refreshed_rank (cond x (choice.ColumnAuto place) (choice.Column place)) ≡ None
column_free true place = refl
column_free false place = refl

access_free : (s : Situation) (places : List ℕ) → refreshed_rank (access_choice s places) ≡ None
access_free s places =
    option_free (column_choice s.policy.closed s.waiting) (column_place s.bus s.waiting places s.room) (row_choice s.bus s.waiting places) (λ place. column_free _ place)
    (option_free (row_choice_at s.bus s.waiting places) (find (λ n. is_something (row_choice_at s.bus s.waiting places n)) places) choice.Nothing (λ place. row_at_free _ _ place) refl)

-- PREA is chosen only where a bank of the rank is active
pub precharged_active : (s : Situation) (rank : ℕ) → arbiter.choice_of s ≡ choice.PreAll rank → some_bank_active s.bus rank ≡ true
precharged_active s rank is = by_test (is_something (refresh_choice s.bus s.waiting s.refreshes)) refl
  where
    of_step : (k : ℕ) → refresh_choice_at s.bus k ≡ choice.PreAll rank → some_bank_active s.bus rank ≡ true
    of_step k step = elim (step_cases s.bus k) [
      | inl ref ↦ let none : choice.Refresh k ≡ choice.PreAll rank = sym ref.is ∙ step in cc
      | inr (inl pre) ↦ let same : choice.PreAll k ≡ choice.PreAll rank = sym pre.is ∙ step in let it : k ≡ rank = cc in sym (ap (some_bank_active s.bus) it) ∙ pre.active
      | inr (inr waits) ↦ let none : choice.Nothing ≡ choice.PreAll rank = sym waits.is ∙ step in cc
    ]

    by_test : (w : Bool) → is_something (refresh_choice s.bus s.waiting s.refreshes) ≡ w → some_bank_active s.bus rank ≡ true
    by_test true some =
        let it = picked (refresh_choice_at s.bus) _ some in
        let chosen : refresh_choice s.bus s.waiting s.refreshes ≡ choice.PreAll rank = rw some at is in
        of_step it.at (sym it.is ∙ chosen)
    by_test false none =
        let chosen : access_choice s (candidates_of s) ≡ choice.PreAll rank = rw none at is in
        let free : None ≡ Some rank = sym (access_free s (candidates_of s)) ∙ ap refreshed_rank chosen in
        cc

-- an overdue rank is forced, and so serves no request

forced_over : (idle : Bool) (o : Option Refreshes) → option_map_or (is_forced false) o false ≡ true → option_map_or (is_forced idle) o false ≡ true
forced_over idle None over = absurd (false≢true over)
forced_over idle (Some r) over = by_test (ltb r.postpone (debt_of r)) refl
  where
    by_test : (w : Bool) → ltb r.postpone (debt_of r) ≡ w → is_forced idle r ≡ true
    by_test true is = rw is refl
    by_test false is = absurd (false≢true (rw is at over))

column_rank : (auto : Bool) (kind : Kind) (p : Place) → rank_of (column_at auto kind p) ≡ p.rank
column_rank false Read p = refl
column_rank false Write p = refl
column_rank true Read p = refl
column_rank true Write p = refl

not_served : (s : Situation) (rank : ℕ) (command : Waiting → Command) (o : Option Waiting) (c : Command) → ((w : Waiting) → rank_of (command w) ≡ w.request.place.rank) → IfSome o (λ w. is_rank_forced s.waiting s.refreshes w.request.place.rank ≡ false) →
    is_overdue s.refreshes rank ≡ true → option_map command o ≡ Some c → rank_of c ≡ rank → ⊥
not_served s rank command None c of_place free overdue is of = cc
not_served s rank command (Some w) c of_place free overdue is of =
    let it : command w ≡ c = cc in
    let same : w.request.place.rank ≡ rank = sym (of_place w) ∙ ap rank_of it ∙ of in
    false≢true (sym free ∙ ap (is_rank_forced s.waiting s.refreshes) same ∙ forced_over _ (slice_get s.refreshes rank) overdue)

pub overdue_command : (s : Situation) (c : Choice) (rank : ℕ) (command : Command) → IsLawful s c → is_overdue s.refreshes rank ≡ true → command_of s.waiting c ≡ Some command → rank_of command ≡ rank → (c ≡ choice.Refresh rank) ⊎ (c ≡ choice.PreAll rank)
overdue_command s choice.Nothing rank command law overdue is of = cc
overdue_command s (choice.Refresh k) rank command law overdue is of = let it : refresh k ≡ command = cc in inl (ap choice.Refresh (ap rank_of it ∙ of))
overdue_command s (choice.PreAll k) rank command law overdue is of = let it : precharge_all k ≡ command = cc in inr (ap choice.PreAll (ap rank_of it ∙ of))
overdue_command s (choice.Act place) rank command law overdue is of = absurd (not_served s rank (λ w. activate_at w.request.place) (slice_get s.waiting place) command (λ w. refl) law.forced overdue is of)
overdue_command s (choice.Pre place) rank command law overdue is of = absurd (not_served s rank (λ w. precharge_at w.request.place) (slice_get s.waiting place) command (λ w. refl) law.forced overdue is of)
overdue_command s (choice.Column place) rank command law overdue is of =
    absurd (not_served s rank (λ w. column_of false w.request) (slice_get s.waiting place) command (λ w. column_rank false w.request.echo.kind w.request.place) law.forced overdue is of)
overdue_command s (choice.ColumnAuto place) rank command law overdue is of =
    absurd (not_served s rank (λ w. column_of true w.request) (slice_get s.waiting place) command (λ w. column_rank true w.request.echo.kind w.request.place) law.forced overdue is of)

-- when a rank of a channel is overdue

pub refreshes_at : (s : State) (rank : ℕ) → rank < s.config.geometry.ranks → slice_get (situation_of s).refreshes rank ≡ Some (after_tick (rank_refreshes s rank))
refreshes_at s rank inside =
    let n = s.config.geometry.ranks in
    let many = length-range_with_len 0 n in
    let there : slice_get (range_with_len 0 n) rank ≡ Some (get_or (range_with_len 0 n) rank 0) = slice_get-get_or (range_with_len 0 n) rank 0 (omega (arith, inside, many)) in
    let it : get_or (range_with_len 0 n) rank 0 ≡ rank = omega (arith, get_or-range_with_len 0 n rank 0 inside) in
    mapped_at after_tick (refreshes_of s n) rank (rank_refreshes s rank) (mapped_at (rank_refreshes s) (range_with_len 0 n) rank rank (there ∙ ap Some it))

pub ranks_counted : (s : State) → length (situation_of s).refreshes ≡ s.config.geometry.ranks
ranks_counted s =
    let n = s.config.geometry.ranks in
    length-map (refreshes_of s n) after_tick ∙ length-map (range_with_len 0 n) (rank_refreshes s) ∙ length-range_with_len 0 n

-- how many REFs the rank owes once the cycle's tick is counted
pub debt_ticked : (s : State) (rank : ℕ) → debt_of (after_tick (rank_refreshes s rank)) ≡ (s.now - s.start) / s.config.timing.refi - refresh_count s.trace (refresh rank)
debt_ticked s rank =
    let ticks : (s.now - s.start) + 1 - 1 ≡ s.now - s.start = omega arith in
    ap (λ n. n / s.config.timing.refi - refresh_count s.trace (refresh rank)) ticks

pub overdue_when : (s : State) (rank : ℕ) → rank < s.config.geometry.ranks → overdue_from s.config s.start rank s.trace ≤ s.now → is_overdue (situation_of s).refreshes rank ≡ true
overdue_when s rank inside due =
    let n = refresh_count s.trace (refresh rank) in
    let refi = s.config.timing.refi in
    let many : n + s.config.timing.postpone + 1 ≤ (s.now - s.start) / refi = (le-div_iff_mul-le {k = refi} {x = n + s.config.timing.postpone + 1} {y = s.now - s.start} (omega arith)).1 (omega arith) in
    let more : s.config.timing.postpone < debt_of (after_tick (rank_refreshes s rank)) = omega (arith, debt_ticked s rank, many) in
    rw (refreshes_at s rank inside, lt-ltb _ _ more) refl

pub when_overdue : (s : State) (rank : ℕ) → rank < s.config.geometry.ranks → s.start ≤ s.now → is_overdue (situation_of s).refreshes rank ≡ true → overdue_from s.config s.start rank s.trace ≤ s.now
when_overdue s rank inside begun overdue =
    let n = refresh_count s.trace (refresh rank) in
    let refi = s.config.timing.refi in
    let over : is_forced false (after_tick (rank_refreshes s rank)) ≡ true = rw (refreshes_at s rank inside) at overdue in
    let more = by_test (ltb s.config.timing.postpone (debt_of (after_tick (rank_refreshes s rank)))) refl over in
    let many : n + s.config.timing.postpone + 1 ≤ (s.now - s.start) / refi = omega (arith, more, debt_ticked s rank) in
    let all = (le-div_iff_mul-le {k = refi} {x = n + s.config.timing.postpone + 1} {y = s.now - s.start} (omega arith)).0 many in
    omega arith
  where
    by_test : (w : Bool) → ltb s.config.timing.postpone (debt_of (after_tick (rank_refreshes s rank))) ≡ w → is_forced false (after_tick (rank_refreshes s rank)) ≡ true → s.config.timing.postpone < debt_of (after_tick (rank_refreshes s rank))
    by_test true is over = ltb-true _ _ is
    by_test false is over = absurd (false≢true (rw is at over))
