-- The most refreshes that a rank owes in any cycle are those just before one of its REFs, or those in the last cycle.
use Rattle.std.proofs.Common.{◌≡◌, ℕ, zero, suc, ◌+◌, ◌-◌, ◌/◌, ◌<◌, ◌≤◌, ◌⊎◌, inl, inr, Bool, true, false, ◌&&◌, if◌then◌else◌, List, [], ◌∷◌, ◌++◌, cond, length, refl, subst, ap, arith, ◌∙◌}
use Rattle.std.specs.Prelude.{max, nat_lt, fold}
use Rattle.std.proofs.lemmas.Bool.{ltb-true}
use Rattle.std.proofs.lemmas.Bool.Decides.{nat_tests}
use Rattle.std.proofs.lemmas.List.Sums.{fold_push, sum_by-cons}
use Rattle.std.proofs.lemmas.Nat.{le-div}
use Rattle.std.proofs.Math.Nat.{div-mul-le_self, zero-div}
use Rattle.ddr_timing.specs.declared.units.TheConstants.{CLOCK_STOP}
use Rattle.ddr_trace.specs.declared.command.Entry.{Entry}
use Rattle.ddr_trace.specs.Commands.{is_refresh}
use Rattle.ddr_statistics.specs.declared.debt.Debt.{Debt}
use Rattle.ddr_statistics.specs.Counts.{is_of_rank}
use Rattle.ddr_statistics.specs.Debts.{IsInOrder, debt_in, debt_most, due_in, most_of, paid_before}
use Rattle.ddr_statistics.specs.Noted.{debt_noted, debt_paid, no_debt}
use Rattle.ddr_statistics.specs.Stands.{debt_behind}

-- a rank's refreshes after one more command, of whatever rank
abbrev pub next_debt : ℕ → ℕ → ℕ → Debt → Entry → Debt
next_debt refi start rank debt e = if is_of_rank rank e.command then debt_noted refi start e debt else debt

pub debt_behind-push : (refi start rank : ℕ) (history : List Entry) (e : Entry)
    → debt_behind refi start rank (history ++ e ∷ []) ≡ next_debt refi start rank (debt_behind refi start rank history) e
unfolding debt_behind
debt_behind-push refi start rank history e = fold_push (next_debt refi start rank) no_debt history e

-- the greatest of a row's numbers is a bound, and the least one
most_bounds_step : (f : ℕ → ℕ) (n k : ℕ) (w : Bool) → nat_lt k n ≡ w → k < suc n → (k < n → f k ≤ most_of f n) → f k ≤ max (most_of f n) (f n)
most_bounds_step f n k true less below known = let earlier = known (ltb-true _ _ less) in omega (arith, earlier)
most_bounds_step f n k false last below known =
    let here : k ≡ n = grind (arith, nat_tests) in
    subst (λ j. f k ≤ max (most_of f n) (f j)) here (omega arith)

most_bounds : (f : ℕ → ℕ) (n k : ℕ) → k < n → f k ≤ most_of f n
most_bounds f zero k below = absurd (omega (arith, below))
most_bounds f (suc n) k below = most_bounds_step f n k (nat_lt k n) refl below (most_bounds f n k)

most_within : (f : ℕ → ℕ) (n m : ℕ) → ((k : ℕ) → k < n → f k ≤ m) → most_of f n ≤ m
most_within f zero m each = omega arith
most_within f (suc n) m each =
    let earlier = most_within f n m (λ k below. each k (omega (arith, below))) in
    let last = each n (omega arith) in
    omega (arith, earlier, last)

module _ (refi start rank : ℕ) (some : 1 ≤ refi) where
  -- more falls due as cycles pass
  due_rises : (a b : ℕ) → a ≤ b → due_in refi start a ≤ due_in refi start b
  due_rises a b le =
      let whole = div-mul-le_self (a - start) refi in
      le-div ((a - start) / refi) (b - start) refi (omega (arith, some)) (omega (arith, whole, le))

  none_due : (a : ℕ) → a ≤ start → due_in refi start a ≡ 0
  none_due a le =
      let none : a - start ≡ 0 = omega (arith, le) in
      ap (λ n. n / refi) none ∙ zero-div refi

  -- REFs before a cycle, with one command more in front
  paid_first : (e : Entry) (later : List Entry) (cycle : ℕ) (w : Bool) → (is_of_rank rank e.command && is_refresh e.command && nat_lt e.cycle cycle) ≡ w
      → paid_before rank (e ∷ later) cycle ≡ (if w then 1 else 0) + paid_before rank later cycle
  paid_first e later cycle w is =
      sum_by-cons (λ (a : Entry). cond (is_of_rank rank a.command && is_refresh a.command && nat_lt a.cycle cycle) 1 0) e later
      ∙ ap (λ v. (if v then 1 else 0) + paid_before rank later cycle) is

  -- behind these refreshes and these commands
  abbrev behind : Debt → List Entry → Debt
  behind debt later = fold (next_debt refi start rank) debt later

  abbrev most_behind : ℕ → Debt → List Entry → ℕ
  most_behind last debt later = max (behind debt later).most (due_in refi start last - (behind debt later).paid)

  -- a command is a REF of the rank, or it changes nothing
  record Pays (debt : Debt) (e : Entry) : Type 0 where
    of_rank : is_of_rank rank e.command ≡ true
    refresh : is_refresh e.command ≡ true

  record Leaves (debt : Debt) (e : Entry) : Type 0 where
    next : next_debt refi start rank debt e ≡ debt
    none : (w : Bool) → (is_of_rank rank e.command && is_refresh e.command && w) ≡ false

  cases : (debt : Debt) (e : Entry) (a b : Bool) → is_of_rank rank e.command ≡ a → is_refresh e.command ≡ b → Pays debt e ⊎ Leaves debt e
  cases debt e true true here is = inl (record { of_rank = here; refresh = is })
  cases debt e true false here is = inr (record {
    next = ap (λ w. if w then debt_noted refi start e debt else debt) here ∙ ap (λ w. if w then debt_paid (due_in refi start e.cycle) debt else debt) is;
    none = λ w. rw (here, is) refl;
  })
  cases debt e false b away is = inr (record {
    next = ap (λ w. if w then debt_noted refi start e debt else debt) away;
    none = λ w. rw away refl;
  })

  pays : (debt : Debt) (e : Entry) → Pays debt e → next_debt refi start rank debt e ≡ debt_paid (due_in refi start e.cycle) debt
  pays debt e is = ap (λ w. if w then debt_noted refi start e debt else debt) is.of_rank ∙ ap (λ w. if w then debt_paid (due_in refi start e.cycle) debt else debt) is.refresh

  pays_before : (debt : Debt) (e : Entry) (later : List Entry) (cycle : ℕ) (w : Bool) → Pays debt e → nat_lt e.cycle cycle ≡ w → paid_before rank (e ∷ later) cycle ≡ (if w then 1 else 0) + paid_before rank later cycle
  pays_before debt e later cycle w is earlier = paid_first e later cycle w (rw (is.of_rank, is.refresh) earlier)

  -- what was owed before is never lost
  most_kept : (debt : Debt) (e : Entry) → Pays debt e ⊎ Leaves debt e → debt.most ≤ (next_debt refi start rank debt e).most
  most_kept debt e (inl is) = let here = ap (λ (d : Debt). d.most) (pays debt e is) in omega (arith, here)
  most_kept debt e (inr is) = let here = ap (λ (d : Debt). d.most) is.next in omega (arith, here)

  most_stays : (later : List Entry) (debt : Debt) → debt.most ≤ (behind debt later).most
  most_stays [] debt = omega arith
  most_stays (e ∷ later) debt =
      let rest = most_stays later (next_debt refi start rank debt e) in
      let here = most_kept debt e (cases debt e _ _ refl refl) in
      omega (arith, rest, here)

  paid_next : (debt : Debt) (e : Entry) (more : ℕ) → debt.paid + suc more < CLOCK_STOP → Pays debt e → (next_debt refi start rank debt e).paid ≡ debt.paid + 1
  paid_next debt e more few is = ap (λ (d : Debt). d.paid) (pays debt e is) ∙ omega (arith, few)

  -- no cycle has more
  within_next : (e : Entry) (later : List Entry) (debt : Debt) (last cycle : ℕ) → debt.paid + suc (length later) < CLOCK_STOP
      → ((next_debt refi start rank debt e).paid + length later < CLOCK_STOP → due_in refi start cycle - ((next_debt refi start rank debt e).paid + paid_before rank later cycle) ≤ most_behind last (next_debt refi start rank debt e) later)
      → (w : Bool) → nat_lt e.cycle cycle ≡ w → Pays debt e ⊎ Leaves debt e
      → due_in refi start cycle - (debt.paid + paid_before rank (e ∷ later) cycle) ≤ most_behind last (next_debt refi start rank debt e) later
  within_next e later debt last cycle few known true earlier (inl is) =
      let paid_is = paid_next debt e (length later) few is in
      let rest = known (omega (arith, few, paid_is)) in
      let counted = pays_before debt e later cycle true is earlier in
      omega (arith, rest, counted, paid_is)
  within_next e later debt last cycle few known false later_on (inl is) =
      let le : cycle ≤ e.cycle = grind (arith, nat_tests) in
      let rises = due_rises cycle e.cycle le in
      let most_is = ap (λ (d : Debt). d.most) (pays debt e is) in
      let stays = most_stays later (next_debt refi start rank debt e) in
      omega (arith, rises, most_is, stays)
  within_next e later debt last cycle few known w earlier (inr is) =
      let paid_is = ap (λ (d : Debt). d.paid) is.next in
      let rest = known (omega (arith, few, paid_is)) in
      let counted = paid_first e later cycle false (is.none (nat_lt e.cycle cycle)) in
      omega (arith, rest, counted, paid_is)

  each_within : (later : List Entry) (debt : Debt) (last cycle : ℕ) → debt.paid + length later < CLOCK_STOP → cycle ≤ last
      → due_in refi start cycle - (debt.paid + paid_before rank later cycle) ≤ most_behind last debt later
  each_within [] debt last cycle few within = let rises = due_rises cycle last within in omega (arith, rises)
  each_within (e ∷ later) debt last cycle few within =
      within_next e later debt last cycle few (λ short. each_within later (next_debt refi start rank debt e) last cycle short within) (nat_lt e.cycle cycle) refl (cases debt e _ _ refl refl)

  not_yet : (e : Entry) (cycle : ℕ) → cycle ≤ e.cycle → (is_of_rank rank e.command && is_refresh e.command && nat_lt e.cycle cycle) ≡ false
  not_yet e cycle le =
      let later : nat_lt e.cycle cycle ≡ false = grind (arith, nat_tests) in
      ap (λ w. is_of_rank rank e.command && is_refresh e.command && w) later ∙ neither (is_of_rank rank e.command) (is_refresh e.command)
    where
      neither : (a b : Bool) → (a && b && false) ≡ false
      neither true true = refl
      neither true false = refl
      neither false b = refl

  -- no REF comes before a cycle that isn't behind the first command's
  none_before : (e : Entry) (later : List Entry) (end cycle : ℕ) → IsInOrder end (e ∷ later) → cycle ≤ e.cycle → paid_before rank (e ∷ later) cycle ≡ 0
  none_before e [] end cycle order le = paid_first e [] cycle false (not_yet e cycle le)
  none_before e (f ∷ more) end cycle order le =
      let below : e.cycle < f.cycle = order.1 in
      let rest = none_before f more end cycle order.2 (omega (arith, le, below)) in
      paid_first e (f ∷ more) cycle false (not_yet e cycle le) ∙ omega (arith, rest)

  -- and one has as many
  abbrev Bounded : List Entry → Debt → ℕ → ℕ → Type 0
  Bounded later debt end m = (cycle : ℕ) → cycle < end → due_in refi start cycle - (debt.paid + paid_before rank later cycle) ≤ m

  bounded_paid : (e : Entry) (later : List Entry) (debt : Debt) (end m cycle : ℕ) → Bounded (e ∷ later) debt end m → cycle < end → (next_debt refi start rank debt e).paid ≡ debt.paid + 1 → Pays debt e
      → (w : Bool) → nat_lt e.cycle cycle ≡ w → due_in refi start cycle - ((next_debt refi start rank debt e).paid + paid_before rank later cycle) ≤ m
  bounded_paid e later debt end m cycle each below paid_is is true earlier =
      let known = each cycle below in
      let counted = pays_before debt e later cycle true is earlier in
      omega (arith, known, counted, paid_is)
  bounded_paid e later debt end m cycle each below paid_is is false later_on =
      let known = each cycle below in
      let counted = pays_before debt e later cycle false is later_on in
      omega (arith, known, counted, paid_is)

  reached_next : (e : Entry) (later : List Entry) (debt : Debt) (end m : ℕ) → debt.paid + suc (length later) < CLOCK_STOP → IsInOrder end (e ∷ later) → debt.most ≤ m → Bounded (e ∷ later) debt end m
      → ((next_debt refi start rank debt e).paid + length later < CLOCK_STOP → (next_debt refi start rank debt e).most ≤ m → Bounded later (next_debt refi start rank debt e) end m → most_behind (end - 1) (next_debt refi start rank debt e) later ≤ m)
      → Pays debt e ⊎ Leaves debt e → most_behind (end - 1) (next_debt refi start rank debt e) later ≤ m
  reached_next e later debt end m few order most each known (inl is) =
      let paid_is = paid_next debt e (length later) few is in
      let most_is = ap (λ (d : Debt). d.most) (pays debt e is) in
      let here = each e.cycle order.0 in
      let none = none_before e later end e.cycle order (omega arith) in
      known (omega (arith, few, paid_is)) (omega (arith, most, most_is, here, none))
      (λ cycle below. bounded_paid e later debt end m cycle each below paid_is is (nat_lt e.cycle cycle) refl)
  reached_next e later debt end m few order most each known (inr is) =
      let paid_is = ap (λ (d : Debt). d.paid) is.next in
      let most_is = ap (λ (d : Debt). d.most) is.next in
      known (omega (arith, few, paid_is)) (omega (arith, most, most_is))
      (λ cycle below.
      let bound = each cycle below in
      let counted = paid_first e later cycle false (is.none (nat_lt e.cycle cycle)) in
      omega (arith, bound, counted, paid_is))

  reached : (later : List Entry) (debt : Debt) (end m : ℕ) → debt.paid + length later < CLOCK_STOP → IsInOrder end later → debt.most ≤ m → Bounded later debt end m
      → most_behind (end - 1) debt later ≤ m
  reached [] debt zero m few order most each = let none = none_due 0 (omega arith) in omega (arith, most, none)
  reached [] debt (suc n) m few order most each =
      let last = each n (omega arith) in
      let same : suc n - 1 ≡ n = omega arith in
      let due = ap (due_in refi start) same in
      omega (arith, most, last, due)
  reached (e ∷ later) debt end m few order most each =
      reached_next e later debt end m few order most each (λ short most_is bound. reached later (next_debt refi start rank debt e) end m short order.2 most_is bound) (cases debt e _ _ refl refl)

  pub most_told : (end : ℕ) (history : List Entry) (debt : Debt) → debt ≡ debt_behind refi start rank history → length history < CLOCK_STOP → IsInOrder end history
      → max debt.most (due_in refi start (end - 1) - debt.paid) ≡ debt_most refi start end rank history
  unfolding debt_behind debt_most
  most_told end history debt is few order =
      ap (λ (d : Debt). max d.most (due_in refi start (end - 1) - d.paid)) is ∙ omega (arith, least, bound)
    where
      number : ℕ → ℕ
      number k = debt_in refi start rank history (start + k)

      each : (cycle : ℕ) → cycle < end → due_in refi start cycle - (0 + paid_before rank history cycle) ≤ most_of number (end - start)
      each cycle below = by_start (nat_lt cycle start) refl
        where
          by_start : (w : Bool) → nat_lt cycle start ≡ w → due_in refi start cycle - (0 + paid_before rank history cycle) ≤ most_of number (end - start)
          by_start true before =
              let le : cycle ≤ start = grind (arith, nat_tests) in
              let none = none_due cycle le in
              omega (arith, none)
          by_start false from =
              let le : start ≤ cycle = grind (arith, nat_tests) in
              let place : start + (cycle - start) ≡ cycle = omega (arith, le) in
              let there = most_bounds number (end - start) (cycle - start) (omega (arith, le, below)) in
              let same = ap (debt_in refi start rank history) place in
              omega (arith, there, same)

      least : most_behind (end - 1) no_debt history ≤ most_of number (end - start)
      least = reached history no_debt end (most_of number (end - start)) (omega (arith, few)) order (omega arith) each

      bound : most_of number (end - start) ≤ most_behind (end - 1) no_debt history
      bound = most_within number (end - start) _ (λ k below. let within = each_within history no_debt (end - 1) (start + k) (omega (arith, few)) (omega (arith, below)) in omega (arith, within))
