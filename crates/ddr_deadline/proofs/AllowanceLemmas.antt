-- How many cycles the refresh commands of two ranks may still take from a request until the next tick.
use Rattle.std.proofs.Common.{◌≡◌, ℕ, zero, suc, ◌+◌, ◌-◌, ◌*◌, ◌/◌, ◌%◌, ◌<◌, ◌≤◌, Bool, true, false, ◌&&◌, cond, eqb, leb, List, Option, Some, None, refl, sym, ap, subst, ◌∙◌, ◌⊎◌, inl, inr, arith}
use Rattle.std.specs.List.{range_with_len, slice_get}
use Rattle.std.specs.Option.{IfSome}
use Rattle.std.proofs.Math.Nat.{le-div_iff_mul-le}
use Rattle.std.proofs.lemmas.Bool.{cases_Bool, cases_lt, eq-eqb, eqb-true, false_from_ne_true, false≢true, lt-leb}
use Rattle.ddr_trace.specs.declared.command.Command.{Command}
use Rattle.ddr_trace.specs.declared.command.Command.TheVariants.{Pre, PreAll, Refresh}
use Rattle.ddr_trace.specs.Banks.{bank_behind, is_active}
use Rattle.ddr_trace.specs.Commands.{entry, is_refresh, rank_of}
use Rattle.ddr_trace.specs.Rules.{refresh_count}
use Rattle.ddr_refresh.specs.Refreshes.{due_by}
use Rattle.ddr_legality.specs.Bus.{Bus}
use Rattle.ddr_hazards.specs.declared.waiting.Waiting.{Waiting}
use Rattle.ddr_arbiter.specs.Choice.{some_bank_active}
use Rattle.ddr_arbiter.specs.Commands.{refresh}
use Rattle.ddr_channel.specs.Refresh.{overdue_from}
use Rattle.ddr_channel.proofs.BankTimeLemmas.{active_before, any_implies, any_none, bank_closed, bank_elsewhere, bank_refreshed}
use Rattle.ddr_channel.proofs.PromptLemmas.{IsElsewhere, after}
use Rattle.ddr_channel.proofs.RefreshLemmas.{count_other, count_refreshed}
use Rattle.ddr_deadline.proofs.CountLemmas.{IsTickless}

-- the claim of one rank, of which so many REFs fell due and so many were issued: a cycle for each REF that it owes, and one for its PREA,
-- where it owes more than may be put off and some bank is active
abbrev claim_of : ℕ → ℕ → ℕ → Bool → ℕ
claim_of due issued postpone active = (due - issued) + cond (leb (issued + postpone + 1) due && active) 1 0

-- as many as fell due before this cycle
abbrev pub due_before : Bus → ℕ
due_before b = due_by (b.now - b.start) b.config.timing.refi

abbrev pub issued_by : Bus → ℕ → ℕ
issued_by b rank = refresh_count b.trace (refresh rank)

-- with as many that fell due
abbrev pub claim_at : ℕ → Bus → ℕ → ℕ
claim_at due b rank = claim_of due (issued_by b rank) b.config.timing.postpone (some_bank_active b rank)

-- the arithmetic of a claim

claim_most : (due issued postpone : ℕ) (active : Bool) → due - issued ≤ postpone + 1 → claim_of due issued postpone active ≤ postpone + 2
claim_most due issued postpone active few = by_test (leb (issued + postpone + 1) due && active)
  where
    by_test : (w : Bool) → (due - issued) + cond w 1 0 ≤ postpone + 2
    by_test true = omega (arith, few)
    by_test false = omega (arith, few)

-- no bank more is active
claim_kept : (due issued postpone : ℕ) (active active' : Bool) → (active' ≡ true → active ≡ true) → claim_of due issued postpone active' ≤ claim_of due issued postpone active
claim_kept due issued postpone active active' fewer = by_tests (leb (issued + postpone + 1) due) active active' fewer
  where
    by_tests : (w x y : Bool) → (y ≡ true → x ≡ true) → (due - issued) + cond (w && y) 1 0 ≤ (due - issued) + cond (w && x) 1 0
    by_tests false x y implies = omega arith
    by_tests true true true implies = omega arith
    by_tests true true false implies = omega arith
    by_tests true false true implies = absurd (false≢true (implies refl))
    by_tests true false false implies = omega arith

-- the rank owes no more than may be put off
claim_calm : (due issued postpone : ℕ) (active active' : Bool) → leb (issued + postpone + 1) due ≡ false → claim_of due issued postpone active' ≤ claim_of due issued postpone active
claim_calm due issued postpone active active' calm = by_test (leb (issued + postpone + 1) due) calm
  where
    by_test : (w : Bool) → w ≡ false → (due - issued) + cond (w && active') 1 0 ≤ (due - issued) + cond (w && active) 1 0
    by_test true never = absurd (false≢true (sym never))
    by_test false none = omega arith

-- it has a REF
claim_refreshed : (due issued issued' postpone : ℕ) (active active' : Bool) → issued' ≡ issued + 1 → issued + 1 ≤ due → due - issued ≤ postpone + 1 → claim_of due issued' postpone active' + 1 ≤ claim_of due issued postpone active
claim_refreshed due issued issued' postpone active active' more owes few =
    let none : leb (issued' + postpone + 1) due ≡ false = lt-leb (issued' + postpone + 1) due (omega (arith, more, few)) in
    by_tests (leb (issued' + postpone + 1) due) (leb (issued + postpone + 1) due && active) none
  where
    by_tests : (w x : Bool) → w ≡ false → (due - issued') + cond (w && active') 1 0 + 1 ≤ (due - issued) + cond x 1 0
    by_tests true x never = absurd (false≢true (sym never))
    by_tests false true none = omega (arith, more, owes)
    by_tests false false none = omega (arith, more, owes)

-- it owes more than may be put off, and has a PREA
claim_precharged : (due issued postpone : ℕ) (active active' : Bool) → leb (issued + postpone + 1) due ≡ true → active ≡ true → active' ≡ false → claim_of due issued postpone active' + 1 ≤ claim_of due issued postpone active
claim_precharged due issued postpone active active' over opened closed = by_tests (leb (issued + postpone + 1) due) active active' over opened closed
  where
    by_tests : (w x y : Bool) → w ≡ true → x ≡ true → y ≡ false → (due - issued) + cond (w && y) 1 0 + 1 ≤ (due - issued) + cond (w && x) 1 0
    by_tests false x y never opened closed = absurd (false≢true never)
    by_tests true false y one never closed = absurd (false≢true never)
    by_tests true true true one two never = absurd (false≢true (sym never))
    by_tests true true false one two three = omega arith

-- the banks of a rank

still_active : (b : Bus) (o : Option Command) (rank : ℕ) → ((group bank : ℕ) → bank_behind (Pre rank group bank) (after o b).trace ≡ bank_behind (Pre rank group bank) b.trace) →
    some_bank_active (after o b) rank ≡ true → some_bank_active b rank ≡ true
still_active b o rank banks active =
    any_implies _ _ (range_with_len 0 (b.config.geometry.groups * 4)) (λ n is. active_before b.config.timing b.now (bank_behind (Pre rank (n / 4) (n % 4)) b.trace) (sym (ap (is_active b.config.timing (b.now + 1)) (banks (n / 4) (n % 4))) ∙ is)) active

banks_elsewhere : (b : Bus) (o : Option Command) (rank : ℕ) → IsElsewhere rank o → (group bank : ℕ) → bank_behind (Pre rank group bank) (after o b).trace ≡ bank_behind (Pre rank group bank) b.trace
banks_elsewhere b None rank other group bank = refl
banks_elsewhere b (Some c) rank other group bank = bank_elsewhere rank group bank b.trace (entry b.now c) other

active_elsewhere : (b : Bus) (o : Option Command) (rank : ℕ) → IsElsewhere rank o → some_bank_active (after o b) rank ≡ true → some_bank_active b rank ≡ true
active_elsewhere b o rank other = still_active b o rank (banks_elsewhere b o rank other)

pub active_refreshed : (b : Bus) (rank : ℕ) → some_bank_active (after (Some (Refresh rank)) b) rank ≡ true → some_bank_active b rank ≡ true
active_refreshed b rank = still_active b (Some (Refresh rank)) rank (λ group bank. bank_refreshed rank group bank b.now b.trace)

pub idle_precharged : (b : Bus) (rank : ℕ) → some_bank_active (after (Some (PreAll rank)) b) rank ≡ false
idle_precharged b rank = any_none _ (range_with_len 0 (b.config.geometry.groups * 4)) (λ n. rw (bank_closed rank (n / 4) (n % 4) b.now b.trace) refl)

-- the REFs of a rank

and_off : (x y : Bool) → y ≡ false → (x && y) ≡ false
and_off true y off = off
and_off false y off = refl

issued_elsewhere : (b : Bus) (o : Option Command) (rank : ℕ) → IsElsewhere rank o → issued_by (after o b) rank ≡ issued_by b rank
issued_elsewhere b None rank other = refl
issued_elsewhere b (Some d) rank other = count_other rank (entry b.now d) b.trace (and_off (is_refresh d) (eqb (rank_of d) rank) other)

issued_free : (b : Bus) (o : Option Command) (rank : ℕ) → IfSome o (λ d. is_refresh d ≡ false) → issued_by (after o b) rank ≡ issued_by b rank
issued_free b None rank free = refl
issued_free b (Some d) rank free = count_other rank (entry b.now d) b.trace (rw free refl)

-- what a cycle makes of a claim, where no tick falls

claim_elsewhere : (due : ℕ) (b : Bus) (o : Option Command) (rank : ℕ) → IsElsewhere rank o → claim_at due (after o b) rank ≤ claim_at due b rank
claim_elsewhere due b o rank other =
    subst (λ n. claim_of due n b.config.timing.postpone (some_bank_active (after o b) rank) ≤ claim_at due b rank) (sym (issued_elsewhere b o rank other))
    (claim_kept due (issued_by b rank) b.config.timing.postpone (some_bank_active b rank) (some_bank_active (after o b) rank) (active_elsewhere b o rank other))

claim_free : (due : ℕ) (b : Bus) (o : Option Command) (rank : ℕ) → IfSome o (λ d. is_refresh d ≡ false) → leb (issued_by b rank + b.config.timing.postpone + 1) due ≡ false → claim_at due (after o b) rank ≤ claim_at due b rank
claim_free due b o rank free calm =
    subst (λ n. claim_of due n b.config.timing.postpone (some_bank_active (after o b) rank) ≤ claim_at due b rank) (sym (issued_free b o rank free))
    (claim_calm due (issued_by b rank) b.config.timing.postpone (some_bank_active b rank) (some_bank_active (after o b) rank) calm)

claim_refresh : (due : ℕ) (b : Bus) (rank : ℕ) → issued_by b rank + 1 ≤ due → due - issued_by b rank ≤ b.config.timing.postpone + 1 → claim_at due (after (Some (Refresh rank)) b) rank + 1 ≤ claim_at due b rank
claim_refresh due b rank owes few =
    claim_refreshed due (issued_by b rank) (issued_by (after (Some (Refresh rank)) b) rank) b.config.timing.postpone (some_bank_active b rank) (some_bank_active (after (Some (Refresh rank)) b) rank) (count_refreshed rank b.now b.trace) owes few

claim_precharge : (due : ℕ) (b : Bus) (rank : ℕ) → leb (issued_by b rank + b.config.timing.postpone + 1) due ≡ true → some_bank_active b rank ≡ true → claim_at due (after (Some (PreAll rank)) b) rank + 1 ≤ claim_at due b rank
claim_precharge due b rank over active =
    subst (λ n. claim_of due n b.config.timing.postpone (some_bank_active (after (Some (PreAll rank)) b) rank) + 1 ≤ claim_at due b rank) (sym (issued_free b (Some (PreAll rank)) rank refl))
    (claim_precharged due (issued_by b rank) b.config.timing.postpone (some_bank_active b rank) (some_bank_active (after (Some (PreAll rank)) b) rank) over active (idle_precharged b rank))

-- both ranks

-- where neither claim grows, and where one of them falls
both_kept : (f g : ℕ → ℕ) → ((rank : ℕ) → g rank ≤ f rank) → g 0 + g 1 ≤ f 0 + f 1
both_kept f g each = let first = each 0 in let second = each 1 in omega (arith, first, second)

both_less : (f g : ℕ → ℕ) (rank : ℕ) → rank < 2 → ((other : ℕ) → (other ≡ rank → ⊥) → g other ≤ f other) → g rank + 1 ≤ f rank → g 0 + g 1 + 1 ≤ f 0 + f 1
both_less f g zero inside each less = let second = each 1 (λ same. apart same) in omega (arith, less, second)
  where
    apart : suc zero ≡ zero → ⊥
    apart same = omega (arith, same)
both_less f g (suc zero) inside each less = let first = each 0 (λ same. apart same) in omega (arith, less, first)
  where
    apart : zero ≡ suc zero → ⊥
    apart same = omega (arith, same)
both_less f g (suc (suc rank)) inside each less = absurd (omega (arith, inside))

-- where no tick falls in a cycle

-- what a forced rank owes
pub due_here : (b : Bus) → b.start ≤ b.now → IsTickless b.start b.config.timing.refi b.now → due_before b ≡ (b.now - b.start) / b.config.timing.refi
due_here b begun none =
    let clocks : b.now + 1 - b.start - 1 ≡ b.now - b.start = omega (arith, begun) in
    sym none.due ∙ ap (λ n. n / b.config.timing.refi) clocks

-- a rank that isn't overdue owes no more than may be put off
calm_early : (b : Bus) (rank : ℕ) → b.start ≤ b.now → IsTickless b.start b.config.timing.refi b.now → b.now < overdue_from b.config b.start rank b.trace → leb (issued_by b rank + b.config.timing.postpone + 1) (due_before b) ≡ false
calm_early b rank begun none early =
    let refi = b.config.timing.refi in
    let count = issued_by b rank + b.config.timing.postpone + 1 in
    lt-leb count (due_before b) (subst (λ n. n < count) (sym (due_here b begun none)) (before b.start b.now count refi b.config.timing.refi_range.0 early begun))
  where
    before : (start now count refi : ℕ) → 1 ≤ refi → now < start + count * refi → start ≤ now → (now - start) / refi < count
    before start now count refi some early begun = elim (cases_lt ((now - start) / refi) count) [
      | inl less ↦ less
      | inr many ↦
          let all = (le-div_iff_mul-le {k = refi} {x = count} {y = now - start} (omega (arith, some))).0 many in
          absurd (omega (arith, all, early, begun))
    ]

-- what a cycle without a tick does to the claims of both ranks, where its command takes so many cycles
pub record Lowers (b b' : Bus) (w : Waiting) (moved : ℕ) : Type 0 where
  pub sum : claim_at (due_before b) b' 0 + claim_at (due_before b) b' 1 + moved ≤ claim_at (due_before b) b 0 + claim_at (due_before b) b 1
  -- only the rank of the oldest request may become active
  pub idle : (rank : ℕ) → (rank ≡ w.request.place.rank → ⊥) → some_bank_active b' rank ≡ true → some_bank_active b rank ≡ true

-- or it closes the banks of a rank that nothing is pending for
pub record Closes (b b' : Bus) (pending : List Waiting) (moved rank : ℕ) : Type 0 where
  pub sum : claim_at (due_before b) b' 0 + claim_at (due_before b) b' 1 ≤ claim_at (due_before b) b 0 + claim_at (due_before b) b 1
  pub little : moved ≤ 1
  pub inside : rank < 2
  pub was : some_bank_active b rank ≡ true
  pub closed : some_bank_active b' rank ≡ false
  pub unwanted : (i : ℕ) (v : Waiting) → slice_get pending i ≡ Some v → v.request.place.rank ≡ rank → ⊥

-- the command is the oldest request's, whose rank isn't overdue, or there is none
pub own_lowers : (b : Bus) (o : Option Command) (w : Waiting) → b.start ≤ b.now → IsTickless b.start b.config.timing.refi b.now → b.now < overdue_from b.config b.start w.request.place.rank b.trace →
    IfSome o (λ d. (rank_of d ≡ w.request.place.rank) × (is_refresh d ≡ false)) → Lowers b (after o b) w 0
own_lowers b o w begun none early own = record {
  sum = no_more (both_kept (λ rank. claim_at (due_before b) b rank) (λ rank. claim_at (due_before b) (after o b) rank) each);
  idle = λ rank other. active_elsewhere b o rank (elsewhere o own rank other);
}
  where
    no_more : {m n : ℕ} → m ≤ n → m + 0 ≤ n
    no_more less = omega (arith, less)

    elsewhere : (o : Option Command) → IfSome o (λ d. (rank_of d ≡ w.request.place.rank) × (is_refresh d ≡ false)) → (rank : ℕ) → (rank ≡ w.request.place.rank → ⊥) → IsElsewhere rank o
    elsewhere None own rank other = tt
    elsewhere (Some d) own rank other = false_from_ne_true (eqb (rank_of d) rank) (λ is. other (sym (eqb-true (rank_of d) rank is) ∙ own.0))

    free : (o : Option Command) → IfSome o (λ d. (rank_of d ≡ w.request.place.rank) × (is_refresh d ≡ false)) → IfSome o (λ d. is_refresh d ≡ false)
    free None own = tt
    free (Some d) own = own.1

    each : (rank : ℕ) → claim_at (due_before b) (after o b) rank ≤ claim_at (due_before b) b rank
    each rank = elim (cases_Bool (eqb rank w.request.place.rank)) [
      | inl same ↦ claim_free (due_before b) b o rank (free o own) (calm_early b rank begun none (subst (λ k. b.now < overdue_from b.config b.start k b.trace) (sym (eqb-true rank w.request.place.rank same)) early))
      | inr apart ↦ claim_elsewhere (due_before b) b o rank (elsewhere o own rank (λ is. absurd (false≢true (sym apart ∙ eq-eqb rank w.request.place.rank is))))
    ]

pub nothing_lowers : (b : Bus) (w : Waiting) → Lowers b (after None b) w 0
nothing_lowers b w = record {
  sum = no_more (both_kept (λ rank. claim_at (due_before b) b rank) (λ rank. claim_at (due_before b) (after None b) rank) (λ rank. claim_elsewhere (due_before b) b None rank tt));
  idle = λ rank other. active_elsewhere b None rank tt;
}
  where
    no_more : {m n : ℕ} → m ≤ n → m + 0 ≤ n
    no_more less = omega (arith, less)

other_rank : (rank other : ℕ) → (other ≡ rank → ⊥) → eqb rank other ≡ false
other_rank rank other apart = false_from_ne_true (eqb rank other) (λ is. apart (sym (eqb-true rank other is)))

one_at_most : (moved m n : ℕ) → moved ≤ 1 → m + 1 ≤ n → m + moved ≤ n
one_at_most moved m n little less = omega (arith, little, less)

-- a REF
pub refresh_lowers : (b : Bus) (w : Waiting) (rank moved : ℕ) → rank < 2 → moved ≤ 1 → issued_by b rank + 1 ≤ due_before b → due_before b - issued_by b rank ≤ b.config.timing.postpone + 1 → Lowers b (after (Some (Refresh rank)) b) w moved
refresh_lowers b w rank moved inside little owes few = record {
  sum = one_at_most moved _ _ little
      (both_less (λ k. claim_at (due_before b) b k) (λ k. claim_at (due_before b) (after (Some (Refresh rank)) b) k) rank inside (λ other apart. claim_elsewhere (due_before b) b (Some (Refresh rank)) other (other_rank rank other apart))
      (claim_refresh (due_before b) b rank owes few));
  idle = λ other apart. by_rank other (cases_Bool (eqb rank other));
}
  where
    by_rank : (other : ℕ) → (eqb rank other ≡ true) ⊎ (eqb rank other ≡ false) → some_bank_active (after (Some (Refresh rank)) b) other ≡ true → some_bank_active b other ≡ true
    by_rank other (inl same) = subst (λ k. some_bank_active (after (Some (Refresh rank)) b) k ≡ true → some_bank_active b k ≡ true) (eqb-true rank other same) (active_refreshed b rank)
    by_rank other (inr apart) = active_elsewhere b (Some (Refresh rank)) other apart

-- a PREA of a rank that owes more than may be put off
pub precharge_lowers : (b : Bus) (w : Waiting) (rank moved : ℕ) → rank < 2 → moved ≤ 1 → leb (issued_by b rank + b.config.timing.postpone + 1) (due_before b) ≡ true → some_bank_active b rank ≡ true → Lowers b (after (Some (PreAll rank)) b) w moved
precharge_lowers b w rank moved inside little over active = record {
  sum = one_at_most moved _ _ little
      (both_less (λ k. claim_at (due_before b) b k) (λ k. claim_at (due_before b) (after (Some (PreAll rank)) b) k) rank inside (λ other apart. claim_elsewhere (due_before b) b (Some (PreAll rank)) other (other_rank rank other apart))
      (claim_precharge (due_before b) b rank over active));
  idle = λ other apart. by_rank other (cases_Bool (eqb rank other));
}
  where
    by_rank : (other : ℕ) → (eqb rank other ≡ true) ⊎ (eqb rank other ≡ false) → some_bank_active (after (Some (PreAll rank)) b) other ≡ true → some_bank_active b other ≡ true
    by_rank other (inl same) =
        subst (λ k. some_bank_active (after (Some (PreAll rank)) b) k ≡ true → some_bank_active b k ≡ true) (eqb-true rank other same) (λ is. absurd (false≢true (sym (idle_precharged b rank) ∙ is)))
    by_rank other (inr apart) = active_elsewhere b (Some (PreAll rank)) other apart

-- and one of a rank that doesn't, and that nothing is pending for
pub precharge_closes : (b : Bus) (pending : List Waiting) (rank moved : ℕ) → rank < 2 → moved ≤ 1 → leb (issued_by b rank + b.config.timing.postpone + 1) (due_before b) ≡ false → some_bank_active b rank ≡ true →
    ((i : ℕ) (v : Waiting) → slice_get pending i ≡ Some v → v.request.place.rank ≡ rank → ⊥) → Closes b (after (Some (PreAll rank)) b) pending moved rank
precharge_closes b pending rank moved inside little calm active unwanted = record {
  sum = both_kept (λ k. claim_at (due_before b) b k) (λ k. claim_at (due_before b) (after (Some (PreAll rank)) b) k) (λ k. each k (cases_Bool (eqb rank k)));
  little = little;
  inside = inside;
  was = active;
  closed = idle_precharged b rank;
  unwanted = unwanted;
}
  where
    each : (k : ℕ) → (eqb rank k ≡ true) ⊎ (eqb rank k ≡ false) → claim_at (due_before b) (after (Some (PreAll rank)) b) k ≤ claim_at (due_before b) b k
    each k (inl same) = subst (λ other. claim_at (due_before b) (after (Some (PreAll rank)) b) other ≤ claim_at (due_before b) b other) (eqb-true rank k same) (claim_free (due_before b) b (Some (PreAll rank)) rank refl calm)
    each k (inr apart) = claim_elsewhere (due_before b) b (Some (PreAll rank)) k apart

-- what is allowed

-- A rank has no active bank, and neither the request at the place nor an older one is for it: so none becomes active before that is served.
pub record IsQuiet (place : ℕ) (b : Bus) (pending : List Waiting) : Type 0 where
  pub rank : ℕ
  pub inside : rank < 2
  pub idle : some_bank_active b rank ≡ false
  pub apart : (i : ℕ) (v : Waiting) → i ≤ place → slice_get pending i ≡ Some v → v.request.place.rank ≡ rank → ⊥

-- Until the next tick the refresh commands of both ranks take no more cycles than the claims, and one, where no rank is quiet: for the PREA of
-- one that nothing is pending for.
pub record IsAllowed (place : ℕ) (b : Bus) (pending : List Waiting) (left : ℕ) : Type 0 where
  pub more : ℕ
  pub least : claim_at (due_before b) b 0 + claim_at (due_before b) b 1 + more ≤ left
  pub quiet : more ≡ 0 → IsQuiet place b pending

-- neither rank owes more than one REF above those that may be put off
abbrev pub AreFew : Bus → Type 0
AreFew b = (rank : ℕ) → rank < 2 → due_before b - issued_by b rank ≤ b.config.timing.postpone + 1

pub claims_few : (b : Bus) → AreFew b → claim_at (due_before b) b 0 + claim_at (due_before b) b 1 + 1 ≤ 2 * b.config.timing.postpone + 5
claims_few b few =
    let first = claim_most (due_before b) (issued_by b 0) b.config.timing.postpone (some_bank_active b 0) (few 0 (omega arith)) in
    let second = claim_most (due_before b) (issued_by b 1) b.config.timing.postpone (some_bank_active b 1) (few 1 (omega arith)) in
    omega (arith, first, second)

-- one less, where a rank has no active bank
claim_idle : (due issued postpone : ℕ) (active : Bool) → due - issued ≤ postpone + 1 → active ≡ false → claim_of due issued postpone active ≤ postpone + 1
claim_idle due issued postpone active few idle = by_tests (leb (issued + postpone + 1) due) active idle
  where
    by_tests : (w x : Bool) → x ≡ false → (due - issued) + cond (w && x) 1 0 ≤ postpone + 1
    by_tests w true never = absurd (false≢true (sym never))
    by_tests true false none = omega (arith, few)
    by_tests false false none = omega (arith, few)

pub claims_fewer : (b : Bus) (rank : ℕ) → AreFew b → rank < 2 → some_bank_active b rank ≡ false → claim_at (due_before b) b 0 + claim_at (due_before b) b 1 + 1 + 1 ≤ 2 * b.config.timing.postpone + 5
claims_fewer b zero few inside idle =
    let first = claim_idle (due_before b) (issued_by b 0) b.config.timing.postpone (some_bank_active b 0) (few 0 inside) idle in
    let second = claim_most (due_before b) (issued_by b 1) b.config.timing.postpone (some_bank_active b 1) (few 1 (omega arith)) in
    omega (arith, first, second)
claims_fewer b (suc zero) few inside idle =
    let first = claim_most (due_before b) (issued_by b 0) b.config.timing.postpone (some_bank_active b 0) (few 0 (omega arith)) in
    let second = claim_idle (due_before b) (issued_by b 1) b.config.timing.postpone (some_bank_active b 1) (few 1 inside) idle in
    omega (arith, first, second)
claims_fewer b (suc (suc rank)) few inside idle = absurd (omega (arith, inside))

-- as many are allowed in any state
pub allowed_most : (place : ℕ) (b : Bus) (pending : List Waiting) → AreFew b → IsAllowed place b pending (2 * b.config.timing.postpone + 5)
allowed_most place b pending few = record { more = 1; least = claims_few b few; quiet = λ none. let never : ⊥ = one_some none in absurd never }
  where
    one_some : suc zero ≡ zero → ⊥
    one_some none = omega (arith, none)

-- the requests up to a place behind a cycle were up to this one before
abbrev pub AreOf : ℕ → ℕ → List Waiting → List Waiting → Type 0
AreOf place place' pending pending' = (i : ℕ) (v : Waiting) → i ≤ place' → slice_get pending' i ≡ Some v → (j : ℕ) × (j ≤ place) × (slice_get pending j ≡ Some v)

-- what is left behind a cycle without a tick
pub record Leaving (place : ℕ) (b : Bus) (pending : List Waiting) (left moved : ℕ) : Type 0 where
  pub then : ℕ
  pub allowed : IsAllowed place b pending then
  pub less : then + moved ≤ left

zero_least : (k : ℕ) → 0 ≤ k
zero_least k = omega arith

-- the claims behind it are of the same ticks
claims_same : (b : Bus) (o : Option Command) (more : ℕ) → IsTickless b.start b.config.timing.refi b.now →
    claim_at (due_before (after o b)) (after o b) 0 + claim_at (due_before (after o b)) (after o b) 1 + more ≤ claim_at (due_before b) (after o b) 0 + claim_at (due_before b) (after o b) 1 + more
claims_same b o more none = subst (λ due. claim_at (due_before (after o b)) (after o b) 0 + claim_at (due_before (after o b)) (after o b) 1 + more ≤ claim_at due (after o b) 0 + claim_at due (after o b) 1 + more) none.due (same _)
  where
    same : (k : ℕ) → k ≤ k
    same k = omega arith

pub lowers_leaving : (place place' : ℕ) (b : Bus) (o : Option Command) (w : Waiting) (pending pending' : List Waiting) (left moved : ℕ) → slice_get pending 0 ≡ Some w → IsTickless b.start b.config.timing.refi b.now → AreOf place place' pending pending' →
    Lowers b (after o b) w moved → IsAllowed place b pending left → Leaving place' (after o b) pending' left moved
lowers_leaving place place' b o w pending pending' left moved first none same l a = record {
  then = claim_at (due_before b) (after o b) 0 + claim_at (due_before b) (after o b) 1 + a.more;
  allowed = record {
    more = a.more;
    least = claims_same b o a.more none;
    quiet = λ zeroth.
        let q = a.quiet zeroth in record {
          rank = q.rank;
          inside = q.inside;
          idle = false_from_ne_true (some_bank_active (after o b) q.rank) (λ is. false≢true (sym q.idle ∙ l.idle q.rank (λ it. q.apart 0 w (zero_least place) first (sym it)) is));
          apart = λ i v older here. let was = same i v older here in q.apart was.0 v was.1 was.2;
        };
  };
  less = as_less _ _ moved a.more left l.sum a.least;
}
  where
    as_less : (new old moved more left : ℕ) → new + moved ≤ old → old + more ≤ left → new + more + moved ≤ left
    as_less new old moved more left one two = omega (arith, one, two)

-- of three ranks two are the same
two_ranks : (a b d : ℕ) → a < 2 → b < 2 → d < 2 → (a ≡ b → ⊥) → (a ≡ d → ⊥) → (b ≡ d → ⊥) → ⊥
two_ranks a b d one two three ab ad bd = elim (cases_lt a 1) [
  | inl low ↦ elim (cases_lt b 1) [
    | inl same ↦ ab (omega (arith, low, same))
    | inr high ↦ elim (cases_lt d 1) [ inl same ↦ ad (omega (arith, low, same)) | inr also ↦ bd (omega (arith, high, also, two, three)) ]
  ]
  | inr high ↦ elim (cases_lt b 1) [
    | inr same ↦ ab (omega (arith, high, same, one, two))
    | inl low ↦ elim (cases_lt d 1) [ inr same ↦ ad (omega (arith, high, same, one, three)) | inl also ↦ bd (omega (arith, low, also)) ]
  ]
]

pub closes_leaving : (place place' : ℕ) (b : Bus) (o : Option Command) (w : Waiting) (pending pending' : List Waiting) (left moved rank : ℕ) → slice_get pending 0 ≡ Some w → w.request.place.rank < 2 → IsTickless b.start b.config.timing.refi b.now →
    AreOf place place' pending pending' → Closes b (after o b) pending moved rank → IsAllowed place b pending left → Leaving place' (after o b) pending' left moved
closes_leaving place place' b o w pending pending' left moved rank first there none same k a = by_more a.more refl
  where
    least : claim_at (due_before b) b 0 + claim_at (due_before b) b 1 + a.more ≤ left
    least = a.least

    as_less : (new old moved more left m : ℕ) → new ≤ old → old + more ≤ left → more ≡ suc m → moved ≤ 1 → new + 0 + moved ≤ left
    as_less new old moved more left m one two three four = omega (arith, one, two, three, four)

    by_more : (more : ℕ) → a.more ≡ more → Leaving place' (after o b) pending' left moved
    by_more zero zeroth =
        let q = a.quiet zeroth in
        absurd (two_ranks w.request.place.rank q.rank rank there q.inside k.inside (q.apart 0 w (zero_least place) first) (k.unwanted 0 w first)
        (λ it. false≢true (sym q.idle ∙ ap (some_bank_active b) it ∙ k.was)))
    by_more (suc m) some = record {
      then = claim_at (due_before b) (after o b) 0 + claim_at (due_before b) (after o b) 1 + 0;
      allowed = record {
        more = 0;
        least = claims_same b o 0 none;
        quiet = λ zeroth. record {
          rank = rank;
          inside = k.inside;
          idle = k.closed;
          apart = λ i v older here. let was = same i v older here in k.unwanted was.0 v was.2;
        };
      };
      less = as_less _ _ moved a.more left m k.sum least some k.little;
    }

-- what the claims are, and one, is allowed in any state
pub allowed_claims : (place : ℕ) (b : Bus) (pending : List Waiting) → IsAllowed place b pending (claim_at (due_before b) b 0 + claim_at (due_before b) b 1 + 1)
allowed_claims place b pending = record { more = 1; least = same _; quiet = λ none. let never : ⊥ = one_some none in absurd never }
  where
    same : (k : ℕ) → k ≤ k
    same k = omega arith

    one_some : suc zero ≡ zero → ⊥
    one_some none = omega (arith, none)
