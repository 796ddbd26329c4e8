-- Each cycle keeps the refreshes of every rank in time.
use Rattle.std.proofs.Common.{◌≡◌, ℕ, suc, ◌+◌, ◌-◌, ◌*◌, ◌<◌, ◌≤◌, Bool, true, false, ◌&&◌, cond, eqb, ltb, leb, List, [], ◌∷◌, ◌++◌, length, Option, Some, None, count_by, refl, sym, ap, subst, ◌∙◌, ◌⊎◌, inl, inr, arith}
use Rattle.std.specs.List.{filter, slice_get}
use Rattle.std.specs.Option.{IfSome}
use Rattle.std.proofs.Math.Nat.{suc-mul, mul-le-mul_right}
use Rattle.std.proofs.lemmas.Bool.{cases_lt, cases_order, eq-eqb, eqb-true, le-leb, lt-ltb, false≢true}
use Rattle.std.proofs.lemmas.Bool.Decides.{nat_tests}
use Rattle.std.proofs.lemmas.List.{length-append}
use Rattle.std.proofs.lemmas.List.Elements.{filter-append}
use Rattle.std.proofs.lemmas.List.Sums.{sum_by-append}
use Rattle.ddr_trace.specs.declared.command.Command.{Command}
use Rattle.ddr_trace.specs.declared.command.Command.TheVariants.{Refresh}
use Rattle.ddr_trace.specs.declared.command.Entry.{Entry}
use Rattle.ddr_trace.specs.Commands.{entry, is_refresh, rank_of}
use Rattle.ddr_trace.specs.Legality.{IsLegal}
use Rattle.ddr_trace.specs.Rules.{refresh_count}
use Rattle.ddr_legality.specs.Bus.{Bus, is_legal_now}
use Rattle.ddr_arbiter.specs.Choice.{is_something}
use Rattle.ddr_arbiter.specs.Commands.{precharge_all, refresh}
use Rattle.ddr_arbiter.specs.Laws.{command_of}
use Rattle.ddr_arbiter.proofs.LawLemmas.{choice_lawful}
use Rattle.ddr_channel.specs.Choice.{bus_of, choice_of, situation_of}
use Rattle.ddr_channel.specs.State.{State}
use Rattle.ddr_channel.specs.Refresh.{commands_from}
use Rattle.ddr_channel.proofs.BusLemmas.{IsNext, all_before}
use Rattle.ddr_channel.proofs.ForcedLemmas.{OverdueServed, overdue_command, overdue_served, overdue_when, precharged_active, ranks_counted, step_cases, when_overdue}
use Rattle.ddr_channel.proofs.PlaceLemmas.{pushed}
use Rattle.ddr_channel.proofs.PromptLemmas.{IsClosed, IsElsewhere, IsLegalNow, IsPrompt, IsPromptBy, after, due_at, free_after, is_before_from, prompt_fresh, prompt_precharge, prompt_taken, prompt_waits, refresh_is, taken_from}

-- the REFs of a rank, as the trace grows

counted_yes : {X : Type 0} (p : X → Bool) (xs : List X) (x : X) → p x ≡ true → count_by p (xs ++ x ∷ []) ≡ count_by p xs + 1
counted_yes p xs x h = sum_by-append (λ y. cond (p y) 1 0) xs (x ∷ []) ∙ rw h (omega arith)

counted_no : {X : Type 0} (p : X → Bool) (xs : List X) (x : X) → p x ≡ false → count_by p (xs ++ x ∷ []) ≡ count_by p xs
counted_no p xs x h = sum_by-append (λ y. cond (p y) 1 0) xs (x ∷ []) ∙ rw h (omega arith)

pub count_refreshed : (rank cycle : ℕ) (trace : List Entry) → refresh_count (trace ++ entry cycle (Refresh rank) ∷ []) (refresh rank) ≡ refresh_count trace (refresh rank) + 1
count_refreshed rank cycle trace = counted_yes (λ a. is_refresh a.command && eqb (rank_of a.command) rank) trace (entry cycle (Refresh rank)) (rw (eq-eqb rank rank refl) refl)

pub count_other : (rank : ℕ) (x : Entry) (trace : List Entry) → (is_refresh x.command && eqb (rank_of x.command) rank) ≡ false → refresh_count (trace ++ x ∷ []) (refresh rank) ≡ refresh_count trace (refresh rank)
count_other rank x trace other = counted_no (λ a. is_refresh a.command && eqb (rank_of a.command) rank) trace x other

more_times : (a n : ℕ) → (a + 1) * n ≡ a * n + n
more_times a n = let next : a + 1 ≡ suc a = omega arith in ap (λ k. k * n) next ∙ suc-mul a n

-- one REF more puts the next one off by an interval
due_refreshed : (b : Bus) (rank : ℕ) → due_at (after (Some (Refresh rank)) b) rank ≡ due_at b rank + b.config.timing.refi
due_refreshed b rank =
    let n = refresh_count b.trace (refresh rank) in
    let more : refresh_count (after (Some (Refresh rank)) b).trace (refresh rank) + b.config.timing.postpone + 1 ≡ (n + b.config.timing.postpone + 1) + 1 = omega (arith, count_refreshed rank b.now b.trace) in
    ap (λ k. b.start + k * b.config.timing.refi) more ∙ ap (λ k. b.start + k) (more_times (n + b.config.timing.postpone + 1) b.config.timing.refi) ∙ omega arith

off : (b : Bool) → (b && false) ≡ false
off true = refl
off false = refl

-- the command is no REF of the rank, if there is one
abbrev IsNoRefresh : ℕ → Option Command → Type 0
IsNoRefresh rank o = IfSome o (λ c. (is_refresh c && eqb (rank_of c) rank) ≡ false)

due_kept : (b : Bus) (o : Option Command) (rank : ℕ) → IsNoRefresh rank o → due_at (after o b) rank ≡ due_at b rank
due_kept b None rank none = refl
due_kept b (Some c) rank none = ap (λ n. b.start + (n + b.config.timing.postpone + 1) * b.config.timing.refi) (count_other rank (entry b.now c) b.trace none)

-- two ranks that are overdue in one cycle are so from the same on, as long as neither is late

apart_by : (a c refi x : ℕ) → a < c → c * refi ≤ x → a * refi + refi ≤ x
apart_by a c refi x less up =
    let it = mul-le-mul_right {m = a + 1} {n = c} refi (omega arith) in
    let times = more_times a refi in
    omega arith

same_times : (start a c refi now : ℕ) → start + a * refi ≤ now → now < start + a * refi + refi → start + c * refi ≤ now → now < start + c * refi + refi → start + a * refi ≡ start + c * refi
same_times start a c refi now first first_end second second_end = elim (cases_order a c) [
  | inl same ↦ ap (λ n. start + n * refi) same
  | inr (inl less) ↦ absurd (let it = apart_by a c refi (now - start) less (omega arith) in omega arith)
  | inr (inr more) ↦ absurd (let it = apart_by c a refi (now - start) more (omega arith) in omega arith)
]

-- the cycles that ranks before took

filter_alike : {X : Type 0} (p q : X → Bool) (xs : List X) → ((x : X) → p x ≡ q x) → filter p xs ≡ filter q xs
filter_alike p q [] same = refl
filter_alike p q (x ∷ xs) same = rw (same x, filter_alike p q xs same) refl

taken_more : (b : Bus) (o : Option Command) (rank due : ℕ) → taken_from rank due b.trace ≤ taken_from rank due (after o b).trace
taken_more b None rank due = omega arith
taken_more b (Some c) rank due =
    let both = length-append (filter (is_before_from rank due) b.trace) (filter (is_before_from rank due) (entry b.now c ∷ [])) in
    let same = ap (λ (es : List Entry). length es) (filter-append (is_before_from rank due) b.trace (entry b.now c ∷ [])) in
    omega arith

taken_one : (b : Bus) (c : Command) (rank due : ℕ) → rank_of c < rank → due ≤ b.now → taken_from rank due (after (Some c) b).trace ≡ taken_from rank due b.trace + 1
taken_one b c rank due before late =
    let passes : is_before_from rank due (entry b.now c) ≡ true = rw (lt-ltb (rank_of c) rank before, le-leb due b.now late) refl in
    let split : filter (is_before_from rank due) (b.trace ++ entry b.now c ∷ []) ≡ filter (is_before_from rank due) b.trace ++ entry b.now c ∷ [] = filter-append (is_before_from rank due) b.trace (entry b.now c ∷ []) ∙ rw passes refl in
    ap (λ (es : List Entry). length es) split ∙ length-append (filter (is_before_from rank due) b.trace) (entry b.now c ∷ [])

-- before rank 1 comes rank 0 alone
first_alone : (due : ℕ) (trace : List Entry) → taken_from 1 due trace ≡ length (commands_from 0 due trace)
first_alone due trace = ap (λ (es : List Entry). length es) (filter_alike (is_before_from 1 due) (λ e. eqb (rank_of e.command) 0 && leb due e.cycle) trace (λ e. ap (λ w. w && leb due e.cycle) (below_one (rank_of e.command))))
  where
    below_one : (k : ℕ) → ltb k 1 ≡ eqb k 0
    below_one k = grind (arith, nat_tests)

few_own : (b : Bus) (rank due taken : ℕ) → (commands_from rank due b.trace ≡ []) ⊎ IsClosed b rank due taken → length (commands_from rank due b.trace) ≤ 1
few_own b rank due taken (inl none) = let it = ap (λ (es : List Entry). length es) none in omega arith
few_own b rank due taken (inr closed) = let it = ap (λ (es : List Entry). length es) closed.only in omega arith

-- what a cycle finds of every rank
pub record IsKeptPrompt (s : State) : Type 0 where
  pub legal : IsLegal s.config s.start s.now s.trace
  pub begun : s.start ≤ s.now
  pub all : (rank : ℕ) → rank < s.config.geometry.ranks → IsPrompt (bus_of s) rank

next_of : (s : State) (rank : ℕ) → IsKeptPrompt s → rank < s.config.geometry.ranks → IsNext (bus_of s) rank
next_of s rank kept inside = record { begun = kept.begun; behind = all_before s.config s.start s.now s.trace kept.legal; inside = inside }

-- a rank that is overdue isn't so for a whole interval
not_long : (s : State) (rank : ℕ) → IsKeptPrompt s → rank < s.config.geometry.ranks → s.now < due_at (bus_of s) rank + s.config.timing.refi
not_long s rank kept inside = let it = (kept.all rank inside).by.1 in omega arith

-- a rank that is tried before another overdue one took at most one cycle so far
taken_few : (s : State) (rank q : ℕ) → IsKeptPrompt s → rank < s.config.geometry.ranks → q < rank → due_at (bus_of s) rank ≤ s.now → due_at (bus_of s) q ≤ s.now → taken_from rank (due_at (bus_of s) rank) s.trace ≤ 1
taken_few s rank q kept inside before late also =
    let b = bus_of s in
    let one : rank ≡ 1 = omega arith in
    let first : q ≡ 0 = omega arith in
    let same : due_at b rank ≡ due_at b q = same_times s.start (refresh_count s.trace (refresh rank) + s.config.timing.postpone + 1) (refresh_count s.trace (refresh q) + s.config.timing.postpone + 1) s.config.timing.refi s.now
    late (not_long s rank kept inside) also (not_long s q kept (omega arith)) in
    let own = few_own b q (due_at b q) _ (kept.all q (omega arith)).phase in
    let zero_own : length (commands_from 0 (due_at b q) s.trace) ≤ 1 = subst (λ k. length (commands_from k (due_at b q) s.trace) ≤ 1) first own in
    let alone = first_alone (due_at b q) s.trace in
    let few : taken_from 1 (due_at b q) s.trace ≤ 1 = omega arith in
    subst (λ d. taken_from rank d s.trace ≤ 1) (sym same) (subst (λ k. taken_from k (due_at b q) s.trace ≤ 1) (sym one) few)

-- the cycle's command

legal_of : (s : State) (o : Option Command) → command_of s.pending (choice_of s) ≡ o → IsLegalNow (bus_of s) o
legal_of s o is = subst (IsLegalNow (bus_of s)) is (choice_lawful (situation_of s)).legal

less : (m n : ℕ) → m ≤ n → (m ≡ n → ⊥) → m < n
less m n most other = elim (cases_order m n) [
  | inl same ↦ absurd (other same)
  | inr (inl below) ↦ below
  | inr (inr above) ↦ absurd (omega arith)
]

-- an overdue rank that the command isn't of
overdue_elsewhere : (s : State) (o : Option Command) (rank : ℕ) → command_of s.pending (choice_of s) ≡ o → IsKeptPrompt s → rank < s.config.geometry.ranks → due_at (bus_of s) rank ≤ s.now → IsElsewhere rank o →
    IsPromptBy (after o (bus_of s)) rank (due_at (bus_of s) rank) (taken_from rank (due_at (bus_of s) rank) (after o (bus_of s)).trace)
overdue_elsewhere s o rank is kept inside late other =
    let b = bus_of s in
    let due = due_at b rank in
    let over = overdue_when s rank inside late in
    let many = ranks_counted s in
    elim (overdue_served (situation_of s) rank (omega arith) over) [
      | inl nothing ↦ elim (step_cases b rank) [
        | inl ref ↦ absurd (false≢true (sym nothing ∙ ap is_something ref.is))
        | inr (inl pre) ↦ absurd (false≢true (sym nothing ∙ ap is_something pre.is))
        | inr (inr waits) ↦ prompt_waits b o rank due _ _ (next_of s rank kept inside) (taken_more b o rank due) other waits.idle waits.active (kept.all rank inside)
      ]
      | inr served ↦ elim (step_cases b served.at) [
        | inl ref ↦ by_rank served (refresh served.at) refl (sym is ∙ ap (command_of s.pending) (served.is ∙ ref.is))
        | inr (inl pre) ↦ by_rank served (precharge_all served.at) refl (sym is ∙ ap (command_of s.pending) (served.is ∙ pre.is))
        | inr (inr waits) ↦ absurd (false≢true (sym (ap is_something waits.is) ∙ served.some))
      ]
    ]
  where
    by_rank : (served : OverdueServed (situation_of s) rank) (c : Command) → rank_of c ≡ served.at → o ≡ Some c →
        IsPromptBy (after o (bus_of s)) rank (due_at (bus_of s) rank) (taken_from rank (due_at (bus_of s) rank) (after o (bus_of s)).trace)
    by_rank served c of it =
        let b = bus_of s in
        let due = due_at b rank in
        let elsewhere : eqb (rank_of c) rank ≡ false = subst (IsElsewhere rank) it other in
        let not_it : (rank_of c ≡ rank → ⊥) = λ same. false≢true (sym elsewhere ∙ eq-eqb (rank_of c) rank same) in
        let before : rank_of c < rank = less (rank_of c) rank (let low = served.low in omega arith) not_it in
        let also = when_overdue s served.at (omega arith) kept.begun served.overdue in
        let few = taken_few s rank served.at kept inside (omega arith) late also in
        subst (λ p. IsPromptBy (after p b) rank due (taken_from rank due (after p b).trace)) (sym it)
        (subst (IsPromptBy (after (Some c) b) rank due) (sym (taken_one b c rank due before late)) (prompt_taken b (Some c) rank due (taken_from rank due s.trace) elsewhere few (kept.all rank inside)))

-- an overdue rank whose command it is, but for a REF
overdue_own : (s : State) (c : Command) (rank : ℕ) → command_of s.pending (choice_of s) ≡ Some c → IsKeptPrompt s → rank < s.config.geometry.ranks → due_at (bus_of s) rank ≤ s.now → rank_of c ≡ rank → is_refresh c ≡ false →
    IsPromptBy (after (Some c) (bus_of s)) rank (due_at (bus_of s) rank) (taken_from rank (due_at (bus_of s) rank) (after (Some c) (bus_of s)).trace)
overdue_own s c rank is kept inside late of no_refresh =
    let b = bus_of s in
    let due = due_at b rank in
    elim (overdue_command (situation_of s) (choice_of s) rank c (choice_lawful (situation_of s)) (overdue_when s rank inside late) is of) [
      | inl ref ↦
          let same : Some (refresh rank) ≡ Some c = sym (ap (command_of s.pending) ref) ∙ is in
          let it : refresh rank ≡ c = cc in
          absurd (false≢true (sym no_refresh ∙ sym (ap is_refresh it)))
      | inr pre ↦
          let same : Some (precharge_all rank) ≡ Some c = sym (ap (command_of s.pending) pre) ∙ is in
          let it : precharge_all rank ≡ c = cc in
          let legal : is_legal_now b (precharge_all rank) ≡ true = subst (λ d. is_legal_now b d ≡ true) (sym it) (legal_of s (Some c) is) in
          subst (λ d. IsPromptBy (after (Some d) b) rank due (taken_from rank due (after (Some d) b).trace)) it
          (prompt_precharge b rank due _ _ late (taken_more b (Some (precharge_all rank)) rank due) legal (precharged_active (situation_of s) rank pre) (kept.all rank inside))
    ]

-- in the next cycle all commands stand before it
behind_after : (b : Bus) (o : Option Command) → ((i : ℕ) (e : Entry) → slice_get b.trace i ≡ Some e → e.cycle < b.now) → (i : ℕ) (e : Entry) → slice_get (after o b).trace i ≡ Some e → e.cycle < (after o b).now
behind_after b None behind i e is = let it = behind i e is in omega arith
behind_after b (Some c) behind i e is = elim (pushed b.trace (entry b.now c) i e is) [
  | inl old ↦ let it = behind i e old.1 in omega arith
  | inr new ↦ let it : b.now ≡ e.cycle = ap (λ (a : Entry). a.cycle) new.1 in omega arith
]

fresh_after : (s : State) (o : Option Command) (rank : ℕ) → command_of s.pending (choice_of s) ≡ o → IsKeptPrompt s → rank < s.config.geometry.ranks → s.now + 1 ≤ due_at (after o (bus_of s)) rank → IsPrompt (after o (bus_of s)) rank
fresh_after s o rank is kept inside early =
    let b = bus_of s in
    prompt_fresh (after o b) rank (due_at (after o b) rank) _ early (behind_after b o (all_before s.config s.start s.now s.trace kept.legal)) (free_after b o rank (legal_of s o is) (kept.all rank inside).free)

-- with no REF of the rank
kept_other : (s : State) (o : Option Command) (rank : ℕ) → command_of s.pending (choice_of s) ≡ o → IsKeptPrompt s → rank < s.config.geometry.ranks → IsNoRefresh rank o →
    (due_at (bus_of s) rank ≤ s.now → IsPromptBy (after o (bus_of s)) rank (due_at (bus_of s) rank) (taken_from rank (due_at (bus_of s) rank) (after o (bus_of s)).trace)) → IsPrompt (after o (bus_of s)) rank
kept_other s o rank is kept inside none overdue =
    let b = bus_of s in
    let same = due_kept b o rank none in
    elim (cases_lt s.now (due_at b rank)) [
      | inl early ↦ fresh_after s o rank is kept inside (omega arith)
      | inr late ↦ subst (λ d. IsPromptBy (after o b) rank d (taken_from rank d (after o b).trace)) (sym same) (overdue late)
    ]

prompt_after : (s : State) (o : Option Command) (rank : ℕ) → command_of s.pending (choice_of s) ≡ o → IsKeptPrompt s → rank < s.config.geometry.ranks → IsPrompt (after o (bus_of s)) rank
prompt_after s None rank is kept inside = kept_other s None rank is kept inside tt (λ late. overdue_elsewhere s None rank is kept inside late tt)
prompt_after s (Some c) rank is kept inside = by_tests (eqb (rank_of c) rank) (is_refresh c) refl refl
  where
    by_tests : (of ref : Bool) → eqb (rank_of c) rank ≡ of → is_refresh c ≡ ref → IsPrompt (after (Some c) (bus_of s)) rank
    by_tests false ref other r =
        kept_other s (Some c) rank is kept inside (ap (λ w. is_refresh c && w) other ∙ off (is_refresh c)) (λ late. overdue_elsewhere s (Some c) rank is kept inside late other)
    by_tests true false of r = kept_other s (Some c) rank is kept inside (rw r refl) (λ late. overdue_own s c rank is kept inside late (eqb-true (rank_of c) rank of) r)
    by_tests true true of r =
        let b = bus_of s in
        let it : Refresh rank ≡ c = sym (refresh_is c r ∙ ap Refresh (eqb-true (rank_of c) rank of)) in
        let more : due_at (after (Some c) b) rank ≡ due_at b rank + s.config.timing.refi = sym (ap (λ d. due_at (after (Some d) b) rank) it) ∙ due_refreshed b rank in
        let long = not_long s rank kept inside in
        fresh_after s (Some c) rank is kept inside (omega arith)

-- a cycle keeps every rank prompt
pub prompt_cycle : (s : State) → IsKeptPrompt s → (rank : ℕ) → rank < s.config.geometry.ranks → IsPrompt (after (command_of s.pending (choice_of s)) (bus_of s)) rank
prompt_cycle s kept rank inside = prompt_after s (command_of s.pending (choice_of s)) rank refl kept inside
