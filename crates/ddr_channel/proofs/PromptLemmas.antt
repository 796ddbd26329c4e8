-- The invariant behind the bound on refreshes, cycle by cycle.
use Rattle.std.proofs.Common.{◌≡◌, ℕ, ◌+◌, ◌*◌, ◌/◌, ◌%◌, ◌<◌, ◌≤◌, Bool, true, false, ◌&&◌, eqb, ltb, leb, List, [], ◌∷◌, ◌++◌, length, Option, Some, None, refl, sym, ap, subst, ◌∙◌, ◌⊎◌, inl, inr, arith}
use Rattle.std.specs.List.{filter, range_with_len, slice_get}
use Rattle.std.specs.Option.{IfSome}
use Rattle.std.proofs.lemmas.Bool.Decides.{nat_tests}
use Rattle.std.proofs.lemmas.Bool.{and_parts, and_from, cases_Bool, cases_lt, eq-eqb, eqb-true, le-leb, true≢false, false≢true}
use Rattle.std.proofs.lemmas.List.{append-nil}
use Rattle.std.proofs.lemmas.List.Elements.{filter-append}
use Rattle.ddr_trace.specs.declared.command.Command.{Command}
use Rattle.ddr_trace.specs.declared.command.Command.TheVariants.{Pre, PreAll, Refresh}
use Rattle.ddr_trace.specs.declared.command.Entry.{Entry}
use Rattle.ddr_trace.specs.declared.rule.Rule.TheVariants as rule
use Rattle.ddr_trace.specs.Banks.{bank_behind, is_active}
use Rattle.ddr_trace.specs.Commands.{entry, is_precharge, is_refresh, rank_of}
use Rattle.ddr_trace.specs.Rules.{spacing_of}
use Rattle.ddr_legality.specs.Bus.{Bus, is_legal_now}
use Rattle.ddr_arbiter.specs.Choice.{some_bank_active}
use Rattle.ddr_arbiter.specs.Commands.{precharge_all, refresh}
use Rattle.ddr_arbiter.proofs.CommandLemmas.{legal_keeps}
use Rattle.ddr_channel.specs.Cycle.{with_command}
use Rattle.ddr_channel.specs.Refresh.{commands_from, overdue_from, recovery_time, refresh_time}
use Rattle.ddr_channel.proofs.BankTimeLemmas.{active_before, any_implies, any_none, auto_over, bank_before, bank_closed, bank_elsewhere, bank_refreshed}
use Rattle.ddr_channel.proofs.BusLemmas.{Each, IsNext, is_of, is_refresh_of, kept_far, precharge_legal, refresh_legal}
use Rattle.ddr_channel.proofs.PlaceLemmas.{none_passes, passes_none, passes_one, pushed}

-- the bus after a cycle that issues the command, if there is one
abbrev pub after : Option Command → Bus → Bus
after o b = record b { now = b.now + 1; trace = with_command b.now o b.trace }

-- a command of a rank that is tried before this one, from a cycle on
abbrev pub is_before_from : ℕ → ℕ → Entry → Bool
is_before_from rank cycle e = ltb (rank_of e.command) rank && leb cycle e.cycle

-- how many cycles since then such ranks took
abbrev pub taken_from : ℕ → ℕ → List Entry → ℕ
taken_from rank cycle trace = length (filter (is_before_from rank cycle) trace)

-- the cycle lies before the last one, put off by the cycles that were taken, of which two count
abbrev pub IsBy : ℕ → ℕ → ℕ → Type 0
IsBy cycle last taken = (cycle + 1 ≤ last + taken) × (cycle + 1 ≤ last + 2)

-- since the rank is overdue it had one PREA
pub record IsClosed (b : Bus) (rank due taken : ℕ) : Type 0 where
  pub cycle : ℕ
  pub from : due ≤ cycle
  pub only : commands_from rank due b.trace ≡ entry cycle (PreAll rank) ∷ []
  pub by : IsBy cycle (due + recovery_time b.config.timing) taken
  pub banks : (group bank : ℕ) → bank_behind (Pre rank group bank) b.trace ≡ None
  pub free : Each (is_refresh_of rank) (λ e. e.cycle + b.config.timing.rfc ≤ cycle) b.trace

-- The rank, which is overdue from a cycle on, isn't late, where ranks that are tried before it took so many cycles.
pub record IsPromptBy (b : Bus) (rank due taken : ℕ) : Type 0 where
  pub phase : (commands_from rank due b.trace ≡ []) ⊎ IsClosed b rank due taken
  pub by : IsBy b.now (due + refresh_time b.config.timing) taken
  pub active : some_bank_active b rank ≡ true → IsBy b.now (due + recovery_time b.config.timing) taken
  -- an active bank was opened after all REFs
  pub free : some_bank_active b rank ≡ true → Each (is_refresh_of rank) (λ e. e.cycle + b.config.timing.rfc ≤ b.now) b.trace

abbrev pub due_at : Bus → ℕ → ℕ
due_at b rank = overdue_from b.config b.start rank b.trace

abbrev pub IsPrompt : Bus → ℕ → Type 0
IsPrompt b rank = IsPromptBy b rank (due_at b rank) (taken_from rank (due_at b rank) b.trace)

-- entries of a trace that grew

each_more : (test : Entry → Bool) (P : Entry → Type 0) (trace : List Entry) (x : Entry) → Each test P trace → (test x ≡ true → P x) → Each test P (trace ++ x ∷ [])
each_more test P trace x all last i e is passes = elim (pushed trace x i e is) [
  | inl old ↦ all i e old.1 passes
  | inr new ↦ subst P new.1 (last (ap test new.1 ∙ passes))
]

each_later : (test : Entry → Bool) (n m k : ℕ) (trace : List Entry) → m ≤ k → Each test (λ e. e.cycle + n ≤ m) trace → Each test (λ e. e.cycle + n ≤ k) trace
each_later test n m k trace later all i e is passes = let it = all i e is passes in omega arith

filter_out : (test : Entry → Bool) (trace : List Entry) (x : Entry) → test x ≡ false → filter test (trace ++ x ∷ []) ≡ filter test trace
filter_out test trace x out = filter-append test trace (x ∷ []) ∙ rw out (append-nil (filter test trace))

filter_in : (test : Entry → Bool) (trace : List Entry) (x : Entry) → test x ≡ true → filter test (trace ++ x ∷ []) ≡ filter test trace ++ x ∷ []
filter_in test trace x kept = filter-append test trace (x ∷ []) ∙ rw kept refl

-- a command that is a REF is its rank's
pub refresh_is : (c : Command) → is_refresh c ≡ true → c ≡ Refresh (rank_of c)
refresh_is (Refresh rank) is = refl
refresh_is _ is = cc

-- banks

-- a rank whose banks are closed has none that is active
closed_idle : (b : Bus) (rank : ℕ) → ((group bank : ℕ) → bank_behind (Pre rank group bank) b.trace ≡ None) → some_bank_active b rank ≡ false
closed_idle b rank banks = any_none _ (range_with_len 0 (b.config.geometry.groups * 4)) (λ n. rw (banks (n / 4) (n % 4)) refl)

-- a rank whose banks were left alone had one active before
still_active : (b : Bus) (o : Option Command) (rank : ℕ) → ((group bank : ℕ) → bank_behind (Pre rank group bank) (after o b).trace ≡ bank_behind (Pre rank group bank) b.trace) →
    some_bank_active (after o b) rank ≡ true → some_bank_active b rank ≡ true
still_active b o rank banks active =
    any_implies _ _ (range_with_len 0 (b.config.geometry.groups * 4)) (λ n is. active_before b.config.timing b.now (bank_behind (Pre rank (n / 4) (n % 4)) b.trace) (sym (ap (is_active b.config.timing (b.now + 1)) (banks (n / 4) (n % 4))) ∙ is)) active

-- the command is of another rank, if there is one
abbrev pub IsElsewhere : ℕ → Option Command → Type 0
IsElsewhere rank o = IfSome o (λ c. eqb (rank_of c) rank ≡ false)

banks_elsewhere : (b : Bus) (o : Option Command) (rank : ℕ) → IsElsewhere rank o → (group bank : ℕ) → bank_behind (Pre rank group bank) (after o b).trace ≡ bank_behind (Pre rank group bank) b.trace
banks_elsewhere b None rank other group bank = refl
banks_elsewhere b (Some c) rank other group bank = bank_elsewhere rank group bank b.trace (entry b.now c) other

each_elsewhere : (b : Bus) (o : Option Command) (rank : ℕ) (P : Entry → Type 0) → IsElsewhere rank o → Each (is_refresh_of rank) P b.trace → Each (is_refresh_of rank) P (after o b).trace
each_elsewhere b None rank P other all = all
each_elsewhere b (Some c) rank P other all = each_more (is_refresh_of rank) P b.trace (entry b.now c) all (λ is. absurd (false≢true (sym other ∙ (and_parts (is_refresh c) (eqb (rank_of c) rank) is).1)))

-- a legal REF finds no active bank
refresh_idle : (b : Bus) (rank : ℕ) → is_legal_now b (Refresh rank) ≡ true → some_bank_active b rank ≡ false
refresh_idle b rank legal = legal_keeps b (Refresh rank) legal rule.State refl

-- and a legal command finds the REFs before it over
refreshes_over : (b : Bus) (c : Command) → is_legal_now b c ≡ true → Each (is_refresh_of (rank_of c)) (λ e. e.cycle + b.config.timing.rfc ≤ b.now) b.trace
refreshes_over b c legal i e is of =
    let parts = and_parts (is_refresh e.command) (eqb (rank_of e.command) (rank_of c)) of in
    kept_far (spacing_of b.config.timing rule.Rfc) b.trace (entry b.now c) (legal_keeps b c legal rule.Rfc refl) refl i e is parts.0 parts.1

-- the last REF is over while a bank is active

free_of : (b : Bus) (rank : ℕ) (c : Command) → is_legal_now b c ≡ true → rank_of c ≡ rank → (ref : Bool) → is_refresh c ≡ ref →
    some_bank_active (after (Some c) b) rank ≡ true → Each (is_refresh_of rank) (λ e. e.cycle + b.config.timing.rfc ≤ b.now + 1) (b.trace ++ entry b.now c ∷ [])
free_of b rank c legal of true ref active =
    let it : c ≡ Refresh rank = refresh_is c ref ∙ ap Refresh of in
    let same : some_bank_active (after (Some (Refresh rank)) b) rank ≡ true = subst (λ (d : Command). some_bank_active (after (Some d) b) rank ≡ true) it active in
    let was = still_active b (Some (Refresh rank)) rank (λ group bank. bank_refreshed rank group bank b.now b.trace) same in
    absurd (false≢true (sym (refresh_idle b rank (subst (λ (d : Command). is_legal_now b d ≡ true) it legal)) ∙ was))
free_of b rank c legal of false ref active =
    each_more (is_refresh_of rank) (λ e. e.cycle + b.config.timing.rfc ≤ b.now + 1) b.trace (entry b.now c)
    (each_later (is_refresh_of rank) b.config.timing.rfc b.now (b.now + 1) b.trace (omega arith) (subst (λ k. Each (is_refresh_of k) (λ e. e.cycle + b.config.timing.rfc ≤ b.now) b.trace) of (refreshes_over b c legal)))
    (λ is. absurd (false≢true (sym ref ∙ (and_parts (is_refresh c) (eqb (rank_of c) rank) is).0)))

abbrev pub IsFree : Bus → ℕ → Type 0
IsFree b rank = some_bank_active b rank ≡ true → Each (is_refresh_of rank) (λ e. e.cycle + b.config.timing.rfc ≤ b.now) b.trace

free_elsewhere : (b : Bus) (o : Option Command) (rank : ℕ) → IsElsewhere rank o → IsFree b rank → IsFree (after o b) rank
free_elsewhere b o rank other free active =
    each_elsewhere b o rank (λ e. e.cycle + b.config.timing.rfc ≤ b.now + 1) other
    (each_later (is_refresh_of rank) b.config.timing.rfc b.now (b.now + 1) b.trace (omega arith) (free (still_active b o rank (banks_elsewhere b o rank other) active)))

-- the command is legal, if there is one
abbrev pub IsLegalNow : Bus → Option Command → Type 0
IsLegalNow b o = IfSome o (λ c. is_legal_now b c ≡ true)

pub free_after : (b : Bus) (o : Option Command) (rank : ℕ) → IsLegalNow b o → IsFree b rank → IsFree (after o b) rank
free_after b None rank legal free = free_elsewhere b None rank tt free
free_after b (Some c) rank legal free = elim (cases_Bool (eqb (rank_of c) rank)) [
  | inl of ↦ free_of b rank c legal (eqb-true (rank_of c) rank of) (is_refresh c) refl
  | inr other ↦ free_elsewhere b (Some c) rank other free
]

-- commands of the rank from a cycle on

not_from : (due cycle : ℕ) → cycle < due → leb due cycle ≡ false
not_from due cycle before = grind (arith, nat_tests)

from_not : (due cycle : ℕ) → leb due cycle ≡ false → cycle < due
from_not due cycle not_yet = grind (arith, nat_tests)

and_off : (x y : Bool) → y ≡ false → (x && y) ≡ false
and_off true y off = off
and_off false y off = refl

none_from : (rank due : ℕ) (trace : List Entry) → ((i : ℕ) (e : Entry) → slice_get trace i ≡ Some e → e.cycle < due) → commands_from rank due trace ≡ []
none_from rank due trace before = none_passes (λ e. eqb (rank_of e.command) rank && leb due e.cycle) trace (λ i e is. and_off (eqb (rank_of e.command) rank) (leb due e.cycle) (not_from due e.cycle (before i e is)))

quiet : (rank due : ℕ) (trace : List Entry) → commands_from rank due trace ≡ [] → Each (is_of rank) (λ e. e.cycle < due) trace
quiet rank due trace none i e is of =
    let out : (eqb (rank_of e.command) rank && leb due e.cycle) ≡ false = passes_none (λ a. eqb (rank_of a.command) rank && leb due a.cycle) trace i e none is in
    from_not due e.cycle (rw of at out)

-- or none but the one PREA
all_by : (rank due cycle : ℕ) (trace : List Entry) → due ≤ cycle → commands_from rank due trace ≡ entry cycle (PreAll rank) ∷ [] → Each (is_of rank) (λ e. e.cycle ≤ cycle) trace
all_by rank due cycle trace late only i e is of = elim (cases_Bool (leb due e.cycle)) [
  | inr before ↦ let early = from_not due e.cycle before in omega arith
  | inl from ↦
      let it = passes_one (λ a. eqb (rank_of a.command) rank && leb due a.cycle) trace i e (entry cycle (PreAll rank)) only is (and_from _ _ of from) in
      let same : e.cycle ≡ cycle = ap (λ (a : Entry). a.cycle) it in
      omega arith
]

own_elsewhere : (b : Bus) (o : Option Command) (rank due : ℕ) → IsElsewhere rank o → commands_from rank due (after o b).trace ≡ commands_from rank due b.trace
own_elsewhere b None rank due other = refl
own_elsewhere b (Some c) rank due other = filter_out (λ e. eqb (rank_of e.command) rank && leb due e.cycle) b.trace (entry b.now c) (rw other refl)

-- the first cycle in which a rank may be overdue, and those before it
pub prompt_fresh : (b : Bus) (rank due taken : ℕ) → b.now ≤ due → ((i : ℕ) (e : Entry) → slice_get b.trace i ≡ Some e → e.cycle < b.now) → IsFree b rank → IsPromptBy b rank due taken
prompt_fresh b rank due taken early behind free =
    let t = b.config.timing in record {
      phase = inl (none_from rank due b.trace (λ i e is. omega (arith, behind i e is, early)));
      by = (omega arith, omega arith);
      active = λ active. (omega arith, omega arith);
      free = free;
    }

-- PREA of an overdue rank
pub prompt_precharge : (b : Bus) (rank due taken more : ℕ) → due ≤ b.now → taken ≤ more → is_legal_now b (PreAll rank) ≡ true → some_bank_active b rank ≡ true → IsPromptBy b rank due taken → IsPromptBy (after (Some (PreAll rank)) b) rank due more
prompt_precharge b rank due taken more late grown legal active p =
    let t = b.config.timing in
    let e = entry b.now (PreAll rank) in
    let same : eqb rank rank ≡ true = eq-eqb rank rank refl in
    let from : leb due b.now ≡ true = le-leb due b.now late in
    let early = p.active active in
    let closed : (group bank : ℕ) → bank_behind (Pre rank group bank) (b.trace ++ e ∷ []) ≡ None = λ group bank. bank_closed rank group bank b.now b.trace in
    let idle : some_bank_active (after (Some (PreAll rank)) b) rank ≡ false = closed_idle (after (Some (PreAll rank)) b) rank closed in
    record {
      phase = inr (record {
        cycle = b.now;
        from = late;
        only = filter_in (λ a. eqb (rank_of a.command) rank && leb due a.cycle) b.trace e (rw (same, from) refl) ∙ ap (λ (es : List Entry). es ++ e ∷ []) (none_yet p.phase);
        by = (omega (arith, early.0), omega (arith, early.1));
        banks = closed;
        free = each_more (is_refresh_of rank) (λ a. a.cycle + t.rfc ≤ b.now) b.trace e (refreshes_over b (PreAll rank) legal) (λ is. absurd (false≢true is));
      });
      by = (omega (arith, early.0), omega (arith, early.1));
      active = λ is. absurd (false≢true (sym idle ∙ is));
      free = λ is. absurd (false≢true (sym idle ∙ is));
    }
  where
    none_yet : (commands_from rank due b.trace ≡ []) ⊎ IsClosed b rank due taken → commands_from rank due b.trace ≡ []
    none_yet (inl none) = none
    none_yet (inr closed) = absurd (false≢true (sym (closed_idle b rank closed.banks) ∙ active))

phase_elsewhere : (b : Bus) (o : Option Command) (rank due taken more : ℕ) → taken ≤ more → IsElsewhere rank o → (commands_from rank due b.trace ≡ []) ⊎ IsClosed b rank due taken → (commands_from rank due (after o b).trace ≡ []) ⊎ IsClosed (after o b) rank due more
phase_elsewhere b o rank due taken more grown other (inl none) = inl (own_elsewhere b o rank due other ∙ none)
phase_elsewhere b o rank due taken more grown other (inr closed) = inr (record {
  cycle = closed.cycle;
  from = closed.from;
  only = own_elsewhere b o rank due other ∙ closed.only;
  by = (let it = closed.by.0 in omega arith, closed.by.1);
  banks = λ group bank. banks_elsewhere b o rank other group bank ∙ closed.banks group bank;
  free = each_elsewhere b o rank (λ e. e.cycle + b.config.timing.rfc ≤ closed.cycle) other closed.free;
})

-- a cycle that a rank tried before takes
pub prompt_taken : (b : Bus) (o : Option Command) (rank due taken : ℕ) → IsElsewhere rank o → taken ≤ 1 → IsPromptBy b rank due taken → IsPromptBy (after o b) rank due (taken + 1)
prompt_taken b o rank due taken other few p = record {
  phase = phase_elsewhere b o rank due taken (taken + 1) (omega arith) other p.phase;
  by = let it = p.by.0 in (omega arith, omega arith);
  active = λ is. let it = (p.active (still_active b o rank (banks_elsewhere b o rank other) is)).0 in (omega arith, omega arith);
  free = free_elsewhere b o rank other p.free;
}

-- a cycle in which neither REF nor PREA is legal

-- an active bank waits no longer than its commands ask
active_waits : (b : Bus) (rank due taken : ℕ) → IsNext b rank → IsPromptBy b rank due taken → some_bank_active b rank ≡ true → is_legal_now b (precharge_all rank) ≡ false → b.now + 1 < due + recovery_time b.config.timing
active_waits b rank due taken next p active illegal = elim (cases_lt (b.now + 1) (due + recovery_time b.config.timing)) [
  | inl before ↦ before
  | inr late ↦ absurd (true≢false (sym (precharge_legal b rank next (rested late p.phase) (p.free active)) ∙ illegal))
]
  where
    rested : due + recovery_time b.config.timing ≤ b.now + 1 → (commands_from rank due b.trace ≡ []) ⊎ IsClosed b rank due taken → Each (is_of rank) (λ e. e.cycle + recovery_time b.config.timing ≤ b.now) b.trace
    rested late (inl none) i e is of = let early = quiet rank due b.trace none i e is of in omega arith
    rested late (inr closed) i e is of = absurd (false≢true (sym (closed_idle b rank closed.banks) ∙ active))

-- a rank with idle banks waits no longer than their commands and the REF before ask
idle_waits : (b : Bus) (rank due taken : ℕ) → IsNext b rank → (commands_from rank due b.trace ≡ []) ⊎ IsClosed b rank due taken → some_bank_active b rank ≡ false → is_legal_now b (refresh rank) ≡ false → IsBy (b.now + 1) (due + refresh_time b.config.timing) taken
idle_waits b rank due taken next (inl none) idle illegal = elim (cases_lt (b.now + 1) (due + refresh_time b.config.timing)) [
  | inl before ↦ (omega arith, omega arith)
  | inr late ↦
      let t = b.config.timing in
      let early = quiet rank due b.trace none in
      let closed : Each (λ e. is_precharge e.command && is_of rank e) (λ e. e.cycle + t.rp ≤ b.now) b.trace = λ i e is passes. let it = early i e is (and_parts _ _ passes).1 in omega arith in
      let started = any_none _ (range_with_len 0 (b.config.geometry.groups * 4)) (λ n. auto_over t due b.now (bank_behind (Pre rank (n / 4) (n % 4)) b.trace) (bank_before rank (n / 4) (n % 4) due b.trace early) (omega arith)) in
      let free : Each (is_refresh_of rank) (λ e. e.cycle + t.rfc ≤ b.now) b.trace = λ i e is passes. let it = early i e is (and_parts _ _ passes).1 in omega arith in
      absurd (true≢false (sym (refresh_legal b rank next idle closed started free) ∙ illegal))
]
idle_waits b rank due taken next (inr c) idle illegal = elim (cases_lt b.now (c.cycle + b.config.timing.rp)) [
  | inl before ↦ let first = c.by.0 in let second = c.by.1 in (omega arith, omega arith)
  | inr late ↦
      let t = b.config.timing in
      let early = all_by rank due c.cycle b.trace c.from c.only in
      let closed : Each (λ e. is_precharge e.command && is_of rank e) (λ e. e.cycle + t.rp ≤ b.now) b.trace = λ i e is passes. let it = early i e is (and_parts _ _ passes).1 in omega arith in
      let started = any_none _ (range_with_len 0 (b.config.geometry.groups * 4)) (λ n. rw (c.banks (n / 4) (n % 4)) refl) in
      let free : Each (is_refresh_of rank) (λ e. e.cycle + t.rfc ≤ b.now) b.trace = λ i e is passes. let it = c.free i e is passes in omega arith in
      absurd (true≢false (sym (refresh_legal b rank next idle closed started free) ∙ illegal))
]

pub prompt_waits : (b : Bus) (o : Option Command) (rank due taken more : ℕ) → IsNext b rank → taken ≤ more → IsElsewhere rank o → (some_bank_active b rank ≡ false → is_legal_now b (refresh rank) ≡ false) → (some_bank_active b rank ≡ true → is_legal_now b (precharge_all rank) ≡ false) →
    IsPromptBy b rank due taken → IsPromptBy (after o b) rank due more
prompt_waits b o rank due taken more next grown other no_refresh no_precharge p =
    let t = b.config.timing in record {
      phase = phase_elsewhere b o rank due taken more grown other p.phase;
      by = elim (cases_Bool (some_bank_active b rank)) [
        | inl active ↦ let it = active_waits b rank due taken next p active (no_precharge active) in (omega arith, omega arith)
        | inr idle ↦ let it = idle_waits b rank due taken next p.phase idle (no_refresh idle) in let first = it.0 in let second = it.1 in (omega arith, omega arith)
      ];
      active = λ is.
          let was = still_active b o rank (banks_elsewhere b o rank other) is in
          let it = active_waits b rank due taken next p was (no_precharge was) in
          (omega arith, omega arith);
      free = free_elsewhere b o rank other p.free;
    }
