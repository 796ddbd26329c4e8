-- Each call keeps every refresh in time, and the trace refreshed.
use Rattle.std.proofs.Common.{◌≡◌, ℕ, ◌+◌, ◌-◌, ◌*◌, ◌/◌, ◌<◌, ◌≤◌, Bool, true, false, ◌&&◌, ◌||◌, cond, eqb, ltb, List, [], ◌∷◌, ◌++◌, length, take, Option, Some, None, refl, sym, ap, subst, ◌∙◌, ◌⊎◌, inl, inr, arith}
use Rattle.std.specs.List.{fold, range_with_len, slice_get}
use Rattle.std.specs.Option.{IfSome, option_map, option_map_or}
use Rattle.std.proofs.Math.Nat.{add-mul, le-div_iff_mul-le, mul-le-mul_right}
use Rattle.std.proofs.lemmas.Bool.{and_parts, cases_lt, eqb-true, le-ltb, ltb-true, not-false, true≢false, false≢true}
use Rattle.std.proofs.lemmas.List.{take-append-le, take_at}
use Rattle.ddr_timing.specs.declared.config.Config.{Config}
use Rattle.ddr_timing.specs.declared.timing.Timing.{Timing}
use Rattle.ddr_timing.specs.declared.units.TheConstants.{CLOCK_STOP}
use Rattle.ddr_trace.specs.declared.command.Command.{Command}
use Rattle.ddr_trace.specs.declared.command.Command.TheVariants.{Refresh}
use Rattle.ddr_trace.specs.declared.command.Entry.{Entry}
use Rattle.ddr_trace.specs.declared.rule.Rule.{Rule}
use Rattle.ddr_trace.specs.declared.rule.Rule.TheVariants as rule
use Rattle.ddr_trace.specs.Banks.{bank_behind}
use Rattle.ddr_trace.specs.Commands.{entry, is_refresh, rank_of}
use Rattle.ddr_trace.specs.Legality.{IsLegal, IsRefreshed, breaks_at_end, breaks_where}
use Rattle.ddr_trace.specs.Rules.{breaks, breaks_ref_gap, breaks_ref_late, ends_late, is_on_commands, refresh_count}
use Rattle.ddr_trace.proofs.WindowLemmas.{gap_here, gap_skip, no_ref_gap}
use Rattle.ddr_address_map.specs.declared.place.Place.{Place}
use Rattle.ddr_address_map.specs.declared.request.Kind.{Kind}
use Rattle.ddr_address_map.specs.declared.request.Kind.TheVariants.{Read, Write}
use Rattle.ddr_legality.specs.Bus.{Bus, is_legal_now}
use Rattle.ddr_legality.specs.Refreshes.{breaks_gap}
use Rattle.ddr_legality.proofs.RefreshLemmas.{ends_told, is_late}
use Rattle.ddr_hazards.specs.declared.waiting.Waiting.{Waiting}
use Rattle.ddr_refresh.specs.Refreshes.{debt_of}
use Rattle.ddr_arbiter.specs.declared.choice.Choice.{Choice}
use Rattle.ddr_arbiter.specs.declared.choice.Choice.TheVariants as choice
use Rattle.ddr_arbiter.specs.Choice.{some_bank_active}
use Rattle.ddr_arbiter.specs.Commands.{activate_at, column_at, column_of, precharge_all, precharge_at, refresh}
use Rattle.ddr_arbiter.specs.Laws.{IsLawful, command_of, owed}
use Rattle.ddr_arbiter.proofs.CommandLemmas.{legal_keeps}
use Rattle.ddr_arbiter.proofs.LawLemmas.{choice_lawful}
use Rattle.ddr_channel.specs.Choice.{bus_of, choice_of, situation_of}
use Rattle.ddr_channel.specs.Cycle.{at_choice, after_cycle, recorded, ticked}
use Rattle.ddr_channel.specs.History.{Call, Admit, Cycle, Pop, History, begun, with_owner, after_call, run}
use Rattle.ddr_channel.specs.Kept.{Kept, state_of}
use Rattle.ddr_channel.specs.Promise.{AreCalls, StandsFor}
use Rattle.ddr_channel.specs.Sound.{IsSound}
use Rattle.ddr_channel.specs.State.{State, after_admit, is_queue_full, opened}
use Rattle.ddr_channel.proofs.HistoryLemmas.{IsKept, kept_begun, kept_call, kept_run, served_alike}
use Rattle.ddr_channel.specs.Refresh.{HasNoFault, IsAtMostPrecharge, IsNotLate, KeepsRefreshes, commands_from, recovery_time}
use Rattle.ddr_channel.proofs.BankTimeLemmas.{any_none}
use Rattle.ddr_channel.proofs.ForcedLemmas.{debt_ticked, refreshes_at}
use Rattle.ddr_channel.proofs.PlaceLemmas.{pushed}
use Rattle.ddr_channel.proofs.PromptLemmas.{IsClosed, IsPrompt, after, due_at, prompt_fresh, refresh_is, taken_from}
use Rattle.ddr_channel.proofs.RefreshLemmas.{IsKeptPrompt, count_other, count_refreshed, prompt_cycle}

-- what the invariant says of the REF that comes next
pub not_late : (b : Bus) (rank : ℕ) → IsPrompt b rank → IsNotLate b.config b.start b.now rank b.trace
not_late b rank p = record {
  precharge = by_phase p.phase;
  refresh = let it = p.by.1 in omega arith;
}
  where
    by_phase : (commands_from rank (due_at b rank) b.trace ≡ []) ⊎ IsClosed b rank (due_at b rank) (taken_from rank (due_at b rank) b.trace) → IsAtMostPrecharge rank (due_at b rank + recovery_time b.config.timing + 1) (commands_from rank (due_at b rank) b.trace)
    by_phase (inl none) = subst (IsAtMostPrecharge rank (due_at b rank + recovery_time b.config.timing + 1)) (sym none) tt
    by_phase (inr closed) = subst (IsAtMostPrecharge rank (due_at b rank + recovery_time b.config.timing + 1)) (sym closed.only) (refl, (let it = closed.by.1 in omega arith))

-- the next REF is due within nine intervals of the one that was due last

nine_times : (n refi : ℕ) → (n + 9) * refi ≡ n * refi + 9 * refi
nine_times n refi = add-mul n 9 refi

within_nine : (n postpone refi : ℕ) → postpone ≤ 7 → (n + postpone + 1) * refi + refi ≤ n * refi + 9 * refi
within_nine n postpone refi few =
    let most = mul-le-mul_right {m = n + postpone + 1 + 1} {n = n + 9} refi (omega arith) in
    let first = add-mul (n + postpone + 1) 1 refi in
    let second = nine_times n refi in
    omega arith

-- so far as it hasn't come, no cycle is later
pub next_within : (b : Bus) (rank : ℕ) → IsPrompt b rank → b.now < b.start + (refresh_count b.trace (refresh rank) * b.config.timing.refi + 9 * b.config.timing.refi)
next_within b rank p =
    let it = p.by.1 in
    let most = within_nine (refresh_count b.trace (refresh rank)) b.config.timing.postpone b.config.timing.refi b.config.timing.postpone_range in
    omega arith

-- the last REF of a rank in a trace tells REF_GAP of the next one, and it came no sooner than it was due
record IsPaid (c : Config) (start rank : ℕ) (trace : List Entry) : Type 0 where
  last : Option ℕ
  gap : (e : Entry) → rank_of e.command ≡ rank → breaks_ref_gap c.timing trace e ≡ (is_refresh e.command && breaks_gap c.timing last e.cycle)
  paid : IfSome last (λ cycle. start + refresh_count trace (refresh rank) * c.timing.refi ≤ cycle)

-- each entry keeps the two rules on refresh
abbrev AreTimely : Config → ℕ → List Entry → Type 0
AreTimely c start trace = (place : ℕ) (e : Entry) → slice_get trace place ≡ Some e → (breaks_ref_late c.timing start (take place trace) e ≡ false) × (breaks_ref_gap c.timing (take place trace) e ≡ false)

record IsInTime (b : Bus) : Type 0 where
  all : (rank : ℕ) → rank < b.config.geometry.ranks → IsPrompt b rank
  each : (rank : ℕ) → rank < b.config.geometry.ranks → (place : ℕ) (e : Entry) → slice_get b.trace place ≡ Some e → e.command ≡ refresh rank → IsNotLate b.config b.start e.cycle rank (take place b.trace)
  timely : AreTimely b.config b.start b.trace
  paid : (rank : ℕ) → rank < b.config.geometry.ranks → IsPaid b.config b.start rank b.trace

-- a REF that is chosen is due

no_refresh : (f : Waiting → Command) (o : Option Waiting) (c : Command) → ((w : Waiting) → is_refresh (f w) ≡ false) → option_map f o ≡ Some c → is_refresh c ≡ true → ⊥
no_refresh f None c none is ref = cc
no_refresh f (Some w) c none is ref = let it : f w ≡ c = cc in false≢true (sym (none w) ∙ ap is_refresh it ∙ ref)

column_no_refresh : (auto : Bool) (kind : Kind) (p : Place) → is_refresh (column_at auto kind p) ≡ false
column_no_refresh false Read p = refl
column_no_refresh false Write p = refl
column_no_refresh true Read p = refl
column_no_refresh true Write p = refl

refresh_owed : (s : State) (ch : Choice) (c : Command) → IsLawful (situation_of s) ch → command_of s.pending ch ≡ Some c → is_refresh c ≡ true → 1 ≤ owed (situation_of s) (rank_of c)
refresh_owed s choice.Nothing c law is ref = cc
refresh_owed s (choice.Refresh rank) c law is ref = let it : refresh rank ≡ c = cc in subst (λ k. 1 ≤ owed (situation_of s) k) (ap rank_of it) law.due
refresh_owed s (choice.PreAll rank) c law is ref = let it : precharge_all rank ≡ c = cc in absurd (false≢true (ap is_refresh it ∙ ref))
refresh_owed s (choice.Act place) c law is ref = absurd (no_refresh (λ w. activate_at w.request.place) (slice_get s.pending place) c (λ w. refl) is ref)
refresh_owed s (choice.Pre place) c law is ref = absurd (no_refresh (λ w. precharge_at w.request.place) (slice_get s.pending place) c (λ w. refl) is ref)
refresh_owed s (choice.Column place) c law is ref = absurd (no_refresh (λ w. column_of false w.request) (slice_get s.pending place) c (λ w. column_no_refresh false w.request.echo.kind w.request.place) is ref)
refresh_owed s (choice.ColumnAuto place) c law is ref = absurd (no_refresh (λ w. column_of true w.request) (slice_get s.pending place) c (λ w. column_no_refresh true w.request.echo.kind w.request.place) is ref)

refresh_due : (s : State) (c : Command) (rank : ℕ) → s.start ≤ s.now → rank < s.config.geometry.ranks → command_of s.pending (choice_of s) ≡ Some c → is_refresh c ≡ true → rank_of c ≡ rank →
    s.start + (refresh_count s.trace (refresh rank) + 1) * s.config.timing.refi ≤ s.now
refresh_due s c rank begun inside is ref of =
    let n = refresh_count s.trace (refresh rank) in
    let refi = s.config.timing.refi in
    let some = subst (λ k. 1 ≤ owed (situation_of s) k) of (refresh_owed s (choice_of s) c (choice_lawful (situation_of s)) is ref) in
    let debt : owed (situation_of s) rank ≡ (s.now - s.start) / refi - n = ap (λ o. option_map_or debt_of o 0) (refreshes_at s rank inside) ∙ debt_ticked s rank in
    let many : n + 1 ≤ (s.now - s.start) / refi = omega (arith, some, debt) in
    let all = (le-div_iff_mul-le {k = refi} {x = n + 1} {y = s.now - s.start} (omega arith)).0 many in
    omega arith

-- a cycle that issues a command

each_after : (b : Bus) (c : Command) (rank : ℕ) → rank < b.config.geometry.ranks → IsInTime b → (place : ℕ) (e : Entry) → slice_get (b.trace ++ entry b.now c ∷ []) place ≡ Some e → e.command ≡ refresh rank →
    IsNotLate b.config b.start e.cycle rank (take place (b.trace ++ entry b.now c ∷ []))
each_after b c rank inside t place e is ref = elim (pushed b.trace (entry b.now c) place e is) [
  | inl old ↦ subst (IsNotLate b.config b.start e.cycle rank) (sym (take-append-le place b.trace (entry b.now c ∷ []) (let it = old.0 in omega arith))) (t.each rank inside place e old.1 ref)
  | inr new ↦
      subst (IsNotLate b.config b.start e.cycle rank) (sym (take_at b.trace (entry b.now c ∷ []) place (sym new.0)))
      (subst (λ n. IsNotLate b.config b.start n rank b.trace) (ap (λ (a : Entry). a.cycle) new.1) (not_late b rank (t.all rank inside)))
]

-- a legal command is of a rank that is there
inside_of : (b : Bus) (rank : ℕ) → is_legal_now b (Refresh rank) ≡ true → rank < b.config.geometry.ranks
inside_of b rank legal = ltb-true rank b.config.geometry.ranks (not-false _ (legal_keeps b (Refresh rank) legal rule.Place refl))

-- a REF keeps both rules
refresh_timely : (b : Bus) (rank : ℕ) → rank < b.config.geometry.ranks → IsInTime b → (breaks_ref_late b.config.timing b.start b.trace (entry b.now (Refresh rank)) ≡ false) × (breaks_ref_gap b.config.timing b.trace (entry b.now (Refresh rank)) ≡ false)
refresh_timely b rank inside t =
    let n = refresh_count b.trace (refresh rank) in
    let refi = b.config.timing.refi in
    let within = next_within b rank (t.all rank inside) in
    let paid = t.paid rank inside in
    let late : (n + 1 + 8) * refi ≡ n * refi + 9 * refi = let same : n + 1 + 8 ≡ n + 9 = omega arith in ap (λ k. k * refi) same ∙ nine_times n refi in
    (le-ltb (b.start + (n + 1 + 8) * refi) b.now (omega arith), paid.gap (entry b.now (Refresh rank)) refl ∙ by_last paid.last paid.paid within)
  where
    by_last : (last : Option ℕ) → IfSome last (λ cycle. b.start + refresh_count b.trace (refresh rank) * b.config.timing.refi ≤ cycle) →
        b.now < b.start + (refresh_count b.trace (refresh rank) * b.config.timing.refi + 9 * b.config.timing.refi) → (true && breaks_gap b.config.timing last b.now) ≡ false
    by_last None paid within = refl
    by_last (Some cycle) paid within = le-ltb (cycle + 9 * b.config.timing.refi) b.now (omega arith)

command_timely : (b : Bus) (c : Command) → is_legal_now b c ≡ true → IsInTime b → (breaks_ref_late b.config.timing b.start b.trace (entry b.now c) ≡ false) × (breaks_ref_gap b.config.timing b.trace (entry b.now c) ≡ false)
command_timely b c legal t = by_test (is_refresh c) refl
  where
    by_test : (w : Bool) → is_refresh c ≡ w → (breaks_ref_late b.config.timing b.start b.trace (entry b.now c) ≡ false) × (breaks_ref_gap b.config.timing b.trace (entry b.now c) ≡ false)
    by_test false is = (rw is refl, sym (no_ref_gap b.config.timing b.trace (entry b.now c) (sym is)))
    by_test true is =
        let it : c ≡ Refresh (rank_of c) = refresh_is c is in
        let inside = inside_of b (rank_of c) (subst (λ d. is_legal_now b d ≡ true) it legal) in
        subst (λ d. (breaks_ref_late b.config.timing b.start b.trace (entry b.now d) ≡ false) × (breaks_ref_gap b.config.timing b.trace (entry b.now d) ≡ false)) (sym it) (refresh_timely b (rank_of c) inside t)

timely_after : (b : Bus) (c : Command) → is_legal_now b c ≡ true → IsInTime b → AreTimely b.config b.start (b.trace ++ entry b.now c ∷ [])
timely_after b c legal t place e is = elim (pushed b.trace (entry b.now c) place e is) [
  | inl old ↦
      let before = take-append-le place b.trace (entry b.now c ∷ []) (let it = old.0 in omega arith) in
      let kept = t.timely place e old.1 in
      (ap (λ (h : List Entry). breaks_ref_late b.config.timing b.start h e) before ∙ kept.0, ap (λ (h : List Entry). breaks_ref_gap b.config.timing h e) before ∙ kept.1)
  | inr new ↦
      let before = take_at b.trace (entry b.now c ∷ []) place (sym new.0) in
      let kept = command_timely b c legal t in (
        ap (λ (h : List Entry). breaks_ref_late b.config.timing b.start h e) before ∙ sym (ap (breaks_ref_late b.config.timing b.start b.trace) new.1) ∙ kept.0,
        ap (λ (h : List Entry). breaks_ref_gap b.config.timing h e) before ∙ sym (ap (breaks_ref_gap b.config.timing b.trace) new.1) ∙ kept.1,
      )
]

gap_after : (t : Timing) (rank : ℕ) (history : List Entry) (x e : Entry) → is_refresh x.command ≡ true → eqb (rank_of x.command) rank ≡ true → rank_of e.command ≡ rank → (w : Bool) → is_refresh e.command ≡ w →
    breaks_ref_gap t (history ++ x ∷ []) e ≡ (w && ltb (x.cycle + 9 * t.refi) e.cycle)
gap_after t rank history x e ref of there true is = sym (gap_here t e (history ++ x ∷ []) (history ++ x ∷ []) history x refl refl (sym is) (rw (ref, there, of) refl))
gap_after t rank history x e ref of there false is = sym (no_ref_gap t (history ++ x ∷ []) e (sym is))

paid_after : (b : Bus) (c : Command) (rank : ℕ) → (is_refresh c ≡ true → rank_of c ≡ rank → b.start + (refresh_count b.trace (refresh rank) + 1) * b.config.timing.refi ≤ b.now) → IsPaid b.config b.start rank b.trace → IsPaid b.config b.start rank (b.trace ++ entry b.now c ∷ [])
paid_after b c rank due before = by_test (is_refresh c && eqb (rank_of c) rank) refl
  where
    by_test : (w : Bool) → (is_refresh c && eqb (rank_of c) rank) ≡ w → IsPaid b.config b.start rank (b.trace ++ entry b.now c ∷ [])
    by_test false other =
        let same = count_other rank (entry b.now c) b.trace other in
        record {
          last = before.last;
          gap = λ e there. gap_skip b.config.timing e (b.trace ++ entry b.now c ∷ []) (b.trace ++ entry b.now c ∷ []) b.trace (entry b.now c) refl refl (rw there (sym other)) ∙ before.gap e there;
          paid = subst (λ n. IfSome before.last (λ cycle. b.start + n * b.config.timing.refi ≤ cycle)) (sym same) before.paid;
        }
    by_test true is =
        let parts = and_parts (is_refresh c) (eqb (rank_of c) rank) is in
        let of = eqb-true (rank_of c) rank parts.1 in
        let it : Refresh rank ≡ c = sym (refresh_is c parts.0 ∙ ap Refresh of) in
        let more : refresh_count (b.trace ++ entry b.now c ∷ []) (refresh rank) ≡ refresh_count b.trace (refresh rank) + 1 = subst (λ d. refresh_count (b.trace ++ entry b.now d ∷ []) (refresh rank) ≡ refresh_count b.trace (refresh rank) + 1) it (count_refreshed rank b.now b.trace) in
        record {
          last = Some b.now;
          gap = λ e there. gap_after b.config.timing rank b.trace (entry b.now c) e parts.0 parts.1 there (is_refresh e.command) refl;
          paid = subst (λ n. b.start + n * b.config.timing.refi ≤ b.now) (sym more) (due parts.0 of);
        }

in_time_after : (s : State) (o : Option Command) → command_of s.pending (choice_of s) ≡ o → IsLegal s.config s.start s.now s.trace → s.start ≤ s.now → IsInTime (bus_of s) → ((rank : ℕ) → rank < s.config.geometry.ranks → IsPrompt (after o (bus_of s)) rank) → IsInTime (after o (bus_of s))
in_time_after s None is legal begun t all = record { all = all; each = t.each; timely = t.timely; paid = t.paid }
in_time_after s (Some c) is legal begun t all =
    let b = bus_of s in
    let may : is_legal_now b c ≡ true = subst (λ o. IfSome o (λ d. is_legal_now b d ≡ true)) is (choice_lawful (situation_of s)).legal in
    record {
      all = all;
      each = λ rank inside. each_after b c rank inside t;
      timely = timely_after b c may t;
      paid = λ rank inside. paid_after b c rank (λ ref of. refresh_due s c rank begun inside is ref of) (t.paid rank inside);
    }

-- a cycle of a channel

bus_after : (s : State) → bus_of (after_cycle s) ≡ after (command_of (at_choice s).pending (choice_of (at_choice s))) (bus_of s)
bus_after s =
    let c = choice_of (at_choice s) in
    served_alike {X = Bus} (λ t. bus_of (ticked t)) (λ t place r. refl) c (recorded (command_of (at_choice s).pending c) (at_choice s)) ∙ same (command_of (at_choice s).pending c)
  where
    same : (o : Option Command) → bus_of (ticked (recorded o (at_choice s))) ≡ after o (bus_of s)
    same None = refl
    same (Some d) = refl

in_time_cycle : (s : State) → IsSound s → IsInTime (bus_of s) → IsInTime (bus_of (after_cycle s))
in_time_cycle s sound t =
    let a = at_choice s in
    let kept : IsKeptPrompt a = record { legal = sound.legal; begun = sound.begun; all = t.all } in
    subst IsInTime (sym (bus_after s)) (in_time_after a (command_of a.pending (choice_of a)) refl sound.legal sound.begun t (prompt_cycle a kept))

in_time_if : (c : Bool) (old new : History) → IsInTime (bus_of old.state) → IsInTime (bus_of new.state) → IsInTime (bus_of (cond c old new).state)
in_time_if true old new o n = o
in_time_if false old new o n = n

in_time_call : (config : Config) (start : ℕ) (h : History) (call : Call) → IsKept config start h → IsInTime (bus_of h.state) → IsInTime (bus_of (after_call h call).state)
in_time_call config start h (Admit r) kept t = in_time_if (is_queue_full h.state r.echo.kind) h (record h { state = after_admit r h.state; accepted = h.accepted ++ r ∷ []; waiting = h.waiting ++ length h.accepted ∷ [] }) t t
in_time_call config start h Cycle kept t = in_time_if (eqb h.state.now CLOCK_STOP) h (record (with_owner (choice_of (at_choice h.state)) h) { state = after_cycle h.state }) t (in_time_cycle h.state kept.sound t)
in_time_call config start h Pop kept t = t

in_time_from : (config : Config) (start : ℕ) (h : History) (calls : List Call) → AreCalls config calls → IsKept config start h → IsInTime (bus_of h.state) → IsInTime (bus_of (fold after_call h calls).state)
in_time_from config start h [] may kept t = t
in_time_from config start h (call ∷ calls) may kept t = in_time_from config start (after_call h call) calls may.1 (kept_call config start h call may.0 kept) (in_time_call config start h call kept t)

off : (b : Bool) → false ≡ (b && false)
off true = refl
off false = refl

idle_banks : (config : Config) (start rank : ℕ) → some_bank_active (bus_of (opened config start)) rank ≡ false
unfolding bank_behind
idle_banks config start rank = any_none _ (range_with_len 0 (config.geometry.groups * 4)) (λ n. refl)

in_time_begun : (config : Config) (start : ℕ) → IsInTime (bus_of (opened config start))
in_time_begun config start = record {
  all = λ rank inside. prompt_fresh (bus_of (opened config start)) rank _ _ (omega arith) (λ i e is. cc) (λ active. absurd (false≢true (sym (idle_banks config start rank) ∙ active)));
  each = λ rank inside place e is ref. let none : ⊥ = cc in absurd none;
  timely = λ place e is. let none : ⊥ = cc in absurd none;
  paid = λ rank inside. record { last = None; gap = λ e of. off (is_refresh e.command); paid = tt };
}

in_time_run : (config : Config) (start : ℕ) (calls : List Call) → AreCalls config calls → IsInTime (bus_of (run config start calls).state)
in_time_run config start calls may = in_time_from config start (begun config start) calls may (kept_begun config start) (in_time_begun config start)

-- what it says of a state

debt_small : (b : Bus) (rank : ℕ) → IsPrompt b rank → b.start ≤ b.now → (b.now - b.start - 1) / b.config.timing.refi - refresh_count b.trace (refresh rank) ≤ b.config.timing.postpone + 1
debt_small b rank p begun =
    let n = refresh_count b.trace (refresh rank) in
    elim (cases_lt ((b.now - b.start - 1) / b.config.timing.refi) (n + b.config.timing.postpone + 1 + 1)) [
      | inl few ↦ omega arith
      | inr many ↦
          let all = (le-div_iff_mul-le {k = b.config.timing.refi} {x = n + b.config.timing.postpone + 1 + 1} {y = b.now - b.start - 1} (omega arith)).0 many in
          let parts = add-mul (n + b.config.timing.postpone + 1) 1 b.config.timing.refi in
          let it = p.by.1 in
          absurd (omega arith)
    ]

keeps_refreshes : (s : State) (rank : ℕ) → rank < s.config.geometry.ranks → s.start ≤ s.now → IsInTime (bus_of s) → KeepsRefreshes s rank
keeps_refreshes s rank inside begun t =
    let debt = debt_small (bus_of s) rank (t.all rank inside) begun in record {
      debt = debt;
      most = omega (arith, debt);
      next = not_late (bus_of s) rank (t.all rank inside);
      each = t.each rank inside;
    }

pub refreshes_of_run : (config : Config) (start : ℕ) (calls : List Call) → AreCalls config calls → (rank : ℕ) → rank < config.geometry.ranks → KeepsRefreshes (run config start calls).state rank
refreshes_of_run config start calls may rank inside =
    let kept = kept_run config start calls may in
    keeps_refreshes (run config start calls).state rank (subst (λ (c : Config). rank < c.geometry.ranks) (sym kept.config_is) inside) kept.sound.begun (in_time_run config start calls may)

-- the rules on refresh

never_late : (b : Bus) (rank : ℕ) → IsPrompt b rank → is_late b.config.timing b.start b.now b.trace rank ≡ false
never_late b rank p =
    let n = refresh_count b.trace (refresh rank) in
    let within = next_within b rank p in
    let nine = nine_times n b.config.timing.refi in
    le-ltb (b.start + (n + 9) * b.config.timing.refi) b.now (omega arith)

not_ended_late : (b : Bus) → IsInTime b → ends_late b.config b.start b.now b.trace ≡ false
not_ended_late b t = ends_told b.config b.start b.now b.trace ∙ by_ranks (eqb b.config.geometry.ranks 2) refl
  where
    by_ranks : (w : Bool) → eqb b.config.geometry.ranks 2 ≡ w → (is_late b.config.timing b.start b.now b.trace 0 || (eqb b.config.geometry.ranks 2 && is_late b.config.timing b.start b.now b.trace 1)) ≡ false
    by_ranks false is = rw (never_late b 0 (t.all 0 (omega arith)), is) refl
    by_ranks true is =
        let two = eqb-true b.config.geometry.ranks 2 is in
        rw (never_late b 0 (t.all 0 (omega arith)), is, never_late b 1 (t.all 1 (omega arith))) refl

at_entry : (c : Config) (start end : ℕ) (r : Rule) (history : List Entry) (e : Entry) → is_on_commands r ≡ false → (breaks_ref_late c.timing start history e ≡ false) × (breaks_ref_gap c.timing history e ≡ false) → breaks c start end r history e ≡ false
at_entry c start end rule.RefLate history e on kept = kept.0
at_entry c start end rule.RefGap history e on kept = kept.1
at_entry c start end r history e on kept = absurd (true≢false on)

at_end : (c : Config) (start end : ℕ) (entries : List Entry) (r : Rule) (last : Bool) → is_on_commands r ≡ false → ends_late c start end entries ≡ false → (last && breaks_at_end c start end entries r) ≡ false
at_end c start end entries rule.RefLate last on kept = rw kept (sym (off last))
at_end c start end entries rule.RefGap last on kept = sym (off last)
at_end c start end entries r last on kept = absurd (true≢false on)

refreshed : (b : Bus) → IsInTime b → IsRefreshed b.config b.start b.now b.trace
refreshed b t place r on = by_entry (slice_get b.trace place) refl
  where
    by_entry : (o : Option Entry) → slice_get b.trace place ≡ o → breaks_where b.config b.start b.now b.trace (slice_get b.trace place) place r ≡ false
    by_entry None is = rw is (at_end b.config b.start b.now b.trace r (eqb place (length b.trace)) on (not_ended_late b t))
    by_entry (Some e) is = rw is (at_entry b.config b.start b.now r (take place b.trace) e on (t.timely place e is))

pub refreshed_run : (config : Config) (start : ℕ) (calls : List Call) → AreCalls config calls → HasNoFault (run config start calls).state
refreshed_run config start calls may = record {
  legal = (kept_run config start calls may).sound.legal;
  refreshed = refreshed (bus_of (run config start calls).state) (in_time_run config start calls may);
}

-- so it is of a channel that stands for its calls
pub refreshed_standing : (channel : Kept) (calls : List Call) → StandsFor channel calls → HasNoFault (state_of channel)
refreshed_standing channel calls stands = subst HasNoFault (sym stands.state) (refreshed_run channel.config channel.start calls stands.calls_are)

pub refreshed_trace : (channel : Kept) (calls : List Call) → StandsFor channel calls → IsRefreshed channel.config channel.start channel.now channel.trace
refreshed_trace channel calls stands = (refreshed_standing channel calls stands).refreshed

-- each of its ranks keeps its refreshes in time
pub refreshes_standing : (channel : Kept) (calls : List Call) → StandsFor channel calls → (rank : ℕ) → rank < channel.config.geometry.ranks → KeepsRefreshes (state_of channel) rank
refreshes_standing channel calls stands rank inside =
    subst (λ (s : State). KeepsRefreshes s rank) (sym stands.state) (refreshes_of_run channel.config channel.start calls stands.calls_are rank inside)
