-- How soon a request comes whose rank has just been refreshed.
use Rattle.std.proofs.Common.{◌≡◌, ℕ, ◌+◌, ◌*◌, ◌/◌, ◌%◌, ◌<◌, ◌≤◌, Bool, true, false, ◌&&◌, cond, max, eqb, ltb, leb, List, [], ◌∷◌, ◌++◌, Option, Some, None, refl, sym, ap, subst, ◌∙◌, inl, inr, arith}
use Rattle.std.specs.List.{slice_get}
use Rattle.std.specs.Option.{IfSome}
use Rattle.std.proofs.lemmas.Bool.{and_parts, ltb-true, true≢false, false≢true}
use Rattle.std.proofs.lemmas.Bool.Decides.{nat_tests}
use Rattle.ddr_timing.specs.declared.timing.Timing.{Timing}
use Rattle.ddr_trace.specs.declared.bank.OpenBank.{OpenBank}
use Rattle.ddr_trace.specs.declared.command.Command.TheVariants.{Pre, Refresh}
use Rattle.ddr_trace.specs.declared.command.Entry.{Entry}
use Rattle.ddr_trace.specs.declared.rule.Rule.TheVariants as rule
use Rattle.ddr_trace.specs.Banks.{any_bank, bank_behind, is_auto_within, is_before_start}
use Rattle.ddr_trace.specs.Commands.{entry, is_activate, is_column, is_precharge, is_refresh, is_same_bank, is_same_rank, rank_of}
use Rattle.ddr_trace.specs.Rules.{breaks_spacing, is_bank_in, spacing_of, speaks_of}
use Rattle.ddr_latency.specs.Latency as clocks
use Rattle.ddr_legality.specs.Bus.{Bus, is_legal_now}
use Rattle.ddr_address_map.specs.declared.place.Place.{Place}
use Rattle.ddr_address_map.specs.Requests.{Request}
use Rattle.ddr_arbiter.specs.declared.choice.Choice.TheVariants as choice
use Rattle.ddr_arbiter.specs.Choice.{some_bank_active}
use Rattle.ddr_arbiter.specs.Commands.{activate_at, precharge_all, precharge_at}
use Rattle.ddr_arbiter.specs.Laws.{command_of}
use Rattle.ddr_arbiter.proofs.CommandLemmas.{legal_keeps}
use Rattle.ddr_arbiter.proofs.LawLemmas.{choice_lawful}
use Rattle.ddr_arbiter.proofs.PlaceLemmas.{any_here}
use Rattle.ddr_channel.specs.Choice.{bus_of, choice_of, situation_of}
use Rattle.ddr_channel.specs.Cycle.{at_choice, issued, ticked}
use Rattle.ddr_channel.specs.Refresh.{IsAtMostPrecharge, commands_from, recovery_time}
use Rattle.ddr_channel.specs.Sound.{IsServed, IsSound}
use Rattle.ddr_channel.specs.State.{State}
use Rattle.ddr_channel.proofs.BankTimeLemmas.{bank_refreshed}
use Rattle.ddr_channel.proofs.BusLemmas.{kept_far}
use Rattle.ddr_channel.proofs.InTimeLemmas.{not_late}
use Rattle.ddr_channel.proofs.ListLemmas.{neither}
use Rattle.ddr_channel.proofs.PlaceLemmas.{passes_none, passes_one, pushed}
use Rattle.ddr_channel.proofs.PromptLemmas.{IsPrompt}
use Rattle.ddr_channel.proofs.SoundLemmas.{IsSound-after_cycle}
use Rattle.ddr_deadline.specs.Behind.{auto_behind, auto_from, refreshed_from, spaced_from}
use Rattle.ddr_deadline.specs.Step.{AreColumnsBy, ComesBehindRefresh, overdue_at}
use Rattle.ddr_deadline.specs.Wait.{Earliest, by_opening, comes_by, earliest, served_by}
use Rattle.ddr_deadline.proofs.BehindLemmas.{behind_append, behind_most}
use Rattle.ddr_deadline.proofs.FreeLemmas.{active_of}
use Rattle.ddr_deadline.proofs.GrowthLemmas.{spaced_still}
use Rattle.ddr_deadline.proofs.LegalLemmas.{inside}
use Rattle.ddr_deadline.proofs.SoonLemmas.{AreBefore, is_rank_act}
use Rattle.ddr_deadline.proofs.StartLemmas.{Asks, activate_by, asks, column_close}

-- what a legal REF says of its rank

pub idle_at : (b : Bus) (rank : ℕ) → is_legal_now b (Refresh rank) ≡ true → some_bank_active b rank ≡ false
idle_at b rank legal = legal_keeps b (Refresh rank) legal rule.State refl

-- the REFs before it are over
refreshes_over : (b : Bus) (rank : ℕ) → is_legal_now b (Refresh rank) ≡ true → refreshed_from b.config.timing rank b.trace ≤ b.now
refreshes_over b rank legal = behind_most (λ a. is_refresh a && eqb (rank_of a) rank) (λ _. b.config.timing.rfc) b.trace b.now each
  where
    each : (i : ℕ) (a : Entry) → slice_get b.trace i ≡ Some a → (is_refresh a.command && eqb (rank_of a.command) rank) ≡ true → a.cycle + b.config.timing.rfc ≤ b.now
    each i a is passes =
        let parts = and_parts (is_refresh a.command) (eqb (rank_of a.command) rank) passes in
        kept_far (spacing_of b.config.timing rule.Rfc) b.trace (entry b.now (Refresh rank)) (legal_keeps b (Refresh rank) legal rule.Rfc refl) refl i a is parts.0 parts.1

-- and so are its precharges,
precharges_over : (b : Bus) (p : Place) → is_legal_now b (Refresh p.rank) ≡ true → spaced_from (spacing_of b.config.timing rule.Rp) (activate_at p) b.trace ≤ b.now
precharges_over b p legal = behind_most (λ a. speaks_of (spacing_of b.config.timing rule.Rp) a (activate_at p)) (λ _. b.config.timing.rp) b.trace b.now each
  where
    kept : breaks_spacing (spacing_of b.config.timing rule.RpRef) b.trace (entry b.now (Refresh p.rank)) ≡ false
    kept = (neither _ _ (legal_keeps b (Refresh p.rank) legal rule.RpRef refl)).0

    each : (i : ℕ) (a : Entry) → slice_get b.trace i ≡ Some a → speaks_of (spacing_of b.config.timing rule.Rp) a.command (activate_at p) ≡ true → a.cycle + b.config.timing.rp ≤ b.now
    each i a is speaks =
        let parts = and_parts (is_precharge a.command && true) (is_same_bank a.command (activate_at p)) speaks in
        let closes = (and_parts (is_precharge a.command) true parts.0).0 in
        let of = (and_parts (is_same_rank a.command (activate_at p)) _ parts.1).0 in
        kept_far (spacing_of b.config.timing rule.RpRef) b.trace (entry b.now (Refresh p.rank)) kept refl i a is closes of

-- the auto-precharges of its banks among them
autos_over : (b : Bus) (p : Place) → is_legal_now b (Refresh p.rank) ≡ true → is_bank_in b.config.geometry p.rank p.group p.bank ≡ true → auto_from b.config.timing (bank_behind (precharge_at p) b.trace) ≤ b.now
autos_over b p legal there = by_bank (bank_behind (precharge_at p) b.trace) (by_test (is_auto_within t t.rp b.now (bank_behind (precharge_at p) b.trace)) refl)
  where
    t : Timing
    t = b.config.timing

    starts : Bool
    starts = any_bank b.config.geometry p.rank (λ bank. is_auto_within t t.rp b.now (bank_behind bank b.trace))

    none : starts ≡ false
    none = (neither (breaks_spacing (spacing_of t rule.RpRef) b.trace (entry b.now (Refresh p.rank))) starts (legal_keeps b (Refresh p.rank) legal rule.RpRef refl)).1

    by_test : (w : Bool) → is_auto_within t t.rp b.now (bank_behind (precharge_at p) b.trace) ≡ w → is_auto_within t t.rp b.now (bank_behind (precharge_at p) b.trace) ≡ false
    by_test false is = is
    by_test true is =
        let g = b.config.geometry in
        let parts = and_parts (ltb p.rank g.ranks && ltb p.group g.groups) (ltb p.bank 4) there in
        let group = ltb-true p.group g.groups (and_parts (ltb p.rank g.ranks) (ltb p.group g.groups) parts.0).1 in
        let low = ltb-true p.bank 4 parts.1 in
        let first : (p.group * 4 + p.bank) / 4 ≡ p.group = omega (arith, low) in
        let second : (p.group * 4 + p.bank) % 4 ≡ p.bank = omega (arith, low) in
        let some = any_here (λ n. is_auto_within t t.rp b.now (bank_behind (Pre p.rank (n / 4) (n % 4)) b.trace)) (g.groups * 4) (p.group * 4 + p.bank) (omega (arith, group, low)) (rw (first, second) is) in
        absurd (true≢false (sym some ∙ none))

    by_auto : (bank : OpenBank) (auto : Option Entry) → is_before_start t t.rp b.now bank auto ≡ false → auto_behind t bank auto ≤ b.now
    by_auto bank None over = omega arith
    by_auto bank (Some a) over = grind (arith, nat_tests)

    by_bank : (o : Option OpenBank) → is_auto_within t t.rp b.now o ≡ false → auto_from t o ≤ b.now
    by_bank None over = omega arith
    by_bank (Some bank) over = by_auto bank bank.auto over

-- the ACTs of an overdue rank stand before the tick that made it so

before_due : (rank due : ℕ) (e : Entry) → (eqb (rank_of e.command) rank && leb due e.cycle) ≡ false → eqb (rank_of e.command) rank ≡ true → e.cycle < due
before_due rank due e out of =
    let late : leb due e.cycle ≡ false = rw of at out in
    grind (arith, nat_tests)

acts_before : (rank due last : ℕ) (trace : List Entry) → IsAtMostPrecharge rank last (commands_from rank due trace) → (i : ℕ) (e : Entry) → slice_get trace i ≡ Some e → is_activate e.command ≡ true → eqb (rank_of e.command) rank ≡ true → e.cycle < due
acts_before rank due last trace few i e is act of = by_list (commands_from rank due trace) refl few
  where
    by_test : (one : Entry) → one.command ≡ precharge_all rank → commands_from rank due trace ≡ one ∷ [] → (w : Bool) → (eqb (rank_of e.command) rank && leb due e.cycle) ≡ w → e.cycle < due
    by_test one closes only false out = before_due rank due e out of
    by_test one closes only true passes =
        let same : e ≡ one = passes_one (λ a. eqb (rank_of a.command) rank && leb due a.cycle) trace i e one only is passes in
        absurd (false≢true (sym (ap (λ (a : Entry). is_activate a.command) same ∙ ap is_activate closes) ∙ act))

    by_list : (es : List Entry) → commands_from rank due trace ≡ es → IsAtMostPrecharge rank last es → e.cycle < due
    by_list [] none most = before_due rank due e (passes_none (λ a. eqb (rank_of a.command) rank && leb due a.cycle) trace i e none is) of
    by_list (one ∷ []) only most = by_test one most.0 only (eqb (rank_of e.command) rank && leb due e.cycle) refl
    by_list (one ∷ two ∷ more) only most = absurd most

-- a REF that is chosen is legal
pub refresh_is_legal : (s : State) (rank : ℕ) → choice_of (at_choice s) ≡ choice.Refresh rank → is_legal_now (bus_of s) (Refresh rank) ≡ true
refresh_is_legal s rank is = subst (λ c. IfSome (command_of s.pending c) (λ d. is_legal_now (bus_of s) d ≡ true)) is (choice_lawful (situation_of (at_choice s))).legal

-- behind a cycle with a REF

-- the state behind it
abbrev pub behind_refresh : State → ℕ → State
behind_refresh s rank = ticked (issued (choice.Refresh rank) (at_choice s))

-- what is known of such a cycle, and of a request of the rank
pub record Refreshed (s : State) (r : Request) (due last : ℕ) : Type 0 where
  pub sound : IsSound (behind_refresh s r.place.rank)
  pub served : IsServed s.config r.place
  pub legal : is_legal_now (bus_of s) (Refresh r.place.rank) ≡ true
  pub few : IsAtMostPrecharge r.place.rank last (commands_from r.place.rank due s.trace)

acts_still : (s : State) (r : Request) (due last : ℕ) → Refreshed s r due last → AreBefore (is_rank_act (activate_at r.place)) due (behind_refresh s r.place.rank).trace
acts_still s r due last k i e is act = elim (pushed s.trace (entry s.now (Refresh r.place.rank)) i e is) [
  | inl old ↦
      let parts = and_parts (is_activate e.command) (is_same_rank e.command (activate_at r.place)) act in
      acts_before r.place.rank due last s.trace k.few i e old.1 parts.0 parts.1
  | inr new ↦ absurd (false≢true (ap (λ (a : Entry). is_rank_act (activate_at r.place) a.command) new.1 ∙ act))
]

columns_still : (s : State) (rank latest : ℕ) → AreColumnsBy latest s.trace → AreBefore is_column (latest + 1) (behind_refresh s rank).trace
columns_still s rank latest by i e is moves = elim (pushed s.trace (entry s.now (Refresh rank)) i e is) [
  | inl old ↦ let it = by i e old.1 moves in omega (arith, it)
  | inr new ↦ absurd (false≢true (ap (λ (a : Entry). is_column a.command) new.1 ∙ moves))
]

-- it lets other commands come by RFC
pub refreshed_now : (b : Bus) (rank : ℕ) → is_legal_now b (Refresh rank) ≡ true → refreshed_from b.config.timing rank (b.trace ++ entry b.now (Refresh rank) ∷ []) ≤ b.now + b.config.timing.rfc
refreshed_now b rank legal =
    let it = behind_append (λ a. is_refresh a && eqb (rank_of a) rank) (λ _. b.config.timing.rfc) b.trace (entry b.now (Refresh rank)) in
    let over = refreshes_over b rank legal in
    let most = by_test (eqb rank rank) in
    omega (arith, it, over, most)
  where
    by_test : (w : Bool) → cond w (b.now + b.config.timing.rfc) 0 ≤ b.now + b.config.timing.rfc
    by_test true = omega arith
    by_test false = omega arith

opening_behind : (now act col rfc rcd row column due latest : ℕ) → 1 ≤ rfc → act + 1 ≤ max (max (due + row) (now + 1)) (now + rfc + 1) → col + 1 ≤ max (latest + 1 + column) (now + rfc + 1) →
    max (max (now + 1) act + rcd) col + 1 ≤ max (max (now + rfc + 1) (due + row) + rcd) (latest + column + 1)
opening_behind now act col rfc rcd row column due latest some first second = omega (arith, some, first, second)

-- and the request is served soon, if it is served alone: all banks of the rank are idle, and the ACTs before stand before the tick
pub refreshed_close : (s : State) (r : Request) (row column due last latest : ℕ) → Asks s.config row column → Refreshed s r due last → AreColumnsBy latest s.trace →
    served_by (behind_refresh s r.place.rank) r + 1 ≤ max (max (s.now + s.config.timing.rfc + 1) (due + row) + s.config.timing.rcd) (latest + column + 1)
refreshed_close s r row column due last latest a k by =
    subst (λ o. comes_by t e p.row o + 1 ≤ most) (sym (bank_refreshed p.rank p.group p.bank s.now s.trace)) (by_held (bank_behind (precharge_at p) s.trace) refl)
  where
    t : Timing
    t = s.config.timing

    p : Place
    p = r.place

    n : State
    n = behind_refresh s p.rank

    e : Earliest
    e = earliest n r

    most : ℕ
    most = max (max (s.now + t.rfc + 1) (due + row) + t.rcd) (latest + column + 1)

    there : is_bank_in s.config.geometry p.rank p.group p.bank ≡ true
    there = (inside (bus_of s) p k.served).bank

    ref : refreshed_from t p.rank n.trace ≤ s.now + t.rfc
    ref = refreshed_now (bus_of s) p.rank k.legal

    closed : spaced_from (spacing_of t rule.Rp) (activate_at p) n.trace ≤ s.now
    closed =
        let same = spaced_still (spacing_of t rule.Rp) (activate_at p) s.trace (entry s.now (Refresh p.rank)) refl in
        let over = precharges_over (bus_of s) p k.legal in
        omega (arith, same, over)

    auto : auto_from t (bank_behind (precharge_at p) n.trace) ≤ s.now
    auto = subst (λ o. auto_from t o ≤ s.now) (sym (bank_refreshed p.rank p.group p.bank s.now s.trace)) (autos_over (bus_of s) p k.legal there)

    activate : e.activate + 1 ≤ max (max (due + row) (s.now + 1)) (s.now + t.rfc + 1)
    activate =
        let it = activate_by n r row column due (s.now + 1) a (acts_still s r due last k) (omega (arith, closed)) (omega (arith, auto)) in
        omega (arith, it, ref)

    col : e.column + 1 ≤ max (latest + 1 + column) (s.now + t.rfc + 1)
    col =
        let it = column_close n r row column (latest + 1) a k.sound k.served (columns_still s p.rank latest by) in
        omega (arith, it, ref)

    opening : by_opening t e + 1 ≤ most
    opening = opening_behind s.now e.activate e.column t.rfc t.rcd row column due latest t.rfc_range.0 activate col

    by_auto : (bank : OpenBank) → bank_behind (precharge_at p) s.trace ≡ Some bank → (auto : Option Entry) → bank.auto ≡ auto → comes_by t e p.row (Some bank) + 1 ≤ most
    by_auto bank held (Some x) stays = rw stays opening
    by_auto bank held None stays = absurd (false≢true (sym (idle_at (bus_of s) p.rank k.legal) ∙ active_of (bus_of s) p bank there held stays))

    by_held : (o : Option OpenBank) → bank_behind (precharge_at p) s.trace ≡ o → comes_by t e p.row o + 1 ≤ most
    by_held None held = opening
    by_held (Some bank) held = by_auto bank held bank.auto refl

-- so it is of each REF that is chosen
pub refresh_close : (s : State) (r : Request) → IsSound s → IsServed s.config r.place → IsPrompt (bus_of s) r.place.rank → choice_of (at_choice s) ≡ choice.Refresh r.place.rank → ComesBehindRefresh s.config s r
refresh_close s r sound served prompt is last by =
    subst (λ c. served_by (ticked (issued c (at_choice s))) r + 1 ≤ max (max (s.now + s.config.timing.rfc + 1) (due + row) + s.config.timing.rcd) (last + column + 1)) (sym is)
    (refreshed_close s r row column due most last (asks s.config) found by)
  where
    due : ℕ
    due = overdue_at s.config s r.place.rank

    most : ℕ
    most = due + recovery_time s.config.timing + 1

    row : ℕ
    row = clocks.row (clocks.clocks_of s.config)

    column : ℕ
    column = clocks.column (clocks.clocks_of s.config)

    found : Refreshed s r due most
    found = record {
      sound = subst (λ c. IsSound (ticked (issued c (at_choice s)))) is (IsSound-after_cycle s sound);
      served = served;
      legal = refresh_is_legal s r.place.rank is;
      few = (not_late (bus_of s) r.place.rank prompt).precharge;
    }
