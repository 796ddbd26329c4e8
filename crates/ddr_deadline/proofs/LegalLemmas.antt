-- Which steps of a request are legal.
use Rattle.std.proofs.Common.{◌≡◌, ℕ, zero, suc, ◌+◌, ◌/◌, ◌<◌, ◌≤◌, Bool, true, false, ◌&&◌, ◌||◌, not, cond, max, eqb, ltb, List, [], ◌∷◌, take, Option, Some, None, refl, sym, ap, subst, ◌∙◌, arith}
use Rattle.std.specs.List.{fold, slice_get}
use Rattle.std.specs.Option.{IfSome, is_none, is_some, option_map}
use Rattle.std.proofs.lemmas.Bool.{and_from, and_parts, eq-eqb, eqb-true, false≢true}
use Rattle.ddr_timing.specs.declared.geometry.Geometry.{Geometry}
use Rattle.ddr_timing.specs.declared.timing.Timing.{Timing}
use Rattle.ddr_timing.specs.declared.units.TheConstants.{LINE_BYTES, LINE_COLUMNS}
use Rattle.ddr_trace.specs.declared.bank.OpenBank.{OpenBank}
use Rattle.ddr_trace.specs.declared.command.Command.{Command}
use Rattle.ddr_trace.specs.declared.command.Command.TheVariants as command
use Rattle.ddr_trace.specs.declared.command.Entry.{Entry}
use Rattle.ddr_trace.specs.declared.rule.Rule.{Rule}
use Rattle.ddr_trace.specs.declared.rule.Rule.TheVariants as rule
use Rattle.ddr_trace.specs.Banks.{bank_after, bank_behind, closing, is_active, is_auto_within, is_row, open_row, opened, ready_row, row_until, row_without}
use Rattle.ddr_trace.specs.Commands.{bank_of, entry, group_of, is_activate, is_auto, is_column, is_of_all_banks, is_precharge, is_refresh, is_same_bank, rank_of, row_of}
use Rattle.ddr_trace.specs.Rules.{breaks, breaks_rtrs, breaks_spacing, is_bank_in, is_in, is_line_in, is_on_commands, spacing_of}
use Rattle.ddr_trace.proofs.LowestLemmas.{lowest_rule-none}
use Rattle.ddr_trace.proofs.WindowLemmas.{no_faw}
use Rattle.ddr_legality.specs.Bus.{Bus, is_legal_now, open_row_now}
use Rattle.ddr_address_map.specs.declared.place.Place.{Place}
use Rattle.ddr_address_map.specs.declared.request.Kind.{Kind}
use Rattle.ddr_address_map.specs.declared.request.Kind.TheVariants.{Read, Write}
use Rattle.ddr_address_map.specs.Requests.{Request}
use Rattle.ddr_arbiter.specs.Choice.{can_activate}
use Rattle.ddr_arbiter.specs.Commands.{activate_at, column_at, column_of, precharge_at}
use Rattle.ddr_arbiter.proofs.CommandLemmas.{column_bank}
use Rattle.ddr_channel.specs.Sound.{IsServed}
use Rattle.ddr_channel.proofs.BusLemmas.{all_before, far_enough, kept_far, not_later, order_kept}
use Rattle.ddr_channel.proofs.PlaceLemmas.{taken_at}
use Rattle.ddr_deadline.specs.Behind.{activate_from, auto_from, column_from, four_from, precharge_from, spaced_from, switched_from}
use Rattle.ddr_deadline.specs.Legal.{IsNextOf, IsOpenFor}
use Rattle.ddr_deadline.proofs.BehindLemmas.{four_far, idle_from, spaced_far, switched_far}

-- a command that breaks no rule on commands is legal
legal_by : (b : Bus) (command : Command) → ((r : Rule) → is_on_commands r ≡ true → breaks b.config b.start (b.now + 1) r b.trace (entry b.now command) ≡ false) → is_legal_now b command ≡ true
legal_by b command kept = ap is_none (lowest_rule-none _ (λ r. by_test r (is_on_commands r) refl))
  where
    by_test : (r : Rule) (w : Bool) → is_on_commands r ≡ w → (w && breaks b.config b.start (b.now + 1) r b.trace (entry b.now command)) ≡ false
    by_test r true is = kept r is
    by_test r false is = refl

no_switch : (t : Timing) (history : List Entry) (e : Entry) → is_column e.command ≡ false → breaks_rtrs t history e ≡ false
no_switch t [] e none = refl
no_switch t (a ∷ later) e none = rw (switch_none (is_column a.command) (is_column e.command) _ _ none) (no_switch t later e none)
  where
    switch_none : (w x y z : Bool) → x ≡ false → (w && x && y && z) ≡ false
    switch_none true x y z is = rw is refl
    switch_none false x y z is = refl

neither : (x y : Bool) → x ≡ false → y ≡ false → (x || y) ≡ false
neither x y first second = rw (first, second) refl

before : (b : Bus) → IsNextOf b → (i : ℕ) (e : Entry) → slice_get b.trace i ≡ Some e → e.cycle < b.now
before b next = all_before b.config b.start b.now b.trace next.legal

-- places in the geometry

pub record IsInside (g : Geometry) (p : Place) : Type 0 where
  pub bank : is_bank_in g p.rank p.group p.bank ≡ true
  pub row : ltb p.row g.rows ≡ true
  pub line : ltb p.line (g.columns / LINE_COLUMNS) ≡ true

seven : (a b c d e f g : Bool) → (a && b && c && d && e && f && g) ≡ true → ((b && c && d) ≡ true) × (e ≡ true) × (f ≡ true)
seven true true true true true true true is = (refl, refl, refl)
seven true true true true true true false is = cc
seven true true true true true false g is = cc
seven true true true true false f g is = cc
seven true true true false e f g is = cc
seven true true false d e f g is = cc
seven true false c d e f g is = cc
seven false b c d e f g is = cc

pub inside : (b : Bus) (p : Place) → IsServed b.config p → IsInside b.config.geometry p
inside b p served =
    let g = b.config.geometry in
    let parts = seven (ltb p.channel g.channels) (ltb p.rank g.ranks) (ltb p.group g.groups) (ltb p.bank 4) (ltb p.row g.rows) (ltb p.line (g.columns / LINE_COLUMNS)) (ltb p.offset LINE_BYTES) served in
    record { bank = parts.0; row = parts.1; line = parts.2 }

-- PRE

most_of_four : (a b c d k : ℕ) → max (max a b) (max c d) ≤ k → (a ≤ k) × (b ≤ k) × (c ≤ k) × (d ≤ k)
most_of_four a b c d k most = (omega (arith, most), omega (arith, most), omega (arith, most), omega (arith, most))

pub precharge_comes : (b : Bus) (p : Place) → IsNextOf b → IsServed b.config p → precharge_from b.config.timing p b.trace ≤ b.now → is_legal_now b (precharge_at p) ≡ true
precharge_comes b p next served far = legal_by b (precharge_at p) kept
  where
    t : Timing
    t = b.config.timing

    e : Entry
    e = entry b.now (precharge_at p)

    by : Rule → ℕ
    by r = spaced_from (spacing_of t r) (precharge_at p) b.trace

    each : (by rule.Ras ≤ b.now) × (by rule.Wr ≤ b.now) × (by rule.Rtp ≤ b.now) × (by rule.Rfc ≤ b.now)
    each = most_of_four (by rule.Ras) (by rule.Wr) (by rule.Rtp) (by rule.Rfc) b.now far

    kept : (r : Rule) → is_on_commands r ≡ true → breaks b.config b.start (b.now + 1) r b.trace e ≡ false
    kept rule.Order on = order_kept b (precharge_at p) next.begun (before b next)
    kept rule.Place on = ap not (inside b p served).bank
    kept rule.State on = refl
    kept rule.Row on = refl
    kept rule.Rcd on = not_later (spacing_of t rule.Rcd) b.trace e refl
    kept rule.Ras on = spaced_far (spacing_of t rule.Ras) b.trace e each.0
    kept rule.Rc on = not_later (spacing_of t rule.Rc) b.trace e refl
    kept rule.Rp on = neither _ _ (not_later (spacing_of t rule.Rp) b.trace e refl) refl
    kept rule.RrdL on = not_later (spacing_of t rule.RrdL) b.trace e refl
    kept rule.RrdS on = not_later (spacing_of t rule.RrdS) b.trace e refl
    kept rule.Faw on = sym (no_faw t b.trace e refl)
    kept rule.CcdL on = not_later (spacing_of t rule.CcdL) b.trace e refl
    kept rule.CcdS on = not_later (spacing_of t rule.CcdS) b.trace e refl
    kept rule.WtrL on = not_later (spacing_of t rule.WtrL) b.trace e refl
    kept rule.WtrS on = not_later (spacing_of t rule.WtrS) b.trace e refl
    kept rule.Rtp on = spaced_far (spacing_of t rule.Rtp) b.trace e each.2
    kept rule.Wr on = spaced_far (spacing_of t rule.Wr) b.trace e each.1
    kept rule.Rtw on = not_later (spacing_of t rule.Rtw) b.trace e refl
    kept rule.RpRef on = neither _ _ (not_later (spacing_of t rule.RpRef) b.trace e refl) refl
    kept rule.Rfc on = spaced_far (spacing_of t rule.Rfc) b.trace e each.3
    kept rule.RefLate on = absurd (false≢true on)
    kept rule.RefGap on = absurd (false≢true on)
    kept rule.Rtrs on = no_switch t b.trace e refl

-- ACT

pub most_of_seven : (a b c d e f g k : ℕ) → max (max (max a b) (max c d)) (max (max e f) g) ≤ k → (a ≤ k) × (b ≤ k) × (c ≤ k) × (d ≤ k) × (e ≤ k) × (f ≤ k) × (g ≤ k)
most_of_seven a b c d e f g k most = (omega (arith, most), omega (arith, most), omega (arith, most), omega (arith, most), omega (arith, most), omega (arith, most), omega (arith, most))

act_bank : (p : Place) (trace : List Entry) → bank_behind (activate_at p) trace ≡ bank_behind (precharge_at p) trace
unfolding bank_behind
act_bank p trace = refl

state_kept : (x : Bool) → x ≡ false → (x || false || false) ≡ false
state_kept x is = rw is refl

is_shut : {X : Type 0} (o : Option X) → is_some o ≡ false → is_none o ≡ true
is_shut None is = refl
is_shut (Some x) is = cc

pub activate_comes : (b : Bus) (p : Place) → IsNextOf b → IsServed b.config p → ready_row (bank_behind (precharge_at p) b.trace) ≡ None → activate_from b.config.timing p b.trace ≤ b.now → can_activate b p ≡ true
activate_comes b p next served none far = and_from _ _ (is_shut (open_row_now b (precharge_at p)) idle.0) (legal_by b (activate_at p) kept)
  where
    t : Timing
    t = b.config.timing

    e : Entry
    e = entry b.now (activate_at p)

    by : Rule → ℕ
    by r = spaced_from (spacing_of t r) (activate_at p) b.trace

    held : Option OpenBank
    held = bank_behind (precharge_at p) b.trace

    each : (by rule.Rc ≤ b.now) × (by rule.Rp ≤ b.now) × (by rule.RrdL ≤ b.now) × (by rule.RrdS ≤ b.now) × (by rule.Rfc ≤ b.now) × (four_from t (activate_at p) b.trace ≤ b.now) × (auto_from t held ≤ b.now)
    each = most_of_seven (by rule.Rc) (by rule.Rp) (by rule.RrdL) (by rule.RrdS) (by rule.Rfc) (four_from t (activate_at p) b.trace) (auto_from t held) b.now far

    idle : (is_active t b.now held ≡ false) × (is_auto_within t t.rp b.now held ≡ false)
    idle = idle_from t b.now held none each.6

    kept : (r : Rule) → is_on_commands r ≡ true → breaks b.config b.start (b.now + 1) r b.trace e ≡ false
    kept rule.Order on = order_kept b (activate_at p) next.begun (before b next)
    kept rule.Place on = let at = inside b p served in ap not (and_from (is_bank_in b.config.geometry p.rank p.group p.bank) (ltb p.row b.config.geometry.rows) at.bank at.row)
    kept rule.State on = state_kept (is_active t b.now (bank_behind (activate_at p) b.trace)) (ap (is_active t b.now) (act_bank p b.trace) ∙ idle.0)
    kept rule.Row on = refl
    kept rule.Rcd on = not_later (spacing_of t rule.Rcd) b.trace e refl
    kept rule.Ras on = not_later (spacing_of t rule.Ras) b.trace e refl
    kept rule.Rc on = spaced_far (spacing_of t rule.Rc) b.trace e each.0
    kept rule.Rp on = neither _ _ (spaced_far (spacing_of t rule.Rp) b.trace e each.1) (ap (is_auto_within t t.rp b.now) (act_bank p b.trace) ∙ idle.1)
    kept rule.RrdL on = spaced_far (spacing_of t rule.RrdL) b.trace e each.2
    kept rule.RrdS on = spaced_far (spacing_of t rule.RrdS) b.trace e each.3
    kept rule.Faw on = four_far t b.trace e each.5
    kept rule.CcdL on = not_later (spacing_of t rule.CcdL) b.trace e refl
    kept rule.CcdS on = not_later (spacing_of t rule.CcdS) b.trace e refl
    kept rule.WtrL on = not_later (spacing_of t rule.WtrL) b.trace e refl
    kept rule.WtrS on = not_later (spacing_of t rule.WtrS) b.trace e refl
    kept rule.Rtp on = not_later (spacing_of t rule.Rtp) b.trace e refl
    kept rule.Wr on = not_later (spacing_of t rule.Wr) b.trace e refl
    kept rule.Rtw on = not_later (spacing_of t rule.Rtw) b.trace e refl
    kept rule.RpRef on = neither _ _ (not_later (spacing_of t rule.RpRef) b.trace e refl) refl
    kept rule.Rfc on = spaced_far (spacing_of t rule.Rfc) b.trace e each.4
    kept rule.RefLate on = absurd (false≢true on)
    kept rule.RefGap on = absurd (false≢true on)
    kept rule.Rtrs on = no_switch t b.trace e refl

-- the ACTs of a bank that is open came no later than the one that opened it

-- an ACT of the command's bank
abbrev is_bank_act : Command → Entry → Bool
is_bank_act c e = is_activate e.command && is_same_bank e.command c

abbrev Since : Command → ℕ → List Entry → Option OpenBank → Type 0
Since c low entries bank = IfSome bank (λ b. (low ≤ b.since) × ((i : ℕ) (a : Entry) → slice_get entries i ≡ Some a → is_bank_act c a ≡ true → a.cycle ≤ b.since))

abbrev AreRising : Command → ℕ → List Entry → Type 0
AreRising c low entries = ((i : ℕ) (a : Entry) → slice_get entries i ≡ Some a → is_bank_act c a ≡ true → low ≤ a.cycle)
    × ((i j : ℕ) (a e : Entry) → i < j → slice_get entries i ≡ Some a → slice_get entries j ≡ Some e → is_bank_act c a ≡ true → is_bank_act c e ≡ true → a.cycle ≤ e.cycle)

-- a command that is no ACT of the bank leaves it open since when it was, or not at all
kept_since : (c : Command) (low : ℕ) (x : Entry) (bank : Option OpenBank) → is_bank_act c x ≡ false → IfSome bank (λ b. low ≤ b.since) → IfSome (bank_after c bank x) (λ b. low ≤ b.since)
kept_since c low x bank other was = by_kind (is_same_bank x.command c) (is_activate x.command) (is_precharge x.command) (is_auto x.command) bank other was
  where
    by_kind : (same act pre auto : Bool) (o : Option OpenBank) → (act && same) ≡ false → IfSome o (λ b. low ≤ b.since) →
        IfSome (cond same (cond act (Some (opened x)) (cond pre None (cond auto (option_map {T = OpenBank} (closing x) o) o))) o) (λ b. low ≤ b.since)
    by_kind false act pre auto o none at = at
    by_kind true true pre auto o none at = cc
    by_kind true false true auto o none at = tt
    by_kind true false false false o none at = at
    by_kind true false false true None none at = tt
    by_kind true false false true (Some b) none at = at

act_since : (c : Command) (x : Entry) (bank : Option OpenBank) → is_bank_act c x ≡ true → bank_after c bank x ≡ Some (opened x)
act_since c x bank is =
    let parts = and_parts (is_activate x.command) (is_same_bank x.command c) is in
    rw (parts.1, parts.0) refl

more_since : (c : Command) (low : ℕ) (x : Entry) (xs : List Entry) (bank : Option OpenBank) → Since c low xs bank → (is_bank_act c x ≡ true → x.cycle ≤ low) → Since c low (x ∷ xs) bank
more_since c low x xs None was early = tt
more_since c low x xs (Some b) was early = (was.0, each)
  where
    each : (i : ℕ) (a : Entry) → slice_get (x ∷ xs) i ≡ Some a → is_bank_act c a ≡ true → a.cycle ≤ b.since
    each zero a is act =
        let same : x ≡ a = cc in
        let here : x.cycle ≤ low = early (ap (is_bank_act c) same ∙ act) in
        let it = ap (λ (y : Entry). y.cycle) same in
        let least = was.0 in
        omega arith
    each (suc i) a is act = was.1 i a is act

lower_since : (c : Command) (low least : ℕ) (xs : List Entry) (bank : Option OpenBank) → least ≤ low → Since c low xs bank → Since c least xs bank
lower_since c low least xs None below was = tt
lower_since c low least xs (Some b) below was = (let it = was.0 in omega arith, was.1)

fold_since : (c : Command) (low : ℕ) (entries : List Entry) (bank : Option OpenBank) → AreRising c low entries → IfSome bank (λ b. low ≤ b.since) → Since c low entries (fold (bank_after c) bank entries)
fold_since c low [] None rising was = tt
fold_since c low [] (Some b) rising was = (was, λ i a is. cc)
fold_since c low (x ∷ xs) bank rising was = by_test (is_bank_act c x) refl (λ least. fold_since c least xs)
  where
    by_test : (w : Bool) → is_bank_act c x ≡ w → ((least : ℕ) (o : Option OpenBank) → AreRising c least xs → IfSome o (λ b. least ≤ b.since) → Since c least xs (fold (bank_after c) o xs)) → Since c low (x ∷ xs) (fold (bank_after c) (bank_after c bank x) xs)
    by_test true is rest =
        let later : AreRising c x.cycle xs = (λ i a at act. rising.1 0 (suc i) x a (omega arith) refl at is act, λ i j a e before first second. rising.1 (suc i) (suc j) a e (omega arith) first second) in
        let all : Since c x.cycle xs (fold (bank_after c) (bank_after c bank x) xs) = rest x.cycle (bank_after c bank x) later (rw (act_since c x bank is) (omega arith)) in
        lower_since c x.cycle low (x ∷ xs) (fold (bank_after c) (bank_after c bank x) xs) (rising.0 0 x refl is) (more_since c x.cycle x xs (fold (bank_after c) (bank_after c bank x) xs) all (λ _. omega arith))
    by_test false is rest =
        let later : AreRising c low xs = (λ i a at. rising.0 (suc i) a at, λ i j a e before first second. rising.1 (suc i) (suc j) a e (omega arith) first second) in
        more_since c low x xs (fold (bank_after c) (bank_after c bank x) xs) (rest low (bank_after c bank x) later (kept_since c low x bank is was)) (λ act. absurd (false≢true (sym is ∙ act)))

-- two ACTs of a bank keep RC

act_one : (a : Command) → is_activate a ≡ true → is_of_all_banks a ≡ false
act_one (command.Act rank group bank row) is = refl
act_one (command.Rd rank group bank row line) is = refl
act_one (command.Wr rank group bank row line) is = refl
act_one (command.RdAuto rank group bank row line) is = refl
act_one (command.WrAuto rank group bank row line) is = refl
act_one (command.Pre rank group bank) is = refl
act_one (command.PreAll rank) is = cc
act_one (command.Refresh rank) is = refl

bank_parts : (a c : Command) → is_of_all_banks a ≡ false → is_of_all_banks c ≡ false → is_same_bank a c ≡ true → (rank_of a ≡ rank_of c) × (group_of a ≡ group_of c) × (bank_of a ≡ bank_of c)
bank_parts a c first second is =
    let one : (eqb (rank_of a) (rank_of c) && (eqb (group_of a) (group_of c) && eqb (bank_of a) (bank_of c))) ≡ true = rw (first, second) at is in
    let parts = and_parts (eqb (rank_of a) (rank_of c)) (eqb (group_of a) (group_of c) && eqb (bank_of a) (bank_of c)) one in
    let last = and_parts (eqb (group_of a) (group_of c)) (eqb (bank_of a) (bank_of c)) parts.1 in
    (eqb-true (rank_of a) (rank_of c) parts.0, eqb-true (group_of a) (group_of c) last.0, eqb-true (bank_of a) (bank_of c) last.1)

same_act_bank : (a c e : Command) → is_of_all_banks c ≡ false → is_activate a ≡ true → is_activate e ≡ true → is_same_bank a c ≡ true → is_same_bank e c ≡ true → is_same_bank a e ≡ true
same_act_bank a c e one act later first second =
    let here = bank_parts a c (act_one a act) one first in
    let there = bank_parts e c (act_one e later) one second in
    rw (act_one a act, act_one e later, eq-eqb (rank_of a) (rank_of e) (here.0 ∙ sym there.0), eq-eqb (group_of a) (group_of e) (here.1 ∙ sym there.1), eq-eqb (bank_of a) (bank_of e) (here.2 ∙ sym there.2)) refl

acts_rise : (b : Bus) (c : Command) → is_of_all_banks c ≡ false → IsNextOf b → AreRising c 0 b.trace
acts_rise b c one next = (λ i a is act. omega arith, each)
  where
    each : (i j : ℕ) (a e : Entry) → i < j → slice_get b.trace i ≡ Some a → slice_get b.trace j ≡ Some e → is_bank_act c a ≡ true → is_bank_act c e ≡ true → a.cycle ≤ e.cycle
    each i j a e first is at act later =
        let acts = and_parts (is_activate a.command) (is_same_bank a.command c) act in
        let latest = and_parts (is_activate e.command) (is_same_bank e.command c) later in
        let kept : breaks_spacing (spacing_of b.config.timing rule.Rc) (take j b.trace) e ≡ false = rw at at (next.legal j rule.Rc refl) in
        let far = kept_far (spacing_of b.config.timing rule.Rc) (take j b.trace) e kept latest.0 i a (taken_at b.trace j i a first is) acts.0 (same_act_bank a.command c e.command one acts.0 latest.0 acts.1 latest.1) in
        omega (arith, far)

bank_since : (c : Command) (trace : List Entry) → AreRising c 0 trace → Since c 0 trace (bank_behind c trace)
unfolding bank_behind
bank_since c trace rising = fold_since c 0 trace None rising tt

-- a read or a write

record IsPlainColumn (c : Command) : Type 0 where
  activate : is_activate c ≡ false
  precharge : is_precharge c ≡ false
  refresh : is_refresh c ≡ false
  one : is_of_all_banks c ≡ false

and_off : (x y : Bool) → x ≡ false → (x && y) ≡ false
and_off x y off = rw off refl

state_held : (a c r x n z : Bool) → a ≡ false → r ≡ false → n ≡ false → ((a && x) || (c && n) || (r && z)) ≡ false
state_held a true r x n z act ref none = rw (act, ref, none) refl
state_held a false r x n z act ref none = rw (act, ref) refl

row_held : (c x : Bool) → x ≡ true → (c && not x) ≡ false
row_held true x is = rw is refl
row_held false x is = refl

column_rules : (b : Bus) (c : Command) (bank : OpenBank) → IsNextOf b → is_in b.config.geometry c ≡ true → IsPlainColumn c → bank_behind c b.trace ≡ Some bank → bank.auto ≡ None → bank.row ≡ row_of c →
    bank.since + b.config.timing.rcd ≤ b.now → column_from b.config.timing c b.trace ≤ b.now → is_legal_now b c ≡ true
column_rules b c bank next within plain held stays row opened far = legal_by b c kept
  where
    t : Timing
    t = b.config.timing

    e : Entry
    e = entry b.now c

    by : Rule → ℕ
    by r = spaced_from (spacing_of t r) c b.trace

    each : (by rule.CcdL ≤ b.now) × (by rule.CcdS ≤ b.now) × (by rule.WtrL ≤ b.now) × (by rule.WtrS ≤ b.now) × (by rule.Rtw ≤ b.now) × (by rule.Rfc ≤ b.now) × (switched_from t c b.trace ≤ b.now)
    each = most_of_seven (by rule.CcdL) (by rule.CcdS) (by rule.WtrL) (by rule.WtrS) (by rule.Rtw) (by rule.Rfc) (switched_from t c b.trace) b.now far

    ready : is_none (ready_row (bank_behind c b.trace)) ≡ false
    ready = ap (λ o. is_none (ready_row o)) held ∙ ap (λ o. is_none (row_without bank o)) stays

    its_row : is_row (open_row t b.now (bank_behind c b.trace)) (row_of c) ≡ true
    its_row = ap (λ o. is_row (open_row t b.now o) (row_of c)) held ∙ ap (λ o. is_row (row_until t b.now bank o) (row_of c)) stays ∙ eq-eqb bank.row (row_of c) row

    acts : Since c 0 b.trace (Some bank)
    acts = subst (λ o. Since c 0 b.trace o) held (bank_since c b.trace (acts_rise b c plain.one next))

    kept : (r : Rule) → is_on_commands r ≡ true → breaks b.config b.start (b.now + 1) r b.trace e ≡ false
    kept rule.Order on = order_kept b c next.begun (before b next)
    kept rule.Place on = ap not within
    kept rule.State on = state_held (is_activate c) (is_column c) (is_refresh c) _ (is_none (ready_row (bank_behind c b.trace))) _ plain.activate plain.refresh ready
    kept rule.Row on = row_held (is_column c) (is_row (open_row t b.now (bank_behind c b.trace)) (row_of c)) its_row
    kept rule.Rcd on = far_enough (spacing_of t rule.Rcd) b.trace e (λ i a is earlier pair. let it = acts.1 i a is (and_from (is_activate a.command) (is_same_bank a.command c) earlier pair) in omega (arith, it, opened))
    kept rule.Ras on = not_later (spacing_of t rule.Ras) b.trace e plain.precharge
    kept rule.Rc on = not_later (spacing_of t rule.Rc) b.trace e plain.activate
    kept rule.Rp on = neither _ _ (not_later (spacing_of t rule.Rp) b.trace e plain.activate) (and_off (is_activate c) _ plain.activate)
    kept rule.RrdL on = not_later (spacing_of t rule.RrdL) b.trace e plain.activate
    kept rule.RrdS on = not_later (spacing_of t rule.RrdS) b.trace e plain.activate
    kept rule.Faw on = sym (no_faw t b.trace e (sym plain.activate))
    kept rule.CcdL on = spaced_far (spacing_of t rule.CcdL) b.trace e each.0
    kept rule.CcdS on = spaced_far (spacing_of t rule.CcdS) b.trace e each.1
    kept rule.WtrL on = spaced_far (spacing_of t rule.WtrL) b.trace e each.2
    kept rule.WtrS on = spaced_far (spacing_of t rule.WtrS) b.trace e each.3
    kept rule.Rtp on = not_later (spacing_of t rule.Rtp) b.trace e plain.precharge
    kept rule.Wr on = not_later (spacing_of t rule.Wr) b.trace e plain.precharge
    kept rule.Rtw on = spaced_far (spacing_of t rule.Rtw) b.trace e each.4
    kept rule.RpRef on = neither _ _ (not_later (spacing_of t rule.RpRef) b.trace e plain.refresh) (and_off (is_refresh c) _ plain.refresh)
    kept rule.Rfc on = spaced_far (spacing_of t rule.Rfc) b.trace e each.5
    kept rule.RefLate on = absurd (false≢true on)
    kept rule.RefGap on = absurd (false≢true on)
    kept rule.Rtrs on = switched_far t b.trace e each.6

plain_column : (kind : Kind) (p : Place) → IsPlainColumn (column_at false kind p)
plain_column Read p = record { activate = refl; precharge = refl; refresh = refl; one = refl }
plain_column Write p = record { activate = refl; precharge = refl; refresh = refl; one = refl }

column_in : (g : Geometry) (kind : Kind) (p : Place) → is_line_in g p.rank p.group p.bank p.row p.line ≡ true → is_in g (column_at false kind p) ≡ true
column_in g Read p is = is
column_in g Write p is = is

column_row : (kind : Kind) (p : Place) → row_of (column_at false kind p) ≡ p.row
column_row Read p = refl
column_row Write p = refl

pub column_comes : (b : Bus) (r : Request) → IsNextOf b → IsServed b.config r.place → IsOpenFor b r.place → column_from b.config.timing (column_of false r) b.trace ≤ b.now → is_legal_now b (column_of false r) ≡ true
column_comes b r next served opened far =
    let p = r.place in
    let g = b.config.geometry in
    let at = inside b p served in
    let line = and_from (is_bank_in g p.rank p.group p.bank && ltb p.row g.rows) (ltb p.line (g.columns / LINE_COLUMNS)) (and_from (is_bank_in g p.rank p.group p.bank) (ltb p.row g.rows) at.bank at.row) at.line in
    column_rules b (column_of false r) opened.bank next (column_in g r.echo.kind p line) (plain_column r.echo.kind p) (column_bank false r.echo.kind p b.trace ∙ opened.held) opened.stays (opened.row ∙ sym (column_row r.echo.kind p)) opened.opened far
