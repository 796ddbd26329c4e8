-- Which commands of a refresh are legal, and what a legal command says of its rank.
use Rattle.std.proofs.Common.{◌≡◌, ℕ, suc, ◌+◌, ◌<◌, ◌≤◌, Bool, true, false, ◌&&◌, ◌||◌, eqb, ltb, leb, List, [], ◌∷◌, Some, take, refl, sym, ap, arith}
use Rattle.std.specs.List.{slice_get}
use Rattle.std.specs.Option.{is_none}
use Rattle.std.proofs.lemmas.Bool.{and_parts, and_from, not-false, ltb-true, lt-ltb, le-leb, le-ltb, eqb-true, false≢true}
use Rattle.std.proofs.lemmas.Bool.Decides.{nat_tests}
use Rattle.ddr_timing.specs.declared.config.Config.{Config}
use Rattle.ddr_timing.specs.declared.timing.Timing.{Timing}
use Rattle.ddr_trace.specs.declared.command.Command.{Command}
use Rattle.ddr_trace.specs.declared.command.Command.TheVariants.{PreAll, Refresh}
use Rattle.ddr_trace.specs.declared.command.Entry.{Entry}
use Rattle.ddr_trace.specs.declared.rule.Rule.{Rule}
use Rattle.ddr_trace.specs.declared.rule.Rule.TheVariants as rule
use Rattle.ddr_trace.specs.Banks.{any_bank, bank_behind, is_auto_within}
use Rattle.ddr_trace.specs.Commands.{entry, is_column, is_precharge, is_refresh, is_same_bank, rank_of}
use Rattle.ddr_trace.specs.Legality.{IsLegal}
use Rattle.ddr_trace.specs.Rules.{Spacing, breaks, breaks_order, breaks_rtrs, breaks_spacing, is_on_commands, is_too_close, last_cycle_below, spacing_of}
use Rattle.ddr_trace.proofs.LowestLemmas.{lowest_rule-none}
use Rattle.ddr_trace.proofs.WindowLemmas.{no_faw}
use Rattle.ddr_legality.specs.Bus.{Bus, is_legal_now}
use Rattle.ddr_arbiter.specs.Choice.{some_bank_active}
use Rattle.ddr_channel.proofs.ListLemmas.{list_any-none_at}
use Rattle.ddr_channel.specs.Refresh.{recovery_time}

-- every entry of the trace that passes has a property
abbrev pub Each : (Entry → Bool) → (Entry → Type 0) → List Entry → Type 0
Each test P entries = (i : ℕ) (e : Entry) → slice_get entries i ≡ Some e → test e ≡ true → P e

-- a REF of the rank
abbrev pub is_refresh_of : ℕ → Entry → Bool
is_refresh_of rank e = is_refresh e.command && eqb (rank_of e.command) rank

-- order

below_last : (entries : List Entry) (cycle : ℕ) → ((i : ℕ) (e : Entry) → slice_get entries i ≡ Some e → e.cycle < cycle) → last_cycle_below entries cycle ≡ true
below_last [] cycle all = refl
below_last (a ∷ []) cycle all = lt-ltb a.cycle cycle (all 0 a refl)
below_last (a ∷ b ∷ later) cycle all = below_last (b ∷ later) cycle (λ i e is. all (suc i) e is)

-- every command of a legal trace stands before its end
pub all_before : (c : Config) (start end : ℕ) (entries : List Entry) → IsLegal c start end entries → (i : ℕ) (e : Entry) → slice_get entries i ≡ Some e → e.cycle < end
all_before c start end entries legal i e is =
    let kept : breaks_order start end (take i entries) e ≡ false = rw is at (legal i rule.Order refl) in
    let first = last_cycle_below (take i entries) e.cycle && leb start e.cycle in
    ltb-true e.cycle end (and_parts first (ltb e.cycle end) (not-false (first && ltb e.cycle end) kept)).1

pub order_kept : (b : Bus) (command : Command) → b.start ≤ b.now → ((i : ℕ) (e : Entry) → slice_get b.trace i ≡ Some e → e.cycle < b.now) → breaks_order b.start (b.now + 1) b.trace (entry b.now command) ≡ false
order_kept b command begun all = rw (below_last b.trace b.now all, le-leb b.start b.now begun, lt-ltb b.now (b.now + 1) (omega arith)) refl

-- rules on two commands

and_none : (a b c : Bool) → b ≡ false → ((a && b && c)) ≡ false
and_none true b c none = rw none refl
and_none false b c none = refl

-- a command that isn't a later one keeps the rule
pub not_later : (s : Spacing) (history : List Entry) (e : Entry) → s.later e.command ≡ false → breaks_spacing s history e ≡ false
not_later s [] e none = refl
not_later s (a ∷ later) e none = rw (and_none (s.earlier a.command) (s.later e.command) (s.pairs a.command e.command) none) (not_later s later e none)

-- a command that stands far enough from each earlier one does
pub far_enough : (s : Spacing) (history : List Entry) (e : Entry) → ((i : ℕ) (a : Entry) → slice_get history i ≡ Some a → s.earlier a.command ≡ true → s.pairs a.command e.command ≡ true → a.cycle + s.at_least ≤ e.cycle) → breaks_spacing s history e ≡ false
far_enough s [] e far = refl
far_enough s (a ∷ later) e far = rw (by_tests (s.earlier a.command) (s.later e.command) (s.pairs a.command e.command) refl refl) (far_enough s later e (λ i x is. far (suc i) x is))
  where
    by_tests : (x y z : Bool) → s.earlier a.command ≡ x → s.pairs a.command e.command ≡ z → ((x && y && z) && ltb e.cycle (a.cycle + s.at_least)) ≡ false
    by_tests false y z is pair = refl
    by_tests true false z is pair = refl
    by_tests true true false is pair = refl
    by_tests true true true is pair = le-ltb e.cycle (a.cycle + s.at_least) (far 0 a refl is pair)

-- a command that keeps the rule stands far enough
pub kept_far : (s : Spacing) (history : List Entry) (e : Entry) → breaks_spacing s history e ≡ false → s.later e.command ≡ true → (i : ℕ) (a : Entry) → slice_get history i ≡ Some a → s.earlier a.command ≡ true → s.pairs a.command e.command ≡ true → a.cycle + s.at_least ≤ e.cycle
kept_far s history e kept later i a is earlier pair =
    let far : ltb e.cycle (a.cycle + s.at_least) ≡ false = rw (earlier, later, pair) at (list_any-none_at (λ x. is_too_close s x e) history i a kept is) in
    grind (arith, nat_tests)

-- a command that moves no data switches no rank
no_switch : (t : Timing) (history : List Entry) (e : Entry) → is_column e.command ≡ false → breaks_rtrs t history e ≡ false
no_switch t [] e none = refl
no_switch t (a ∷ later) e none = rw (switch_none (is_column a.command) (is_column e.command) _ _ none) (no_switch t later e none)
  where
    switch_none : (w x y z : Bool) → x ≡ false → (w && x && y && z) ≡ false
    switch_none true x y z is = rw is refl
    switch_none false x y z is = refl

either_none : (x y : Bool) → x ≡ false → y ≡ false → (x || y) ≡ false
either_none x y first second = rw (first, second) refl

-- a command that breaks no rule on commands is legal
legal_from : (b : Bus) (command : Command) → ((r : Rule) → is_on_commands r ≡ true → breaks b.config b.start (b.now + 1) r b.trace (entry b.now command) ≡ false) → is_legal_now b command ≡ true
legal_from b command kept = ap is_none (lowest_rule-none _ (λ r. by_test r (is_on_commands r) refl))
  where
    by_test : (r : Rule) (w : Bool) → is_on_commands r ≡ w → (w && breaks b.config b.start (b.now + 1) r b.trace (entry b.now command)) ≡ false
    by_test r true is = kept r is
    by_test r false is = refl

-- a rank that the commands are of
same_rank : (a : Command) (rank : ℕ) → eqb (rank_of a) rank ≡ true → rank_of a ≡ rank
same_rank a rank is = eqb-true (rank_of a) rank is

-- the cycle is one of the command bus, behind all commands, and the rank is there
pub record IsNext (b : Bus) (rank : ℕ) : Type 0 where
  pub begun : b.start ≤ b.now
  pub behind : (i : ℕ) (e : Entry) → slice_get b.trace i ≡ Some e → e.cycle < b.now
  pub inside : rank < b.config.geometry.ranks

abbrev pub is_of : ℕ → Entry → Bool
is_of rank e = eqb (rank_of e.command) rank

-- PREA is legal where every command of the rank lets its bank be precharged, and every REF lets a command come
pub precharge_legal : (b : Bus) (rank : ℕ) → IsNext b rank → Each (is_of rank) (λ e. e.cycle + recovery_time b.config.timing ≤ b.now) b.trace → Each (is_refresh_of rank) (λ e. e.cycle + b.config.timing.rfc ≤ b.now) b.trace →
    is_legal_now b (PreAll rank) ≡ true
precharge_legal b rank next rested free = legal_from b (PreAll rank) kept
  where
    t : Timing
    t = b.config.timing

    e : Entry
    e = entry b.now (PreAll rank)

    rests : (i : ℕ) (a : Entry) → slice_get b.trace i ≡ Some a → is_same_bank a.command (PreAll rank) ≡ true → a.cycle + recovery_time t ≤ b.now
    rests i a is pair = rested i a is (and_parts _ _ pair).0

    kept : (r : Rule) → is_on_commands r ≡ true → breaks b.config b.start (b.now + 1) r b.trace e ≡ false
    kept rule.Order on = order_kept b (PreAll rank) next.begun next.behind
    kept rule.Place on = rw (lt-ltb rank b.config.geometry.ranks next.inside) refl
    kept rule.State on = refl
    kept rule.Row on = refl
    kept rule.Rcd on = not_later (spacing_of t rule.Rcd) b.trace e refl
    kept rule.Ras on = far_enough (spacing_of t rule.Ras) b.trace e (λ i a is earlier pair. let rest = rests i a is pair in omega arith)
    kept rule.Rc on = not_later (spacing_of t rule.Rc) b.trace e refl
    kept rule.Rp on = either_none _ _ (not_later (spacing_of t rule.Rp) b.trace e refl) refl
    kept rule.RrdL on = not_later (spacing_of t rule.RrdL) b.trace e refl
    kept rule.RrdS on = not_later (spacing_of t rule.RrdS) b.trace e refl
    kept rule.Faw on = sym (no_faw t b.trace e refl)
    kept rule.CcdL on = not_later (spacing_of t rule.CcdL) b.trace e refl
    kept rule.CcdS on = not_later (spacing_of t rule.CcdS) b.trace e refl
    kept rule.WtrL on = not_later (spacing_of t rule.WtrL) b.trace e refl
    kept rule.WtrS on = not_later (spacing_of t rule.WtrS) b.trace e refl
    kept rule.Rtp on = far_enough (spacing_of t rule.Rtp) b.trace e (λ i a is earlier pair. let rest = rests i a is pair in omega arith)
    kept rule.Wr on = far_enough (spacing_of t rule.Wr) b.trace e (λ i a is earlier pair. let rest = rests i a is pair in omega arith)
    kept rule.Rtw on = not_later (spacing_of t rule.Rtw) b.trace e refl
    kept rule.RpRef on = either_none _ _ (not_later (spacing_of t rule.RpRef) b.trace e refl) refl
    kept rule.Rfc on = far_enough (spacing_of t rule.Rfc) b.trace e (λ i a is earlier pair. free i a is (and_from _ _ earlier pair))
    kept rule.RefLate on = absurd (false≢true on)
    kept rule.RefGap on = absurd (false≢true on)
    kept rule.Rtrs on = no_switch t b.trace e refl

-- REF is legal where all banks of the rank are idle, and every precharge and REF lets it come
pub refresh_legal : (b : Bus) (rank : ℕ) → IsNext b rank → some_bank_active b rank ≡ false → Each (λ e. is_precharge e.command && is_of rank e) (λ e. e.cycle + b.config.timing.rp ≤ b.now) b.trace →
    any_bank b.config.geometry rank (λ bank. is_auto_within b.config.timing b.config.timing.rp b.now (bank_behind bank b.trace)) ≡ false →
    Each (is_refresh_of rank) (λ e. e.cycle + b.config.timing.rfc ≤ b.now) b.trace → is_legal_now b (Refresh rank) ≡ true
refresh_legal b rank next idle closed started free = legal_from b (Refresh rank) kept
  where
    t : Timing
    t = b.config.timing

    e : Entry
    e = entry b.now (Refresh rank)

    kept : (r : Rule) → is_on_commands r ≡ true → breaks b.config b.start (b.now + 1) r b.trace e ≡ false
    kept rule.Order on = order_kept b (Refresh rank) next.begun next.behind
    kept rule.Place on = rw (lt-ltb rank b.config.geometry.ranks next.inside) refl
    kept rule.State on = idle
    kept rule.Row on = refl
    kept rule.Rcd on = not_later (spacing_of t rule.Rcd) b.trace e refl
    kept rule.Ras on = not_later (spacing_of t rule.Ras) b.trace e refl
    kept rule.Rc on = not_later (spacing_of t rule.Rc) b.trace e refl
    kept rule.Rp on = either_none _ _ (not_later (spacing_of t rule.Rp) b.trace e refl) refl
    kept rule.RrdL on = not_later (spacing_of t rule.RrdL) b.trace e refl
    kept rule.RrdS on = not_later (spacing_of t rule.RrdS) b.trace e refl
    kept rule.Faw on = sym (no_faw t b.trace e refl)
    kept rule.CcdL on = not_later (spacing_of t rule.CcdL) b.trace e refl
    kept rule.CcdS on = not_later (spacing_of t rule.CcdS) b.trace e refl
    kept rule.WtrL on = not_later (spacing_of t rule.WtrL) b.trace e refl
    kept rule.WtrS on = not_later (spacing_of t rule.WtrS) b.trace e refl
    kept rule.Rtp on = not_later (spacing_of t rule.Rtp) b.trace e refl
    kept rule.Wr on = not_later (spacing_of t rule.Wr) b.trace e refl
    kept rule.Rtw on = not_later (spacing_of t rule.Rtw) b.trace e refl
    kept rule.RpRef on = either_none _ _ (far_enough (spacing_of t rule.RpRef) b.trace e (λ i a is earlier pair. closed i a is (and_from _ _ earlier pair))) started
    kept rule.Rfc on = far_enough (spacing_of t rule.Rfc) b.trace e (λ i a is earlier pair. free i a is (and_from _ _ earlier pair))
    kept rule.RefLate on = absurd (false≢true on)
    kept rule.RefGap on = absurd (false≢true on)
    kept rule.Rtrs on = no_switch t b.trace e refl
