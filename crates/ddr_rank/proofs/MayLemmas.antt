-- A command may come by what is kept where it breaks no rule behind the whole history.
use Rattle.std.proofs.Common.{◌≡◌, ℕ, ◌+◌, ◌<◌, Bool, true, false, ◌&&◌, ◌||◌, not, ◌==◌, nat_le, nat_lt, if◌then◌else◌, List, Option, Some, None, is_none, refl, sym, ap, arith, ◌∙◌}
use Rattle.std.specs.Option.{is_some}
use Rattle.std.proofs.lemmas.Bool.Decides.{nat_tests}
use Rattle.ddr_timing.specs.declared.timing.Timing.{Timing}
use Rattle.ddr_trace.specs.declared.bank.OpenBank.{OpenBank}
use Rattle.ddr_trace.specs.declared.command.Command.{Command}
use Rattle.ddr_trace.specs.declared.command.Command.TheVariants.{Act, Rd, Wr, RdAuto, WrAuto, Pre, PreAll, Refresh}
use Rattle.ddr_trace.specs.declared.command.Entry.{Entry}
use Rattle.ddr_trace.specs.Banks.{auto_start, bank_behind, is_active, is_auto_within, is_before_start, is_row, open_row, ready_row, row_until, row_without}
use Rattle.ddr_trace.specs.Commands.{entry, rank_of}
use Rattle.ddr_trace.specs.Rules.{is_in}
use Rattle.ddr_rank.proofs.FawLemmas.{faw_told, faw_untold}
use Rattle.ddr_rank.proofs.FirstLemmas.{within_told}
use Rattle.ddr_rank.proofs.HeldLemmas.{none_on_rank}
use Rattle.ddr_rank.proofs.OpenLemmas.{any_told}
use Rattle.ddr_trace.proofs.PlaceLemmas.{bank_in, group_in}
use Rattle.ddr_rank.proofs.RuleLemmas.{named_by_act, named_by_read, named_by_write}
use Rattle.ddr_rank.specs.May.{is_closed, is_idle, may_now}
use Rattle.ddr_rank.specs.Readiness.{Readiness}
use Rattle.ddr_rank.specs.Ready.{LAST_CYCLE, after}
use Rattle.ddr_rank.specs.Stands.{StandsFor, lowest_on_rank}

not_below : (n y : ℕ) → nat_le n y ≡ not (nat_lt y n)
not_below n y = grind (arith, nat_tests)

-- a bank is idle where it is not active and no auto-precharge holds it up
module _ (t : Timing) (y : ℕ) (below : y < LAST_CYCLE) where
  closed_told : (bank : OpenBank) (auto : Option Entry) → is_closed t y bank auto ≡ (not (is_some (row_until t y bank auto)) && not (is_before_start t t.rp y bank auto))
  closed_told bank None = refl
  closed_told bank (Some auto) = at_start (auto_start t bank auto) t.rp
    where
      at_start : (n clocks : ℕ) → nat_le (after n clocks) y ≡ (not (is_some (if nat_le n y then None else Some bank.row)) && not (nat_lt y (n + clocks)))
      at_start n clocks = by_start (nat_le n y) refl
        where
          by_start : (w : Bool) → nat_le n y ≡ w → nat_le (after n clocks) y ≡ (not (is_some (if w then None else Some bank.row)) && not (nat_lt y (n + clocks)))
          by_start true is = grind (arith, nat_tests)
          by_start false is = grind (arith, nat_tests)

  idle_told : (o : Option OpenBank) → is_idle t y o ≡ (not (is_active t y o) && not (is_auto_within t t.rp y o))
  idle_told None = refl
  idle_told (Some bank) = closed_told bank bank.auto

four : (h a u f : Bool) → (not h && not f && (not a && not u)) ≡ not (h || (((a || false) || false) || (u || (f || false))))
four true a u f = refl
four false true u true = refl
four false true u false = refl
four false false true true = refl
four false false true false = refl
four false false false true = refl
four false false false false = refl

by_four : (n m y : ℕ) (i a u h' a' u' f' : Bool) → nat_lt y n ≡ h' → nat_lt y m ≡ f' → i ≡ (not a && not u) → a ≡ a' → u ≡ u' → (nat_le n y && nat_le m y && i) ≡ not (h' || (((a' || false) || false) || (u' || (f' || false))))
by_four n m y i a u h' a' u' f' h f e e1 e2 = rw (not_below n y, not_below m y, e, ← h, ← f, ← e1, ← e2) (four (nat_lt y n) a u (nat_lt y m))

-- the row that a read finds is the open one
not_not : (a : Bool) → a ≡ not (not a)
not_not true = refl
not_not false = refl

finds : (t : Timing) (y w : ℕ) (bank : OpenBank) (auto : Option Entry) → is_row (row_without bank auto) w ≡ not (is_none (row_without bank auto) || not (is_row (row_until t y bank auto) w))
finds t y w bank None = not_not (bank.row == w)
finds t y w bank (Some a) = refl

found : (t : Timing) (y w : ℕ) (o : Option OpenBank) → is_row (ready_row o) w ≡ not (is_none (ready_row o) || not (is_row (open_row t y o) w))
found t y w None = refl
found t y w (Some bank) = finds t y w bank bank.auto

two : (h s r : Bool) → (not h && not (s || r)) ≡ not (h || ((s || false) || (r || (false || false))))
two true s r = refl
two false true r = refl
two false false true = refl
two false false false = refl

by_row : (t : Timing) (n y w : ℕ) (o o' : Option OpenBank) (h' f' : Bool) → nat_lt y n ≡ h' → o ≡ o' → false ≡ f'
    → (nat_le n y && is_row (ready_row o) w) ≡ not (h' || ((is_none (ready_row o') || false) || (not (is_row (open_row t y o') w) || (f' || false))))
by_row t n y w o o' h' f' h e1 e2 =
    rw (not_below n y, ← h, ← e1, ← e2)
    (ap (λ x. not (nat_lt y n) && x) (found t y w o) ∙ two (nat_lt y n) (is_none (ready_row o)) (not (is_row (open_row t y o) w)))

one : (h : Bool) → not h ≡ not (h || (false || false))
one true = refl
one false = refl

by_one : (n y : ℕ) (h' f' : Bool) → nat_lt y n ≡ h' → false ≡ f' → nat_le n y ≡ not (h' || (f' || false))
by_one n y h' f' h e = rw (not_below n y, ← h, ← e) (one (nat_lt y n))

three : (h a u : Bool) → (not h && not a && not u) ≡ not (h || (a || (false || (u || false))))
three true a u = refl
three false true u = refl
three false false true = refl
three false false false = refl

by_three : (n y : ℕ) (a u h' a' u' f' : Bool) → nat_lt y n ≡ h' → a ≡ a' → u ≡ u' → false ≡ f' → (nat_le n y && not a && not u) ≡ not (h' || (a' || (f' || (u' || false))))
by_three n y a u h' a' u' f' h e1 e2 e3 = rw (not_below n y, ← h, ← e1, ← e2, ← e3) (three (nat_lt y n) a u)

-- a bank is named by a read and a write with auto-precharge too
named_by_read_auto : (history : List Entry) (k g b w l : ℕ) → bank_behind (Pre k g b) history ≡ bank_behind (RdAuto k g b w l) history
unfolding bank_behind
named_by_read_auto history k g b w l = refl

named_by_write_auto : (history : List Entry) (k g b w l : ℕ) → bank_behind (Pre k g b) history ≡ bank_behind (WrAuto k g b w l) history
unfolding bank_behind
named_by_write_auto history k g b w l = refl

-- each command in the geometry
pub may_told : (r : Readiness) (history : List Entry) (y : ℕ) (c : Command) → y < LAST_CYCLE → StandsFor r (rank_of c) history → is_in r.config.geometry c ≡ true → may_now r y c ≡ is_none (lowest_on_rank r.config history (entry y c))
may_told r history y (Act k g b w) below s placed =
    let t = r.config.timing in
    let group = group_in r.config.geometry (Act k g b w) placed in
    let bank = bank_in r.config.geometry (Act k g b w) placed in
    let opened = (s.banks g b group bank).opened ∙ named_by_act history k g b w in
    by_four _ _ y _ _ _ _ _ _ _ ((s.ready g b group bank).activate y below) (within_told y below t.faw _ ∙ faw_told r k history t y g b w s.activates) (idle_told t y below _) (ap (is_active t y) opened) (ap (is_auto_within t t.rp y) opened)
    ∙ sym (none_on_rank r.config history (entry y (Act k g b w)))
may_told r history y (Rd k g b w l) below s placed =
    let t = r.config.timing in
    let group = group_in r.config.geometry (Rd k g b w l) placed in
    let bank = bank_in r.config.geometry (Rd k g b w l) placed in
    by_row t _ y w _ _ _ _ ((s.ready g b group bank).read y below) ((s.banks g b group bank).opened ∙ named_by_read history k g b w l) (faw_untold t history y (Rd k g b w l) refl)
    ∙ sym (none_on_rank r.config history (entry y (Rd k g b w l)))
may_told r history y (Wr k g b w l) below s placed =
    let t = r.config.timing in
    let group = group_in r.config.geometry (Wr k g b w l) placed in
    let bank = bank_in r.config.geometry (Wr k g b w l) placed in
    by_row t _ y w _ _ _ _ ((s.ready g b group bank).write y below) ((s.banks g b group bank).opened ∙ named_by_write history k g b w l) (faw_untold t history y (Wr k g b w l) refl)
    ∙ sym (none_on_rank r.config history (entry y (Wr k g b w l)))
may_told r history y (RdAuto k g b w l) below s placed =
    let t = r.config.timing in
    let group = group_in r.config.geometry (RdAuto k g b w l) placed in
    let bank = bank_in r.config.geometry (RdAuto k g b w l) placed in
    by_row t _ y w _ _ _ _ ((s.ready g b group bank).read y below) ((s.banks g b group bank).opened ∙ named_by_read_auto history k g b w l) (faw_untold t history y (RdAuto k g b w l) refl)
    ∙ sym (none_on_rank r.config history (entry y (RdAuto k g b w l)))
may_told r history y (WrAuto k g b w l) below s placed =
    let t = r.config.timing in
    let group = group_in r.config.geometry (WrAuto k g b w l) placed in
    let bank = bank_in r.config.geometry (WrAuto k g b w l) placed in
    by_row t _ y w _ _ _ _ ((s.ready g b group bank).write y below) ((s.banks g b group bank).opened ∙ named_by_write_auto history k g b w l) (faw_untold t history y (WrAuto k g b w l) refl)
    ∙ sym (none_on_rank r.config history (entry y (WrAuto k g b w l)))
may_told r history y (Pre k g b) below s placed =
    let group = group_in r.config.geometry (Pre k g b) placed in
    let bank = bank_in r.config.geometry (Pre k g b) placed in
    by_one _ y _ _ ((s.ready g b group bank).precharge y below) (faw_untold r.config.timing history y (Pre k g b) refl)
    ∙ sym (none_on_rank r.config history (entry y (Pre k g b)))
may_told r history y (PreAll k) below s placed =
    by_one _ y _ _ (s.ready_all.precharge y below) (faw_untold r.config.timing history y (PreAll k) refl)
    ∙ sym (none_on_rank r.config history (entry y (PreAll k)))
may_told r history y (Refresh k) below s placed =
    let t = r.config.timing in
    by_three _ y _ _ _ _ _ _ (s.ready_all.refresh y below) (any_told r k history s (is_active t y)) (any_told r k history s (is_auto_within t t.rp y)) (faw_untold t history y (Refresh k) refl)
    ∙ sym (none_on_rank r.config history (entry y (Refresh k)))
