-- The first cycle that a rank tells is the one from which on the command keeps every distance.
use Rattle.std.proofs.Common.{◌≡◌, ℕ, ◌+◌, ◌<◌, ◌≤◌, max, Bool, true, false, ◌&&◌, ◌||◌, not, nat_le, nat_lt, List, [], ◌∷◌, Option, Some, None, is_none, refl, sym, ap, arith, ◌∙◌}
use Rattle.std.specs.List.{list_any}
use Rattle.std.proofs.lemmas.Bool.Decides.{nat_tests}
use Rattle.ddr_timing.specs.declared.timing.Timing.{Timing}
use Rattle.ddr_trace.specs.declared.bank.OpenBank.{OpenBank}
use Rattle.ddr_trace.specs.declared.command.Command.{Command}
use Rattle.ddr_trace.specs.declared.command.Command.TheVariants.{Act, Rd, Wr, RdAuto, WrAuto, Pre, PreAll, Refresh}
use Rattle.ddr_trace.specs.declared.command.Entry.{Entry}
use Rattle.ddr_trace.specs.Banks.{auto_start, is_auto_within, is_before_start}
use Rattle.ddr_trace.specs.Commands.{entry, rank_of}
use Rattle.ddr_trace.specs.Rules.{breaks_on_rank, is_in}
use Rattle.ddr_rank.proofs.DistanceLemmas.{fits_and_keeps, none_apart}
use Rattle.ddr_rank.proofs.FawLemmas.{faw_told, faw_untold}
use Rattle.ddr_rank.proofs.HeldLemmas.{below_max}
use Rattle.ddr_rank.proofs.OpenLemmas.{any_told}
use Rattle.ddr_trace.proofs.PlaceLemmas.{bank_in, group_in}
use Rattle.ddr_rank.proofs.RuleLemmas.{named_by_act}
use Rattle.ddr_rank.specs.declared.bank.Bank.{Bank}
use Rattle.ddr_rank.specs.Distances.{keeps_distances, state_fits}
use Rattle.ddr_rank.specs.First.{behind, behind_auto, behind_autos, behind_start, first_cycle}
use Rattle.ddr_rank.specs.Latest.{is_within}
use Rattle.ddr_rank.specs.Readiness.{Readiness}
use Rattle.ddr_rank.specs.Ready.{LAST_CYCLE, after}
use Rattle.ddr_rank.specs.Stands.{StandsFor, lowest_on_rank}

module _ (y : ℕ) (below : y < LAST_CYCLE) where
  pub within_told : (clocks : ℕ) (o : Option ℕ) → nat_lt y (behind clocks o) ≡ is_within clocks y o
  within_told clocks None = grind (arith, nat_tests)
  within_told clocks (Some at) = grind (arith, nat_tests)

  start_told : (t : Timing) (bank : OpenBank) (auto : Option Entry) → nat_lt y (behind_start t bank auto) ≡ is_before_start t t.rp y bank auto
  start_told t bank None = grind (arith, nat_tests)
  start_told t bank (Some auto) = at_start (auto_start t bank auto) t.rp
    where
      at_start : (n clocks : ℕ) → nat_lt y (after n clocks) ≡ nat_lt y (n + clocks)
      at_start n clocks = grind (arith, nat_tests)

  auto_told : (t : Timing) (o : Option OpenBank) → nat_lt y (behind_auto t o) ≡ is_auto_within t t.rp y o
  auto_told t None = grind (arith, nat_tests)
  auto_told t (Some bank) = start_told t bank bank.auto

  autos_told : (t : Timing) (banks : List Bank) → nat_lt y (behind_autos t banks) ≡ list_any (λ bank. is_auto_within t t.rp y bank.opened) banks
  autos_told t [] = grind (arith, nat_tests)
  autos_told t (bank ∷ banks) =
      below_max y (behind_auto t bank.opened) (behind_autos t banks)
      ∙ ap (λ w. w || nat_lt y (behind_autos t banks)) (auto_told t bank.opened)
      ∙ ap (λ w. is_auto_within t t.rp y bank.opened || w) (autos_told t banks)

not_below : (n y : ℕ) → nat_le n y ≡ not (nat_lt y n)
not_below n y = grind (arith, nat_tests)

three : (h u f : Bool) → (h || (u || f)) ≡ (h || (u || (f || false)))
three true u f = refl
three false true f = refl
three false false true = refl
three false false false = refl

by_three : (n a w y : ℕ) (h u f : Bool) → nat_lt y n ≡ h → nat_lt y a ≡ u → nat_lt y w ≡ f → not (h || (u || (f || false))) ≡ nat_le (max n (max a w)) y
by_three n a w y h u f held auto window =
    sym (not_below (max n (max a w)) y
    ∙ ap not (below_max y n (max a w) ∙ ap (λ x. nat_lt y n || x) (below_max y a w) ∙ rw (← held, ← auto, ← window) (three (nat_lt y n) (nat_lt y a) (nat_lt y w))))

by_one : (n y : ℕ) (h f : Bool) → nat_lt y n ≡ h → false ≡ f → not (h || (f || false)) ≡ nat_le n y
by_one n y h f held none = rw (← held, ← none) (sym (not_below n y ∙ ap not (alone (nat_lt y n))))
  where
    alone : (x : Bool) → x ≡ (x || (false || false))
    alone true = refl
    alone false = refl

by_two : (n a y : ℕ) (h f u : Bool) → nat_lt y n ≡ h → false ≡ f → nat_lt y a ≡ u → not (h || (f || (u || false))) ≡ nat_le (max n a) y
by_two n a y h f u held none auto =
    rw (← held, ← none, ← auto) (sym (not_below (max n a) y ∙ ap not (below_max y n a ∙ two (nat_lt y n) (nat_lt y a))))
  where
    two : (x z : Bool) → (x || z) ≡ (x || (false || (z || false)))
    two true z = refl
    two false true = refl
    two false false = refl

-- each command in the geometry
pub keeps_told : (r : Readiness) (history : List Entry) (y : ℕ) (c : Command) → y < LAST_CYCLE → StandsFor r (rank_of c) history → is_in r.config.geometry c ≡ true → keeps_distances r.config history (entry y c) ≡ nat_le (first_cycle r c) y
keeps_told r history y (Act k g b w) below s placed =
    let t = r.config.timing in
    let group = group_in r.config.geometry (Act k g b w) placed in
    let bank = bank_in r.config.geometry (Act k g b w) placed in
    let opened = (s.banks g b group bank).opened ∙ named_by_act history k g b w in
    none_apart r.config history (entry y (Act k g b w))
    ∙ by_three _ _ _ y _ _ _ ((s.ready g b group bank).activate y below) (auto_told y below t _ ∙ ap (is_auto_within t t.rp y) opened) (within_told y below t.faw _ ∙ faw_told r k history t y g b w s.activates)
keeps_told r history y (Rd k g b w l) below s placed =
    let group = group_in r.config.geometry (Rd k g b w l) placed in
    let bank = bank_in r.config.geometry (Rd k g b w l) placed in
    none_apart r.config history (entry y (Rd k g b w l))
    ∙ by_one _ y _ _ ((s.ready g b group bank).read y below) (faw_untold r.config.timing history y (Rd k g b w l) refl)
keeps_told r history y (Wr k g b w l) below s placed =
    let group = group_in r.config.geometry (Wr k g b w l) placed in
    let bank = bank_in r.config.geometry (Wr k g b w l) placed in
    none_apart r.config history (entry y (Wr k g b w l))
    ∙ by_one _ y _ _ ((s.ready g b group bank).write y below) (faw_untold r.config.timing history y (Wr k g b w l) refl)
keeps_told r history y (RdAuto k g b w l) below s placed =
    let group = group_in r.config.geometry (RdAuto k g b w l) placed in
    let bank = bank_in r.config.geometry (RdAuto k g b w l) placed in
    none_apart r.config history (entry y (RdAuto k g b w l))
    ∙ by_one _ y _ _ ((s.ready g b group bank).read y below) (faw_untold r.config.timing history y (RdAuto k g b w l) refl)
keeps_told r history y (WrAuto k g b w l) below s placed =
    let group = group_in r.config.geometry (WrAuto k g b w l) placed in
    let bank = bank_in r.config.geometry (WrAuto k g b w l) placed in
    none_apart r.config history (entry y (WrAuto k g b w l))
    ∙ by_one _ y _ _ ((s.ready g b group bank).write y below) (faw_untold r.config.timing history y (WrAuto k g b w l) refl)
keeps_told r history y (Pre k g b) below s placed =
    let group = group_in r.config.geometry (Pre k g b) placed in
    let bank = bank_in r.config.geometry (Pre k g b) placed in
    none_apart r.config history (entry y (Pre k g b))
    ∙ by_one _ y _ _ ((s.ready g b group bank).precharge y below) (faw_untold r.config.timing history y (Pre k g b) refl)
keeps_told r history y (PreAll k) below s placed =
    none_apart r.config history (entry y (PreAll k))
    ∙ by_one _ y _ _ (s.ready_all.precharge y below) (faw_untold r.config.timing history y (PreAll k) refl)
keeps_told r history y (Refresh k) below s placed =
    let t = r.config.timing in
    none_apart r.config history (entry y (Refresh k))
    ∙ by_two _ _ y _ _ _ (s.ready_all.refresh y below) (faw_untold t history y (Refresh k) refl) (autos_told y below t r.banks ∙ any_told r k history s (is_auto_within t t.rp y))

-- and from a cycle on
from_on : (n from y : ℕ) → from ≤ y → nat_le n y ≡ nat_le (max n from) y
from_on n from y begun = grind (arith, nat_tests)

pub allowed_told : (r : Readiness) (history : List Entry) (from y : ℕ) (c : Command) (first last : ℕ) → first ≡ first_cycle r c → last ≡ max first from → from ≤ y → y < LAST_CYCLE → StandsFor r (rank_of c) history → is_in r.config.geometry c ≡ true → keeps_distances r.config history (entry y c) ≡ nat_le last y
allowed_told r history from y c first last is latest begun below s placed =
    keeps_told r history y c below s placed ∙ ap (λ n. nat_le n y) (sym is) ∙ from_on first from y begun ∙ ap (λ n. nat_le n y) (sym latest)

pub legal_told : (r : Readiness) (history : List Entry) (from y : ℕ) (c : Command) (first last : ℕ) → first ≡ first_cycle r c → last ≡ max first from → from ≤ y → y < LAST_CYCLE → StandsFor r (rank_of c) history → is_in r.config.geometry c ≡ true → is_none (lowest_on_rank r.config history (entry y c)) ≡ (state_fits r.config history (entry y c) && nat_le last y)
legal_told r history from y c first last is latest begun below s placed =
    fits_and_keeps (λ q. breaks_on_rank r.config q history (entry y c))
    ∙ ap (λ w. state_fits r.config history (entry y c) && w) (allowed_told r history from y c first last is latest begun below s placed)
