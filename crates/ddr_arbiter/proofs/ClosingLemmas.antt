-- A PRE that is legal finds no bank that an auto-precharge is still to close: by the rules from the ACT and from the read or
-- write it may come only once the auto-precharge has started.
use Rattle.std.proofs.Common.{◌≡◌, ℕ, ◌+◌, ◌≤◌, Bool, true, false, ◌&&◌, cond, ltb, List, [], ◌∷◌, Option, Some, None, option_map, refl, ap, arith}
use Rattle.std.specs.List.{fold, list_any}
use Rattle.std.proofs.lemmas.Bool.{le-leb, ltb-false, or_parts}
use Rattle.ddr_timing.specs.declared.timing.Timing.{Timing}
use Rattle.ddr_trace.specs.declared.bank.OpenBank.{OpenBank}
use Rattle.ddr_trace.specs.declared.command.Command.{Command}
use Rattle.ddr_trace.specs.declared.command.Command.TheVariants.{Act, Rd, Wr, RdAuto, WrAuto, Pre, PreAll, Refresh}
use Rattle.ddr_trace.specs.declared.command.Entry.{Entry}
use Rattle.ddr_trace.specs.declared.rule.Rule.TheVariants as rule
use Rattle.ddr_trace.specs.Banks.{auto_start, bank_after, bank_behind, changed_by, closing, open_row, ready_row, recovery, row_until, row_without}
use Rattle.ddr_trace.specs.Commands.{entry, is_activate, is_auto, is_precharge, is_read, is_same_bank, is_write}
use Rattle.ddr_trace.specs.Rules.{is_too_close, spacing_of}
use Rattle.ddr_legality.specs.Bus.{Bus, is_legal_now}
use Rattle.ddr_address_map.specs.declared.place.Place.{Place}
use Rattle.ddr_arbiter.specs.Choice.{open_row_at}
use Rattle.ddr_arbiter.specs.Commands.{precharge_at}
use Rattle.ddr_arbiter.proofs.CommandLemmas.{legal_keeps}

-- the read or write with auto-precharge, if there is one, allows a precharge in the cycle,
abbrev AutoAllows : Timing → ℕ → Option Entry → Type 0
AutoAllows t y None = Unit {0}
AutoAllows t y (Some e) = e.cycle + recovery t e.command ≤ y

-- and so does the ACT
abbrev Allows : Timing → ℕ → Option OpenBank → Type 0
Allows t y None = Unit {0}
Allows t y (Some bank) = (bank.since + t.ras ≤ y) × AutoAllows t y bank.auto

-- so its auto-precharge has started
open_is_ready : (t : Timing) (y : ℕ) (o : Option OpenBank) → Allows t y o → open_row t y o ≡ ready_row o
open_is_ready t y None allows = refl
open_is_ready t y (Some bank) allows = by_auto bank.auto allows.1
  where
    by_auto : (auto : Option Entry) → AutoAllows t y auto → row_until t y bank auto ≡ row_without bank auto
    by_auto None behind = refl
    by_auto (Some e) behind =
        let started : auto_start t bank e ≤ y = omega (arith, allows.0, behind) in
        rw (le-leb (auto_start t bank e) y started) refl

-- a pair of a rule that keeps its distance
far : (x same : Bool) (y m : ℕ) → (((x && true) && same) && ltb y m) ≡ false → x ≡ true → same ≡ true → m ≤ y
far true true y m kept is_x is_same = ltb-false y m kept
far true false y m kept is_x is_same = cc
far false same y m kept is_x is_same = cc

-- the two rules from a bank's commands that a PRE keeps, and the one from its ACT
abbrev KeepsFrom : Timing → Entry → Entry → Type 0
KeepsFrom t a e = (is_too_close (spacing_of t rule.Ras) a e ≡ false) × (is_too_close (spacing_of t rule.Rtp) a e ≡ false) × (is_too_close (spacing_of t rule.Wr) a e ≡ false)

closing_allows : (t : Timing) (y : ℕ) (a : Entry) (o : Option OpenBank) → Allows t y o → a.cycle + recovery t a.command ≤ y → Allows t y (option_map {T = OpenBank} (closing a) o)
closing_allows t y a None allows behind = tt
closing_allows t y a (Some bank) allows behind = (allows.0, behind)

module _ (t : Timing) (p : Place) (y : ℕ) where
  allows_after : (o : Option OpenBank) (a : Entry) → KeepsFrom t a (entry y (precharge_at p)) → Allows t y o → Allows t y (bank_after (precharge_at p) o a)
  allows_after o a keeps allows = by_bank (is_same_bank a.command (precharge_at p)) refl
    where
      by_command : (c : Command) → a.command ≡ c → is_same_bank a.command (precharge_at p) ≡ true → Allows t y (changed_by a o)
      by_command (Act rank group bank row) e same =
          let behind : a.cycle + t.ras ≤ y = far (is_activate a.command) (is_same_bank a.command (precharge_at p)) y (a.cycle + t.ras) keeps.0 (ap is_activate e) same in
          rw e (behind, tt)
      by_command (Pre rank group bank) e same = rw e tt
      by_command (PreAll rank) e same = rw e tt
      by_command (RdAuto rank group bank row line) e same =
          let behind : a.cycle + t.rtp ≤ y = far (is_read a.command) (is_same_bank a.command (precharge_at p)) y (a.cycle + t.rtp) keeps.1 (ap is_read e) same in
          let recovered : a.cycle + recovery t a.command ≤ y = rw e behind in
          let closes = closing_allows t y a o allows recovered in
          rw (ap is_activate e, ap is_precharge e, ap is_auto e) closes
      by_command (WrAuto rank group bank row line) e same =
          let behind : a.cycle + (t.cwl + 4 + t.wr) ≤ y = far (is_write a.command) (is_same_bank a.command (precharge_at p)) y (a.cycle + (t.cwl + 4 + t.wr)) keeps.2 (ap is_write e) same in
          let recovered : a.cycle + recovery t a.command ≤ y = rw e behind in
          let closes = closing_allows t y a o allows recovered in
          rw (ap is_activate e, ap is_precharge e, ap is_auto e) closes
      by_command (Rd rank group bank row line) e same = rw e allows
      by_command (Wr rank group bank row line) e same = rw e allows
      by_command (Refresh rank) e same = rw e allows

      by_bank : (w : Bool) → is_same_bank a.command (precharge_at p) ≡ w → Allows t y (cond (is_same_bank a.command (precharge_at p)) (changed_by a o) o)
      by_bank true e = let changed = by_command a.command refl e in rw e changed
      by_bank false e = rw e allows

  allows_fold : (o : Option OpenBank) (history : List Entry) → list_any (λ a. is_too_close (spacing_of t rule.Ras) a (entry y (precharge_at p))) history ≡ false →
      list_any (λ a. is_too_close (spacing_of t rule.Rtp) a (entry y (precharge_at p))) history ≡ false → list_any (λ a. is_too_close (spacing_of t rule.Wr) a (entry y (precharge_at p))) history ≡ false →
      Allows t y o → Allows t y (fold (bank_after (precharge_at p)) o history)
  allows_fold o [] ras rtp wr allows = allows
  allows_fold o (a ∷ later) ras rtp wr allows =
      let by_ras = or_parts _ _ ras in
      let by_rtp = or_parts _ _ rtp in
      let by_wr = or_parts _ _ wr in
      allows_fold (bank_after (precharge_at p) o a) later by_ras.1 by_rtp.1 by_wr.1 (allows_after o a (by_ras.0, by_rtp.0, by_wr.0) allows)

pub closed_when_legal : (b : Bus) (p : Place) → is_legal_now b (precharge_at p) ≡ true → open_row_at b p ≡ ready_row (bank_behind (precharge_at p) b.trace)
unfolding bank_behind
closed_when_legal b p legal =
    let keeps = legal_keeps b (precharge_at p) legal in
    open_is_ready b.config.timing b.now (fold (bank_after (precharge_at p)) None b.trace)
    (allows_fold b.config.timing p b.now None b.trace (keeps rule.Ras refl) (keeps rule.Rtp refl) (keeps rule.Wr refl) tt)
