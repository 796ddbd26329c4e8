-- The bank of an ACT keeps its row until a command closes it.
use Rattle.std.proofs.Common.{◌≡◌, ℕ, ◌+◌, ◌-◌, ◌<◌, ◌≤◌, ◌^◌, Bool, true, false, ◌&&◌, ◌||◌, cond, List, [], ◌∷◌, ◌++◌, Option, Some, None, refl, sym, ap, ◌∙◌, arith, inl, inr}
use Rattle.std.specs.Prelude.{nat_le, min, max}
use Rattle.std.specs.List.{fold}
use Rattle.std.proofs.lemmas.Bool.{cond-true, cond-false, cases_Bool}
use Rattle.std.proofs.lemmas.Bool.Decides.{nat_tests}
use Rattle.std.proofs.lemmas.List.{append-nil}
use Rattle.std.proofs.lemmas.List.Sums.{fold-append}
use Rattle.ddr_timing.specs.declared.timing.Timing.{Timing}
use Rattle.ddr_trace.specs.declared.bank.OpenBank.{OpenBank}
use Rattle.ddr_trace.specs.declared.command.Command.{Command}
use Rattle.ddr_trace.specs.declared.command.Command.TheVariants.{Act, Rd, Wr, RdAuto, WrAuto, Pre, PreAll, Refresh}
use Rattle.ddr_trace.specs.declared.command.Entry.{Entry}
use Rattle.ddr_trace.specs.Banks.{bank_after, bank_behind, open_row, opened, recovery}
use Rattle.ddr_trace.specs.Commands.{is_activate, is_auto, is_precharge, is_same_bank, row_of}
use Rattle.ddr_draw.specs.Changes.{closed_by, is_closing, next_closing}
use Rattle.ddr_draw.specs.Names.{after}
use Rattle.ddr_draw.specs.Rows.{Closes, StaysOpen}

kept_cond : {X : Type 0} (same act pre auto : Bool) (x y z w : X) → (same && (act || pre || auto)) ≡ false → cond same (cond act x (cond pre y (cond auto z w))) w ≡ w
kept_cond false act pre auto x y z w h = refl
kept_cond true true pre auto x y z w h = absurd cc
kept_cond true false true auto x y z w h = absurd cc
kept_cond true false false true x y z w h = absurd cc
kept_cond true false false false x y z w h = refl

-- a command that closes nothing leaves the bank as it is
kept_by : (act : Command) (bank : Option OpenBank) (e : Entry) → is_closing act e.command ≡ false → bank_after act bank e ≡ bank
kept_by act bank e not_closing = kept_cond (is_same_bank e.command act) (is_activate e.command) (is_precharge e.command) (is_auto e.command) _ _ _ _ not_closing

kept : (act : Command) (bank : Option OpenBank) (later : List Entry) → next_closing act later ≡ None → fold (bank_after act) bank later ≡ bank
kept act bank [] none = refl
kept act bank (e ∷ later) none =
    elim (cases_Bool (is_closing act e.command)) [
      | inl ends ↦ absurd (let found = sym (cond-true _ _ _ ends) ∙ none in cc)
      | inr stays ↦ ap (λ b. fold (bank_after act) b later) (kept_by act bank e stays) ∙ kept act bank later (sym (cond-false _ _ _ stays) ∙ none)
    ]

-- an ACT opens its own bank
own_bank : (act : Command) → is_same_bank act act ≡ true
own_bank act = grind (arith, nat_tests)

opened_by : (act : Entry) (bank : Option OpenBank) → is_activate act.command ≡ true → bank_after act.command bank act ≡ Some (opened act)
opened_by act bank activates = cond-true _ _ _ (own_bank act.command) ∙ cond-true _ _ _ activates

-- what the ACT opened, and what the rest makes of it
behind : (before : List Entry) (act : Entry) (later rest : List Entry) → is_activate act.command ≡ true → next_closing act.command later ≡ None
    → bank_behind act.command (before ++ act ∷ (later ++ rest)) ≡ fold (bank_after act.command) (Some (opened act)) rest
unfolding bank_behind
behind before act later rest activates none =
    let f = bank_after act.command in
    fold-append f None before (act ∷ (later ++ rest))
    ∙ ap (λ b. fold f b (later ++ rest)) (opened_by act (fold f None before) activates)
    ∙ fold-append f (Some (opened act)) later rest
    ∙ ap (λ b. fold f b rest) (kept act.command (Some (opened act)) later none)

pub stays_open : (t : Timing) (before : List Entry) (act : Entry) (later : List Entry) → StaysOpen t before act later
stays_open t before act later activates none cycle =
    ap (λ entries. open_row t cycle (bank_behind act.command (before ++ act ∷ entries))) (sym (append-nil later))
    ∙ ap (open_row t cycle) (behind before act later [] activates none)

precharge_no_auto : (command : Command) → is_precharge command ≡ true → is_auto command ≡ false
precharge_no_auto (Pre rank group bank) h = refl
precharge_no_auto (PreAll rank) h = refl
precharge_no_auto (Act rank group bank row) h = absurd cc
precharge_no_auto (Rd rank group bank row line) h = absurd cc
precharge_no_auto (Wr rank group bank row line) h = absurd cc
precharge_no_auto (RdAuto rank group bank row line) h = absurd cc
precharge_no_auto (WrAuto rank group bank row line) h = absurd cc
precharge_no_auto (Refresh rank) h = absurd cc

closing_parts : (same act pre auto : Bool) → (same && (act || pre || auto)) ≡ true → act ≡ false → (same ≡ true) × (pre ≡ false → auto ≡ true)
closing_parts false act pre auto h none = absurd cc
closing_parts true true pre auto h none = absurd cc
closing_parts true false true auto h none = (refl, λ h2. absurd cc)
closing_parts true false false true h none = (refl, λ h2. refl)
closing_parts true false false false h none = absurd cc

-- cycles below the last agree on what comes later
le_same : (m n k last : ℕ) → k < last → nat_le (max m n) k ≡ nat_le (max (min m last) (min n last)) k
le_same m n k last below = grind (arith, nat_tests)

le_true : (m n : ℕ) → m ≤ n → nat_le m n ≡ true
le_true m n h = grind (arith, nat_tests)

pub closes : (t : Timing) (before : List Entry) (act : Entry) (later : List Entry) (e : Entry) → Closes t before act later e
closes t before act later e activates none is_closed no_act cycle from below =
    let parts = closing_parts (is_same_bank e.command act.command) (is_activate e.command) (is_precharge e.command) (is_auto e.command) is_closed no_act in
    let bank = behind before act later (e ∷ []) activates none ∙ cond-true _ _ _ parts.0 ∙ cond-false _ _ _ no_act in
    elim (cases_Bool (is_precharge e.command)) [
      | inl pre ↦
          let at : closed_by t act e ≡ e.cycle = cond-false _ _ _ (precharge_no_auto e.command pre) in
          ap (open_row t cycle) (bank ∙ cond-true _ _ _ pre)
          ∙ sym (cond-true _ _ _ (ap (λ n. nat_le n cycle) at ∙ le_true e.cycle cycle from))
      | inr none_pre ↦
          let auto = parts.1 none_pre in
          let at : closed_by t act e ≡ max (after e.cycle (recovery t e.command)) (after act.cycle t.ras) = cond-true _ _ _ auto in
          ap (open_row t cycle) (bank ∙ cond-false _ _ _ none_pre ∙ cond-true _ _ _ auto)
          ∙ ap (λ b. cond b None (Some (row_of act.command)))
          (le_same (e.cycle + recovery t e.command) (act.cycle + t.ras) cycle (2 ^ 64 - 1) below ∙ sym (ap (λ n. nat_le n cycle) at))
    ]
