-- What the history of a bank says of its open row.
use Rattle.std.proofs.Common.{◌≡◌, ℕ, Bool, true, false, ◌&&◌, ◌||◌, cond, List, Option, Some, None, refl, ap}
use Rattle.std.specs.Option.{is_none, is_some, option_map}
use Rattle.std.proofs.lemmas.Bool.{eqb-true, true≢false}
use Rattle.ddr_timing.specs.declared.timing.Timing.{Timing}
use Rattle.ddr_trace.specs.declared.bank.OpenBank.{OpenBank}
use Rattle.ddr_trace.specs.declared.command.Command.TheVariants.{Act, Pre}
use Rattle.ddr_trace.specs.declared.command.Entry.{Entry}
use Rattle.ddr_trace.specs.Banks.{bank_after, bank_behind, closing, is_row, open_row, opened, ready_row, row_until, row_without}
use Rattle.ddr_trace.specs.Commands.{is_activate, is_auto, is_precharge, is_same_bank, row_of}
use Rattle.ddr_channel.specs.Issue.{row_after}

-- an ACT is of the bank that it names
pub activate_bank : (rank group bank row : ℕ) (trace : List Entry) → bank_behind (Act rank group bank row) trace ≡ bank_behind (Pre rank group bank) trace
unfolding bank_behind
activate_bank rank group bank row trace = refl

-- an idle bank is ready for no row
pub idle_not_ready : (t : Timing) (cycle : ℕ) (bank : Option OpenBank) → is_some (open_row t cycle bank) ≡ false → ready_row bank ≡ None
idle_not_ready t cycle None idle = refl
idle_not_ready t cycle (Some bank) idle = by_auto bank.auto idle
  where
    by_auto : (auto : Option Entry) → is_some (row_until t cycle bank auto) ≡ false → row_without bank auto ≡ None
    by_auto None active = absurd (true≢false active)
    by_auto (Some auto) closed = refl

-- a bank that is ready, and open with a row, is ready for that row
pub ready_for : (t : Timing) (cycle row : ℕ) (bank : Option OpenBank) → is_none (ready_row bank) ≡ false → is_row (open_row t cycle bank) row ≡ true → ready_row bank ≡ Some row
ready_for t cycle row None ready on_row = absurd (true≢false ready)
ready_for t cycle row (Some bank) ready on_row = by_auto bank.auto ready on_row
  where
    by_auto : (auto : Option Entry) → is_none (row_without bank auto) ≡ false → is_row (row_until t cycle bank auto) row ≡ true → row_without bank auto ≡ Some row
    by_auto None ready on_row = ap Some (eqb-true bank.row row on_row)
    by_auto (Some auto) ready on_row = absurd (true≢false ready)

-- the row that a bank is ready for after a command
ready_by : (e : Entry) (bank : Option OpenBank) (acts precharges closes same : Bool) →
    ready_row (cond same (cond acts (Some (opened e)) (cond precharges None (cond closes (option_map {T = OpenBank} (closing e) bank) bank))) bank)
    ≡ cond (acts && same) (Some (row_of e.command)) (cond ((precharges || closes) && same) None (ready_row bank))
ready_by e bank true precharges closes true = refl
ready_by e bank false true closes true = refl
ready_by e None false false true true = refl
ready_by e (Some bank) false false true true = refl
ready_by e bank false false false true = refl
ready_by e bank true true closes false = refl
ready_by e bank true false true false = refl
ready_by e bank true false false false = refl
ready_by e bank false true closes false = refl
ready_by e bank false false true false = refl
ready_by e bank false false false false = refl

pub ready_after : (rank group bank : ℕ) (before : Option OpenBank) (e : Entry) → ready_row (bank_after (Pre rank group bank) before e) ≡ row_after rank group bank e.command (ready_row before)
ready_after rank group bank before e = ready_by e before (is_activate e.command) (is_precharge e.command) (is_auto e.command) (is_same_bank e.command (Pre rank group bank))
