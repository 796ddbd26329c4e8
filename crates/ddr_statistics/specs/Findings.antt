-- How a read or a write finds its bank, told by looking back in the history.
use Rattle.std.specs.Prelude.{◌≡◌, ℕ, Bool, true, false, ◌&&◌, ◌||◌, ◌==◌, if◌then◌else◌, List, ◌∷◌, ◌++◌, count_by, Some}
use Rattle.std.specs.List.{AllByRecursion}
use Rattle.ddr_trace.specs.declared.command.Command.{Command}
use Rattle.ddr_trace.specs.declared.command.Entry.{Entry}
use Rattle.ddr_trace.specs.Commands.{is_activate, is_auto, is_column, is_precharge}
use Rattle.ddr_trace.specs.Rules.{some_earlier}
use Rattle.ddr_statistics.specs.declared.counts.Finding.TheVariants.{Miss, Conflict}
use Rattle.ddr_statistics.specs.Counts.{is_pre}
use Rattle.ddr_statistics.specs.Visits.{is_at, is_hit, visit_behind}

-- the bank had a read or a write, and no ACT since
abbrev pub is_visited : ℕ → ℕ → ℕ → List Entry → Bool
is_visited rank group bank history = some_earlier (λ a since.
    is_column a.command && is_at rank group bank a.command
    && count_by (λ m. is_activate m.command && is_at rank group bank m.command) since == 0) history

-- PRE, PREA and auto-precharge
abbrev pub closes : Command → Bool
closes command = is_precharge command || is_auto command

-- the bank had a PRE, and nothing since that closes it
abbrev pub is_closed_by_pre : ℕ → ℕ → ℕ → List Entry → Bool
is_closed_by_pre rank group bank history = some_earlier (λ a since.
    is_pre a.command && is_at rank group bank a.command
    && count_by (λ m. closes m.command && is_at rank group bank m.command) since == 0) history

-- no ACT, no read and no write of the bank
abbrev pub LeavesBank : ℕ → ℕ → ℕ → Entry → Type 0
LeavesBank rank group bank e = ((is_activate e.command || is_column e.command) && is_at rank group bank e.command) ≡ false

-- A read or a write of the bank is a hit exactly where it is not the first since the bank's last ACT; the first one behind an
-- ACT is a conflict where a PRE closed the bank last before that ACT, else a miss.
pub record LooksBack (rank group bank : ℕ) (history : List Entry) : Type 0 where
  pub hit : is_hit (Some (visit_behind rank group bank history).next) ≡ is_visited rank group bank history
  pub first : (act : Entry) (since : List Entry) → is_activate act.command ≡ true → is_at rank group bank act.command ≡ true → AllByRecursion (LeavesBank rank group bank) since
      → (visit_behind rank group bank (history ++ act ∷ since)).next ≡ (if is_closed_by_pre rank group bank history then Conflict else Miss)
