-- What statistics stand for: a history, whose numbers they are.
use Rattle.std.specs.Prelude.{◌≡◌, ℕ, ◌-◌, ◌*◌, ◌+◌, ◌^◌, ◌<◌, ◌≤◌, true, nat_lt, if◌then◌else◌, List, Option, None, Some, fold, length, slice_index_or, slice_set}
use Rattle.std.specs.List.{AllByRecursion}
use Rattle.ddr_timing.specs.declared.geometry.Geometry.{Geometry}
use Rattle.ddr_timing.specs.declared.timing.Timing.{Timing}
use Rattle.ddr_timing.specs.declared.units.TheConstants.{GROUP_BANKS, MOST_GROUPS, MOST_RANKS}
use Rattle.ddr_trace.specs.declared.bank.OpenBank.{OpenBank}
use Rattle.ddr_trace.specs.declared.command.Command.{Command}
use Rattle.ddr_trace.specs.declared.command.Command.TheVariants.{Pre}
use Rattle.ddr_trace.specs.declared.command.Entry.{Entry}
use Rattle.ddr_trace.specs.Banks.{any_bank, bank_behind, is_active}
use Rattle.ddr_trace.specs.Commands.{rank_of}
use Rattle.ddr_statistics.specs.declared.background.Activity.{Activity}
use Rattle.ddr_statistics.specs.declared.background.Background.{Background}
use Rattle.ddr_statistics.specs.declared.bank.Bank.{Bank}
use Rattle.ddr_statistics.specs.declared.counts.Finding.{Finding}
use Rattle.ddr_statistics.specs.declared.debt.Debt.{Debt}
use Rattle.ddr_statistics.specs.declared.rank.Rank.{Rank}
use Rattle.ddr_statistics.specs.declared.rank.TheConstants.{MOST_BANKS}
use Rattle.ddr_statistics.specs.declared.turns.Turns.{Turns}
use Rattle.ddr_statistics.specs.Background.{active_clocks, is_within_refresh, refresh_clocks}
use Rattle.ddr_statistics.specs.Counts.{counts_of, is_any, is_of_one, is_of_rank}
use Rattle.ddr_statistics.specs.Debts.{IsInOrder}
use Rattle.ddr_statistics.specs.Noted.{auto_until, background_noted, bank_at, counts_noted, debt_noted, found_in, new_background, new_rank, no_activity, no_debt, rank_noted, turns_noted}
use Rattle.ddr_statistics.specs.Tally.{Tally}
use Rattle.ddr_statistics.specs.Turns.{last_column, rank_switches, turn_rounds}
use Rattle.ddr_statistics.specs.Visits.{visit_behind}

abbrev pub rank_at : Tally → ℕ → Rank
rank_at tally rank = slice_index_or tally.ranks rank new_rank

-- a bank after a history
abbrev pub bank_of_history : ℕ → ℕ → ℕ → List Entry → Bank
bank_of_history rank group bank history = record {
  visit = visit_behind rank group bank history;
  counts = counts_of (is_of_one rank group bank) history;
}

pub record KeepsRank (rank : ℕ) (history : List Entry) (kept : Rank) : Type 0 where
  pub counts : kept.counts ≡ counts_of (is_of_rank rank) history
  pub size : length kept.banks ≡ MOST_BANKS
  pub banks : (group bank : ℕ) → group < MOST_GROUPS → bank < GROUP_BANKS → bank_at kept group bank ≡ bank_of_history rank group bank history

abbrev pub turns_of : List Entry → Turns
turns_of history = record { last = last_column history; turn_rounds = turn_rounds history; rank_switches = rank_switches history }

abbrev pub debt_at : Tally → ℕ → Debt
debt_at tally rank = slice_index_or tally.debts rank no_debt

-- the refreshes of a rank after a history
unfoldable pub debt_behind : ℕ → ℕ → ℕ → List Entry → Debt
debt_behind refi start rank history =
    fold (λ debt e. if is_of_rank rank e.command then debt_noted refi start e debt else debt) no_debt history

abbrev pub background_at : Tally → ℕ → Background
background_at tally rank = slice_index_or tally.backgrounds rank (new_background tally.start)

-- when a bank is active that the history made so
abbrev pub until_of : Timing → OpenBank → Option Entry → ℕ
until_of t bank None = 2 ^ 64 - 1
until_of t bank (Some auto) = auto_until t bank.since auto

abbrev pub activity_of : Timing → Option OpenBank → Activity
activity_of t None = no_activity
activity_of t (Some bank) = record { since = bank.since; until = until_of t bank bank.auto }

-- the clocks that are counted, where cycles rise
pub record HasCounted (t : Timing) (g : Geometry) (start rank : ℕ) (history : List Entry) (kept : Background) : Type 0 where
  pub active : kept.active ≡ active_clocks t g start kept.counted_to rank history
  pub refresh : kept.refresh ≡ refresh_clocks t g start kept.counted_to rank history

-- what is kept of a rank's clocks after a history
pub record KeepsBackground (t : Timing) (g : Geometry) (start rank : ℕ) (history : List Entry) (kept : Background) : Type 0 where
  pub size : length kept.banks ≡ MOST_BANKS
  pub banks : (group bank : ℕ) → group < MOST_GROUPS → bank < GROUP_BANKS
      → slice_index_or kept.banks (group * GROUP_BANKS + bank) no_activity ≡ activity_of t (bank_behind (Pre rank group bank) history)
  pub active_until : (cycle : ℕ) → cycle < 2 ^ 64 - 1 → nat_lt cycle kept.active_until ≡ any_bank g rank (λ bank. is_active t cycle (bank_behind bank history))
  pub refresh_until : (cycle : ℕ) → cycle < 2 ^ 64 - 1 → nat_lt cycle kept.refresh_until ≡ is_within_refresh t rank history cycle
  -- counted to the last command of the rank
  pub from_start : start ≤ kept.counted_to
  pub behind : AllByRecursion (λ e. is_of_rank rank e.command ≡ true → e.cycle ≤ kept.counted_to) history
  pub below : (end : ℕ) → IsInOrder end history → start < kept.counted_to → kept.counted_to < end
  pub counted : IsInOrder (2 ^ 64 - 1) history → HasCounted t g start rank history kept

-- the statistics after a command that found its bank so, but for the refreshes that are owed and the clocks of ranks
abbrev pub counted : Command → Option Finding → Tally → Tally
counted command found tally = record tally {
  total = counts_noted command found tally.total;
  ranks = slice_set tally.ranks (rank_of command) (rank_noted command found (rank_at tally (rank_of command)));
  turns = turns_noted command tally.turns;
}

-- with the refreshes
abbrev pub owed : Entry → Tally → Tally
owed e tally = record tally {
  debts = slice_set tally.debts (rank_of e.command) (debt_noted tally.timing.refi tally.start e (debt_at tally (rank_of e.command)));
}

-- and with the clocks
abbrev pub clocked : Entry → Tally → Tally
clocked e tally = record tally {
  backgrounds = slice_set tally.backgrounds (rank_of e.command) (background_noted tally.timing tally.geometry e (background_at tally (rank_of e.command)));
}

-- the statistics after the next command
abbrev pub noted : Entry → Tally → Tally
noted e tally = clocked e (owed e (counted e.command (found_in (rank_at tally (rank_of e.command)) e.command) tally))

pub record StandsFor (tally : Tally) (history : List Entry) : Type 0 where
  pub total : tally.total ≡ counts_of is_any history
  pub size : length tally.ranks ≡ MOST_RANKS
  pub ranks : (rank : ℕ) → rank < MOST_RANKS → KeepsRank rank history (rank_at tally rank)
  pub debts_size : length tally.debts ≡ MOST_RANKS
  pub debts : (rank : ℕ) → rank < MOST_RANKS → debt_at tally rank ≡ debt_behind tally.timing.refi tally.start rank history
  pub backgrounds_size : length tally.backgrounds ≡ MOST_RANKS
  pub backgrounds : (rank : ℕ) → rank < MOST_RANKS → KeepsBackground tally.timing tally.geometry tally.start rank history (background_at tally rank)
  pub turns : tally.turns ≡ turns_of history
