-- The first cycles as a rank keeps them: those that reads and writes ask of each other for each group, and the rest for each bank.
use Rattle.std.specs.Prelude.{◌≡◌, ℕ, ◌<◌, ◌/◌, ◌%◌, ◌==◌, if◌then◌else◌, max, List, length, map, slice_index_or}
use Rattle.std.specs.List.{range_with_len}
use Rattle.ddr_timing.specs.declared.timing.Timing.{Timing}
use Rattle.ddr_timing.specs.declared.units.TheConstants.{GROUP_BANKS, MOST_GROUPS}
use Rattle.ddr_trace.specs.declared.command.Command.{Command}
use Rattle.ddr_trace.specs.declared.command.Command.TheVariants.{Act, Rd, Wr, RdAuto, WrAuto, Pre, PreAll, Refresh}
use Rattle.ddr_rank.specs.declared.ready.FirstCycles.{FirstCycles}
use Rattle.ddr_rank.specs.declared.ready.Ready.{Ready}
use Rattle.ddr_rank.specs.declared.ready.ReadyAll.{ReadyAll}
use Rattle.ddr_rank.specs.declared.ready.ReadyColumns.{ReadyColumns}
use Rattle.ddr_rank.specs.Ready.{OwnBank, OwnGroup, OtherGroup, all_raised, asked_by_activate, asked_by_precharge, asked_by_read, asked_by_refresh, asked_by_write, asked_of_all, free, raised}

-- nothing holds the reads and writes of a group up
abbrev pub columns_free : ReadyColumns
columns_free = record { read = 0; write = 0 }

abbrev pub columns_raised : ReadyColumns → ReadyColumns → ReadyColumns
columns_raised to columns = record { read = max columns.read to.read; write = max columns.write to.write }

-- the first cycles of a bank: a read and a write wait for what the bank and what its group keeps
abbrev pub joined : Ready → ReadyColumns → Ready
joined bank columns = record bank { read = max bank.read columns.read; write = max bank.write columns.write }

-- those of the bank with this number
abbrev pub joined_at : FirstCycles → ℕ → Ready
joined_at f number = joined (slice_index_or f.banks.items number free) (slice_index_or f.columns (number / GROUP_BANKS) columns_free)

-- those of all banks
abbrev pub ready_of : FirstCycles → List Ready
ready_of f = map (joined_at f) (range_with_len 0 (length f.banks.items))

-- by where a bank stands, seen from a command: its own bank, the others of its group, and those of the other groups
abbrev pub by_bank : ℕ → ℕ → Ready → Ready → Ready → ℕ → ℕ → Ready
by_bank group bank own_bank own_group other_groups g b = if group == g then (if bank == b then own_bank else own_group) else other_groups

abbrev pub by_group : ℕ → ReadyColumns → ReadyColumns → ℕ → ReadyColumns
by_group group own others g = if group == g then own else others

-- a read or a write asks of its bank the next precharge,
abbrev pub own_precharge : ℕ → ℕ → Ready → ℕ → ℕ → Ready
own_precharge group bank asked = by_bank group bank (record free { precharge = asked.precharge }) free free

-- and of its group and of the others the next reads and writes
abbrev pub columns_of : Ready → ReadyColumns
columns_of asked = record { read = asked.read; write = asked.write }

-- What a command asks of a bank, save what reads and writes ask of reads and writes,
abbrev pub asked_of_bank : Timing → ℕ → Command → ℕ → ℕ → Ready
asked_of_bank t cycle (Act rank group bank row) =
    by_bank group bank (asked_by_activate t OwnBank cycle) (asked_by_activate t OwnGroup cycle) (asked_by_activate t OtherGroup cycle)
asked_of_bank t cycle (Rd rank group bank row line) = own_precharge group bank (asked_by_read t OwnBank cycle)
asked_of_bank t cycle (Wr rank group bank row line) = own_precharge group bank (asked_by_write t OwnBank cycle)
asked_of_bank t cycle (RdAuto rank group bank row line) = own_precharge group bank (asked_by_read t OwnBank cycle)
asked_of_bank t cycle (WrAuto rank group bank row line) = own_precharge group bank (asked_by_write t OwnBank cycle)
asked_of_bank t cycle (Pre rank group bank) = by_bank group bank (asked_by_precharge t cycle) free free
asked_of_bank t cycle (PreAll rank) = λ g b. asked_by_precharge t cycle
asked_of_bank t cycle (Refresh rank) = λ g b. asked_by_refresh t cycle

-- and what reads and writes ask of those of a group.
abbrev pub asked_of_group : Timing → ℕ → Command → ℕ → ReadyColumns
asked_of_group t cycle (Rd rank group bank row line) = by_group group (columns_of (asked_by_read t OwnGroup cycle)) (columns_of (asked_by_read t OtherGroup cycle))
asked_of_group t cycle (Wr rank group bank row line) = by_group group (columns_of (asked_by_write t OwnGroup cycle)) (columns_of (asked_by_write t OtherGroup cycle))
asked_of_group t cycle (RdAuto rank group bank row line) = by_group group (columns_of (asked_by_read t OwnGroup cycle)) (columns_of (asked_by_read t OtherGroup cycle))
asked_of_group t cycle (WrAuto rank group bank row line) = by_group group (columns_of (asked_by_write t OwnGroup cycle)) (columns_of (asked_by_write t OtherGroup cycle))
asked_of_group t cycle c = λ g. columns_free

-- the first cycles, each raised to what is asked
pub record AreRaisedTo (banks : ℕ → ℕ → Ready) (columns : ℕ → ReadyColumns) (all : ReadyAll) (old new : FirstCycles) : Type 0 where
  pub size : length new.banks.items ≡ length old.banks.items
  pub of_banks : (number : ℕ) → number < length old.banks.items → slice_index_or new.banks.items number free ≡ raised (banks (number / GROUP_BANKS) (number % GROUP_BANKS)) (slice_index_or old.banks.items number free)
  pub of_columns : (group : ℕ) → group < MOST_GROUPS → slice_index_or new.columns group columns_free ≡ columns_raised (columns group) (slice_index_or old.columns group columns_free)
  pub of_all : new.all ≡ all_raised all old.all

-- to what a command asks
abbrev pub AreRaised : Timing → ℕ → Command → FirstCycles → FirstCycles → Type 0
AreRaised t cycle c = AreRaisedTo (asked_of_bank t cycle c) (asked_of_group t cycle c) (asked_of_all t cycle c)
