-- Kinds of commands, and which banks two commands share.
use Rattle.std.specs.Prelude.{ℕ, Bool, true, false, ◌&&◌, ◌||◌, not, ◌==◌}
use Rattle.ddr_trace.specs.declared.command.Command.{Command}
use Rattle.ddr_trace.specs.declared.command.Entry.{Entry}
use Rattle.ddr_trace.specs.declared.command.Command.TheVariants.{Act, Rd, Wr, RdAuto, WrAuto, Pre, PreAll, Refresh}

-- the command on the bus in that cycle
abbrev pub entry : ℕ → Command → Entry
entry cycle command = record { cycle = cycle; command = command }

abbrev pub is_activate : Command → Bool
is_activate (Act rank group bank row) = true
is_activate _ = false

-- RD, and RDA, which starts its bank's precharge by itself
abbrev pub is_read : Command → Bool
is_read (Rd rank group bank row line) = true
is_read (RdAuto rank group bank row line) = true
is_read _ = false

-- WR and WRA
abbrev pub is_write : Command → Bool
is_write (Wr rank group bank row line) = true
is_write (WrAuto rank group bank row line) = true
is_write _ = false

-- a read or a write with auto-precharge
abbrev pub is_auto : Command → Bool
is_auto (RdAuto rank group bank row line) = true
is_auto (WrAuto rank group bank row line) = true
is_auto _ = false

-- a column command: a read or a write
abbrev pub is_column : Command → Bool
is_column command = is_read command || is_write command

-- a precharge of one bank or of all
abbrev pub is_precharge : Command → Bool
is_precharge (Pre rank group bank) = true
is_precharge (PreAll rank) = true
is_precharge _ = false

abbrev pub is_refresh : Command → Bool
is_refresh (Refresh rank) = true
is_refresh _ = false

-- two reads, or two writes
abbrev pub is_same_kind : Command → Command → Bool
is_same_kind a b = (is_read a && is_read b) || (is_write a && is_write b)

abbrev pub rank_of : Command → ℕ
rank_of (Act rank group bank row) = rank
rank_of (Rd rank group bank row line) = rank
rank_of (Wr rank group bank row line) = rank
rank_of (RdAuto rank group bank row line) = rank
rank_of (WrAuto rank group bank row line) = rank
rank_of (Pre rank group bank) = rank
rank_of (PreAll rank) = rank
rank_of (Refresh rank) = rank

-- the bank group, where the command names one
abbrev pub group_of : Command → ℕ
group_of (Act rank group bank row) = group
group_of (Rd rank group bank row line) = group
group_of (Wr rank group bank row line) = group
group_of (RdAuto rank group bank row line) = group
group_of (WrAuto rank group bank row line) = group
group_of (Pre rank group bank) = group
group_of _ = 0

-- the bank in its group, where the command names one
abbrev pub bank_of : Command → ℕ
bank_of (Act rank group bank row) = bank
bank_of (Rd rank group bank row line) = bank
bank_of (Wr rank group bank row line) = bank
bank_of (RdAuto rank group bank row line) = bank
bank_of (WrAuto rank group bank row line) = bank
bank_of (Pre rank group bank) = bank
bank_of _ = 0

-- the row, where the command names one
abbrev pub row_of : Command → ℕ
row_of (Act rank group bank row) = row
row_of (Rd rank group bank row line) = row
row_of (Wr rank group bank row line) = row
row_of (RdAuto rank group bank row line) = row
row_of (WrAuto rank group bank row line) = row
row_of _ = 0

-- the command is of every bank of its rank
abbrev pub is_of_all_banks : Command → Bool
is_of_all_banks (PreAll rank) = true
is_of_all_banks _ = false

abbrev pub is_same_rank : Command → Command → Bool
is_same_rank a b = rank_of a == rank_of b

abbrev pub is_same_group : Command → Command → Bool
is_same_group a b = is_same_rank a b && group_of a == group_of b

abbrev pub is_other_group : Command → Command → Bool
is_other_group a b = is_same_rank a b && not (group_of a == group_of b)

-- a precharge of all banks is a precharge of every bank
abbrev pub is_same_bank : Command → Command → Bool
is_same_bank a b = is_same_rank a b && (is_of_all_banks a || is_of_all_banks b || (group_of a == group_of b && bank_of a == bank_of b))

abbrev pub is_other_bank : Command → Command → Bool
is_other_bank a b = is_same_group a b && not (bank_of a == bank_of b)
