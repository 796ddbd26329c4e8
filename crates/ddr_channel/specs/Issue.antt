-- The command of a cycle: what it needs, and what it makes of the open rows and of the refreshes.
use Rattle.std.specs.Prelude.{◌≡◌, ℕ, ◌≤◌, ◌<◌, ◌&&◌, ◌||◌, ◌==◌, if◌then◌else◌, Option, Some, None, IsTrue}
use Rattle.ddr_timing.specs.declared.geometry.Geometry.{Geometry}
use Rattle.ddr_timing.specs.declared.units.TheConstants.{GROUP_BANKS}
use Rattle.ddr_timing.specs.Banks.{bank_number}
use Rattle.ddr_trace.specs.declared.command.Command.{Command}
use Rattle.ddr_trace.specs.declared.command.Command.TheVariants.{Act, RdAuto, WrAuto, Pre}
use Rattle.ddr_trace.specs.Commands.{is_activate, is_auto, is_precharge, is_refresh, is_same_bank, rank_of, row_of}
use Rattle.ddr_legality.specs.Bus.{Bus}
use Rattle.ddr_row_array.specs.Rows.{Rows, row_count, open_row, is_stored}
use Rattle.ddr_refresh.specs.Refreshes.{Refreshes, after_issue}
use Rattle.ddr_channel.specs.Cycle.{with_command}

-- an ACT needs the bytes of its row
abbrev pub IsStoredFor : Geometry → Rows → Command → Type 0
IsStoredFor shape rows (Act rank group bank row) = IsTrue (is_stored rows (bank_number shape rank group bank) row)
IsStoredFor shape rows _ = Unit {0}

-- there is room for the command's entry and for the row that it opens
pub record IsReadyFor (shape : Geometry) (spare : ℕ) (rows : Rows) (command : Command) : Type 0 where
  pub room : 1 ≤ spare
  pub stored : IsStoredFor shape rows command

-- the channel has the bank
abbrev pub IsBank : Geometry → ℕ → ℕ → ℕ → Type 0
IsBank shape rank group bank = (rank < shape.ranks) × (group < shape.groups) × (bank < GROUP_BANKS)

-- the rows can do as the command says: its bank and row are there, and an ACT finds its bank idle and its row stored
abbrev pub MayFollow : Geometry → Rows → Command → Type 0
MayFollow shape rows (Act rank group bank row) = IsBank shape rank group bank × (row < row_count rows)
    × (open_row rows (bank_number shape rank group bank) ≡ None) × IsStoredFor shape rows (Act rank group bank row)
MayFollow shape rows (Pre rank group bank) = IsBank shape rank group bank
MayFollow shape rows (RdAuto rank group bank row line) = IsBank shape rank group bank
MayFollow shape rows (WrAuto rank group bank row line) = IsBank shape rank group bank
MayFollow shape rows command = rank_of command < shape.ranks

-- a bank's open row after a command; an RDA or WRA closes it for the reads and writes to come
abbrev pub row_after : ℕ → ℕ → ℕ → Command → Option ℕ → Option ℕ
row_after rank group bank command row =
    if is_activate command && is_same_bank command (Pre rank group bank) then Some (row_of command)
    else (if (is_precharge command || is_auto command) && is_same_bank command (Pre rank group bank) then None
    else row)

-- a rank's refreshes after a command
abbrev pub refreshes_after : ℕ → Command → Refreshes → Refreshes
refreshes_after rank command r = if is_refresh command && rank_of command == rank then after_issue r else r

-- the same of the command of a cycle, if it has one
abbrev pub bus_with : Option Command → Bus → Bus
bus_with o b = record b { trace = with_command b.now o b.trace }

abbrev pub refreshes_with : ℕ → Option Command → Refreshes → Refreshes
refreshes_with rank None r = r
refreshes_with rank (Some command) r = refreshes_after rank command r
