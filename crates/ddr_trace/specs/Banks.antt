-- The state of banks: what the history makes of a bank, and its open row in a cycle.
use Rattle.std.specs.Prelude.{ℕ, ◌+◌, ◌*◌, ◌/◌, ◌%◌, Bool, false, ◌==◌, nat_lt, nat_le, max, if◌then◌else◌, List, Option, Some, None, option_map}
use Rattle.std.specs.Option.{is_some}
use Rattle.std.specs.List.{fold, list_any, range_with_len}
use Rattle.ddr_timing.specs.declared.geometry.Geometry.{Geometry}
use Rattle.ddr_timing.specs.declared.timing.Timing.{Timing}
use Rattle.ddr_timing.specs.declared.units.TheConstants.{BURST_CLOCKS, GROUP_BANKS}
use Rattle.ddr_trace.specs.declared.bank.OpenBank.{OpenBank}
use Rattle.ddr_trace.specs.declared.command.Command.{Command}
use Rattle.ddr_trace.specs.declared.command.Command.TheVariants.{Pre}
use Rattle.ddr_trace.specs.declared.command.Entry.{Entry}
use Rattle.ddr_trace.specs.Commands.{is_activate, is_auto, is_precharge, is_read, is_same_bank, row_of}

-- a bank that the ACT has opened
abbrev pub opened : Entry → OpenBank
opened e = record { row = row_of e.command; since = e.cycle; auto = None }

-- a bank that the RDA or WRA is to close
abbrev pub closing : Entry → OpenBank → OpenBank
closing e bank = record bank { auto = Some e }

-- what a command of the bank makes of it; None is a bank that nothing opened, or that a precharge closed
abbrev pub changed_by : Entry → Option OpenBank → Option OpenBank
changed_by e bank =
    if is_activate e.command then Some (opened e)
    else if is_precharge e.command then None
    else if is_auto e.command then option_map {T = OpenBank} (closing e) bank
    else bank

-- what an entry makes of the bank that the command is for
abbrev pub bank_after : Command → Option OpenBank → Entry → Option OpenBank
bank_after command bank e = if is_same_bank e.command command then changed_by e bank else bank

-- what the history makes of the bank that the command is for
unfoldable pub bank_behind : Command → List Entry → Option OpenBank
bank_behind command history = fold (bank_after command) None history

-- the clocks from a read or a write to a precharge: RTP, or from a write's data on WR
abbrev pub recovery : Timing → Command → ℕ
recovery t command = if is_read command then t.rtp else t.cwl + BURST_CLOCKS + t.wr

-- An auto-precharge starts by itself when its own command and its bank's ACT allow a precharge.
abbrev pub auto_start : Timing → OpenBank → Entry → ℕ
auto_start t bank auto = max (auto.cycle + recovery t auto.command) (bank.since + t.ras)

-- the cycle is fewer than so many clocks behind the start of an auto-precharge of the bank
abbrev pub is_before_start : Timing → ℕ → ℕ → OpenBank → Option Entry → Bool
is_before_start t clocks cycle bank None = false
is_before_start t clocks cycle bank (Some auto) = nat_lt cycle (auto_start t bank auto + clocks)

abbrev pub is_auto_within : Timing → ℕ → ℕ → Option OpenBank → Bool
is_auto_within t clocks cycle None = false
is_auto_within t clocks cycle (Some bank) = is_before_start t clocks cycle bank bank.auto

-- the open row of a bank in a cycle: an auto-precharge closes it from its start on
abbrev pub row_until : Timing → ℕ → OpenBank → Option Entry → Option ℕ
row_until t cycle bank None = Some bank.row
row_until t cycle bank (Some auto) = if nat_le (auto_start t bank auto) cycle then None else Some bank.row

abbrev pub open_row : Timing → ℕ → Option OpenBank → Option ℕ
open_row t cycle None = None
open_row t cycle (Some bank) = row_until t cycle bank bank.auto

-- the bank is active in the cycle
abbrev pub is_active : Timing → ℕ → Option OpenBank → Bool
is_active t cycle bank = is_some (open_row t cycle bank)

-- the row that the bank is open with for reads and writes: none once an RDA or WRA is to close it
abbrev pub row_without : OpenBank → Option Entry → Option ℕ
row_without bank None = Some bank.row
row_without bank (Some auto) = None

abbrev pub ready_row : Option OpenBank → Option ℕ
ready_row None = None
ready_row (Some bank) = row_without bank bank.auto

-- the row is that one
abbrev pub is_row : Option ℕ → ℕ → Bool
is_row None row = false
is_row (Some this) row = this == row

-- some bank of the rank passes the test
abbrev pub any_bank : Geometry → ℕ → (Command → Bool) → Bool
any_bank g rank test =
    list_any (λ n. test (Pre rank (n / GROUP_BANKS) (n % GROUP_BANKS))) (range_with_len 0 (g.groups * GROUP_BANKS))
