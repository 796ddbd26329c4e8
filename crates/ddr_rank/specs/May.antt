-- The commands that may come in a cycle, by the first cycles and the state of banks.
use Rattle.std.specs.Prelude.{ℕ, Bool, true, false, not, ◌&&◌, nat_le, Option, Some, None}
use Rattle.ddr_timing.specs.declared.timing.Timing.{Timing}
use Rattle.ddr_trace.specs.declared.bank.OpenBank.{OpenBank}
use Rattle.ddr_trace.specs.declared.command.Command.{Command}
use Rattle.ddr_trace.specs.declared.command.Command.TheVariants.{Act, Rd, Wr, RdAuto, WrAuto, Pre, PreAll, Refresh}
use Rattle.ddr_trace.specs.declared.command.Entry.{Entry}
use Rattle.ddr_trace.specs.Banks.{is_row, ready_row}
use Rattle.ddr_rank.specs.Breaks.{any_active, any_auto_within}
use Rattle.ddr_rank.specs.First.{behind, behind_start}
use Rattle.ddr_rank.specs.Readiness.{Readiness, bank_at, fourth_activate, ready_at}

-- the bank was closed by an auto-precharge, and RP is over since its start
abbrev pub is_closed : Timing → ℕ → OpenBank → Option Entry → Bool
is_closed t cycle bank None = false
is_closed t cycle bank (Some auto) = nat_le (behind_start t bank (Some auto)) cycle

-- the bank was never opened, or is closed
abbrev pub is_idle : Timing → ℕ → Option OpenBank → Bool
is_idle t cycle None = true
is_idle t cycle (Some bank) = is_closed t cycle bank bank.auto

-- an ACT finds a window with room for it, and its bank idle
abbrev pub may_activate : Readiness → ℕ → ℕ → ℕ → Bool
may_activate r cycle group bank =
    nat_le (ready_at r group bank).activate cycle
    && nat_le (behind r.config.timing.faw (fourth_activate r)) cycle
    && is_idle r.config.timing cycle (bank_at r group bank).opened

-- a read or a write finds its row
abbrev pub finds_row : Readiness → ℕ → ℕ → ℕ → Bool
finds_row r group bank row = is_row (ready_row (bank_at r group bank).opened) row

-- a REF finds all banks idle, and RP behind each auto-precharge
abbrev pub may_refresh : Readiness → ℕ → Bool
may_refresh r cycle = nat_le r.ready_all.refresh cycle && not (any_active r cycle) && not (any_auto_within r cycle)

abbrev pub may_now : Readiness → ℕ → Command → Bool
may_now r cycle (Act rank group bank row) = may_activate r cycle group bank
may_now r cycle (Rd rank group bank row line) = nat_le (ready_at r group bank).read cycle && finds_row r group bank row
may_now r cycle (Wr rank group bank row line) = nat_le (ready_at r group bank).write cycle && finds_row r group bank row
may_now r cycle (RdAuto rank group bank row line) = nat_le (ready_at r group bank).read cycle && finds_row r group bank row
may_now r cycle (WrAuto rank group bank row line) = nat_le (ready_at r group bank).write cycle && finds_row r group bank row
may_now r cycle (Pre rank group bank) = nat_le (ready_at r group bank).precharge cycle
may_now r cycle (PreAll rank) = nat_le r.ready_all.precharge cycle
may_now r cycle (Refresh rank) = may_refresh r cycle
