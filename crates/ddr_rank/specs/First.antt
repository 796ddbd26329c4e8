-- The first cycle in which a command keeps every distance, by what a rank keeps.
use Rattle.std.specs.Prelude.{ℕ, max, List, [], ◌∷◌, Option, Some, None}
use Rattle.ddr_timing.specs.declared.timing.Timing.{Timing}
use Rattle.ddr_trace.specs.declared.bank.OpenBank.{OpenBank}
use Rattle.ddr_trace.specs.declared.command.Command.{Command}
use Rattle.ddr_trace.specs.declared.command.Command.TheVariants.{Act, Rd, Wr, RdAuto, WrAuto, Pre, PreAll, Refresh}
use Rattle.ddr_trace.specs.declared.command.Entry.{Entry}
use Rattle.ddr_trace.specs.Banks.{auto_start}
use Rattle.ddr_rank.specs.declared.bank.Bank.{Bank}
use Rattle.ddr_rank.specs.Readiness.{Readiness, bank_at, fourth_activate, ready_at}
use Rattle.ddr_rank.specs.Ready.{after}

-- so many clocks behind a command, 0 where there was none
abbrev pub behind : ℕ → Option ℕ → ℕ
behind clocks None = 0
behind clocks (Some at) = after at clocks

-- RP behind the start of the bank's auto-precharge, 0 where it has none
abbrev pub behind_start : Timing → OpenBank → Option Entry → ℕ
behind_start t bank None = 0
behind_start t bank (Some auto) = after (auto_start t bank auto) t.rp

abbrev pub behind_auto : Timing → Option OpenBank → ℕ
behind_auto t None = 0
behind_auto t (Some bank) = behind_start t bank bank.auto

-- behind that of each bank
abbrev pub behind_autos : Timing → List Bank → ℕ
behind_autos t [] = 0
behind_autos t (bank ∷ banks) = max (behind_auto t bank.opened) (behind_autos t banks)

-- an ACT waits for an auto-precharge of its bank, and for the fourth ACT before it
abbrev pub first_activate : Readiness → ℕ → ℕ → ℕ
first_activate r group bank = max (ready_at r group bank).activate (max (behind_auto r.config.timing (bank_at r group bank).opened) (behind r.config.timing.faw (fourth_activate r)))

abbrev pub first_cycle : Readiness → Command → ℕ
first_cycle r (Act rank group bank row) = first_activate r group bank
first_cycle r (Rd rank group bank row line) = (ready_at r group bank).read
first_cycle r (Wr rank group bank row line) = (ready_at r group bank).write
first_cycle r (RdAuto rank group bank row line) = (ready_at r group bank).read
first_cycle r (WrAuto rank group bank row line) = (ready_at r group bank).write
first_cycle r (Pre rank group bank) = (ready_at r group bank).precharge
first_cycle r (PreAll rank) = r.ready_all.precharge
first_cycle r (Refresh rank) = max r.ready_all.refresh (behind_autos r.config.timing r.banks)
