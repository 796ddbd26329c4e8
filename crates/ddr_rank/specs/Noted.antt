-- What a rank keeps after a command.
use Rattle.std.specs.Prelude.{◌≡◌, ℕ, ◌+◌, ◌*◌, ◌/◌, ◌%◌, ◌<◌, if◌then◌else◌, length, [], ◌∷◌, ◌++◌, map, Some, slice_index_or, slice_set}
use Rattle.circular_buffer.specs.Buffer.{keep_last}
use Rattle.ddr_timing.specs.declared.units.TheConstants.{GROUP_BANKS}
use Rattle.ddr_trace.specs.declared.command.Command.{Command}
use Rattle.ddr_trace.specs.declared.command.Command.TheVariants.{Act, Rd, Wr, RdAuto, WrAuto, Pre, PreAll, Refresh}
use Rattle.ddr_trace.specs.declared.command.Entry.{Entry}
use Rattle.ddr_trace.specs.Banks.{changed_by}
use Rattle.ddr_trace.specs.Commands.{is_activate, is_precharge, is_read, is_write}
use Rattle.ddr_rank.specs.declared.bank.Bank.{Bank}
use Rattle.ddr_rank.specs.declared.last.Last.{Last}
use Rattle.ddr_rank.specs.Readiness.{Readiness, bank_at, group_at}
use Rattle.ddr_rank.specs.Ready.{all_raised, asked_of, asked_of_all, asks_of, free, raised}

-- a bank or a group after a command of it
abbrev pub last_noted : Entry → Last → Last
last_noted e last = record {
  activate = if is_activate e.command then Some e.cycle else last.activate;
  read = if is_read e.command then Some e.cycle else last.read;
  write = if is_write e.command then Some e.cycle else last.write;
}

-- a bank after a command of it
abbrev pub bank_noted : Entry → Bank → Bank
bank_noted e bank = record {
  opened = changed_by e bank.opened;
  precharge = if is_precharge e.command then Some e.cycle else bank.precharge;
  last = last_noted e bank.last;
}

-- a command of one bank
abbrev pub noted_at : Readiness → Entry → ℕ → ℕ → Readiness
noted_at r e group bank = record r {
  banks = slice_set r.banks (group * GROUP_BANKS + bank) (bank_noted e (bank_at r group bank));
  groups = slice_set r.groups group (last_noted e (group_at r group));
}

abbrev pub activate_noted : Readiness → Entry → ℕ → ℕ → Readiness
activate_noted r e group bank = record (noted_at r e group bank) { activates = keep_last 4 (r.activates ++ e.cycle ∷ []) }

abbrev pub all_noted : Readiness → Entry → Readiness
all_noted r e = record r { banks = map (bank_noted e) r.banks }

abbrev pub noted_by : Readiness → Entry → Command → Readiness
noted_by r e (Act rank group bank row) = activate_noted r e group bank
noted_by r e (Rd rank group bank row line) = noted_at r e group bank
noted_by r e (Wr rank group bank row line) = noted_at r e group bank
noted_by r e (RdAuto rank group bank row line) = noted_at r e group bank
noted_by r e (WrAuto rank group bank row line) = noted_at r e group bank
noted_by r e (Pre rank group bank) = noted_at r e group bank
noted_by r e (PreAll rank) = all_noted r e
noted_by r e (Refresh rank) = record r { refresh = Some e.cycle }

-- the first cycles after a command
pub record IsRaised (old new : Readiness) (e : Entry) : Type 0 where
  pub size : length new.ready ≡ length old.ready
  pub banks : (number : ℕ) → number < length old.ready → slice_index_or new.ready number free ≡ raised (asked_of (asks_of old.config.timing e) (number / GROUP_BANKS) (number % GROUP_BANKS)) (slice_index_or old.ready number free)
  pub all : new.ready_all ≡ all_raised (asked_of_all old.config.timing e.cycle e.command) old.ready_all

abbrev pub noted : Readiness → Entry → Readiness
noted r e = noted_by r e e.command
