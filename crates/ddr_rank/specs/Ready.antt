-- The first cycle in which each command may come, as far as the rules on two commands go.
use Rattle.std.specs.Prelude.{◌≡◌, ℕ, ◌+◌, ◌<◌, Bool, ◌==◌, nat_lt, min, max, if◌then◌else◌, List}
use Rattle.std.specs.List.{list_any}
use Rattle.ddr_timing.specs.declared.timing.Timing.{Timing}
use Rattle.ddr_timing.specs.declared.units.TheConstants.{BURST_CLOCKS}
use Rattle.ddr_trace.specs.declared.command.Command.{Command}
use Rattle.ddr_trace.specs.declared.command.Command.TheVariants.{Act, Rd, Wr, RdAuto, WrAuto, Pre, PreAll, Refresh}
use Rattle.ddr_trace.specs.declared.command.Entry.{Entry}
use Rattle.ddr_trace.specs.declared.rule.TheConstants.Rule.{ALL}
use Rattle.ddr_trace.specs.Commands.{bank_of, entry, group_of}
use Rattle.ddr_trace.specs.Rules.{breaks_spacing, is_too_close, spacing_of}
use Rattle.ddr_rank.specs.declared.ready.Ready.{Ready}
use Rattle.ddr_rank.specs.declared.ready.ReadyAll.{ReadyAll}

-- the last cycle that a clock can count
abbrev pub LAST_CYCLE : ℕ
LAST_CYCLE = 18446744073709551615

-- the cycle so many clocks on, as far as a clock counts
abbrev pub after : ℕ → ℕ → ℕ
after cycle clocks = min (cycle + clocks) LAST_CYCLE

-- nothing holds a command up
abbrev pub free : Ready
free = record { activate = 0; read = 0; write = 0; precharge = 0 }

abbrev pub all_free : ReadyAll
all_free = record { precharge = 0; refresh = 0 }

-- where a bank stands, seen from a command
pub data Near : Type 0 where
  OwnBank : Near
  OwnGroup : Near
  OtherGroup : Near

-- What an ACT asks of the next commands of a bank,
abbrev pub asked_by_activate : Timing → Near → ℕ → Ready
asked_by_activate t OwnBank cycle = record { activate = after cycle t.rc; read = after cycle t.rcd; write = after cycle t.rcd; precharge = after cycle t.ras }
asked_by_activate t OwnGroup cycle = record free { activate = after cycle t.rrd_l }
asked_by_activate t OtherGroup cycle = record free { activate = after cycle t.rrd_s }

-- a read,
abbrev pub asked_by_read : Timing → Near → ℕ → Ready
asked_by_read t OwnBank cycle = record { activate = 0; read = after cycle t.ccd_l; write = after cycle t.rtw; precharge = after cycle t.rtp }
asked_by_read t OwnGroup cycle = record free { read = after cycle t.ccd_l; write = after cycle t.rtw }
asked_by_read t OtherGroup cycle = record free { read = after cycle t.ccd_s; write = after cycle t.rtw }

-- the clocks from a write to the end of its data
abbrev pub data_end : Timing → ℕ
data_end t = t.cwl + BURST_CLOCKS

-- a write,
abbrev pub asked_by_write : Timing → Near → ℕ → Ready
asked_by_write t OwnBank cycle = record { activate = 0; read = after cycle (data_end t + t.wtr_l); write = after cycle t.ccd_l; precharge = after cycle (data_end t + t.wr) }
asked_by_write t OwnGroup cycle = record free { read = after cycle (data_end t + t.wtr_l); write = after cycle t.ccd_l }
asked_by_write t OtherGroup cycle = record free { read = after cycle (data_end t + t.wtr_s); write = after cycle t.ccd_s }

-- a precharge of the bank,
abbrev pub asked_by_precharge : Timing → ℕ → Ready
asked_by_precharge t cycle = record free { activate = after cycle t.rp }

-- and a REF.
abbrev pub asked_by_refresh : Timing → ℕ → Ready
asked_by_refresh t cycle = record { activate = after cycle t.rfc; read = after cycle t.rfc; write = after cycle t.rfc; precharge = after cycle t.rfc }

abbrev pub asked_if_own : Timing → Near → ℕ → Ready
asked_if_own t OwnBank cycle = asked_by_precharge t cycle
asked_if_own t near cycle = free

abbrev pub asked_by : Timing → Near → ℕ → Command → Ready
asked_by t near cycle (Act rank group bank row) = asked_by_activate t near cycle
asked_by t near cycle (Rd rank group bank row line) = asked_by_read t near cycle
asked_by t near cycle (Wr rank group bank row line) = asked_by_write t near cycle
asked_by t near cycle (RdAuto rank group bank row line) = asked_by_read t near cycle
asked_by t near cycle (WrAuto rank group bank row line) = asked_by_write t near cycle
asked_by t near cycle (Pre rank group bank) = asked_if_own t near cycle
asked_by t near cycle (PreAll rank) = asked_by_precharge t cycle
asked_by t near cycle (Refresh rank) = asked_by_refresh t cycle

-- what a command asks of the next PREA and REF
abbrev pub asked_of_all : Timing → ℕ → Command → ReadyAll
asked_of_all t cycle (Act rank group bank row) = record all_free { precharge = after cycle t.ras }
asked_of_all t cycle (Rd rank group bank row line) = record all_free { precharge = after cycle t.rtp }
asked_of_all t cycle (Wr rank group bank row line) = record all_free { precharge = after cycle (data_end t + t.wr) }
asked_of_all t cycle (RdAuto rank group bank row line) = record all_free { precharge = after cycle t.rtp }
asked_of_all t cycle (WrAuto rank group bank row line) = record all_free { precharge = after cycle (data_end t + t.wr) }
asked_of_all t cycle (Pre rank group bank) = record all_free { refresh = after cycle t.rp }
asked_of_all t cycle (PreAll rank) = record all_free { refresh = after cycle t.rp }
asked_of_all t cycle (Refresh rank) = record { precharge = after cycle t.rfc; refresh = after cycle t.rfc }

-- what a command asks of each bank, by where the bank stands
pub record Asks : Type 0 where
  pub group : ℕ
  pub bank : ℕ
  pub own_bank : Ready
  pub own_group : Ready
  pub other_groups : Ready

abbrev pub asks_of : Timing → Entry → Asks
asks_of t e = record {
  group = group_of e.command;
  bank = bank_of e.command;
  own_bank = asked_by t OwnBank e.cycle e.command;
  own_group = asked_by t OwnGroup e.cycle e.command;
  other_groups = asked_by t OtherGroup e.cycle e.command;
}

abbrev pub asked_of : Asks → ℕ → ℕ → Ready
asked_of a group bank =
    if a.group == group then (if a.bank == bank then a.own_bank else a.own_group) else a.other_groups

-- each first cycle, raised to what is asked
abbrev pub raised : Ready → Ready → Ready
raised to ready = record {
  activate = max ready.activate to.activate;
  read = max ready.read to.read;
  write = max ready.write to.write;
  precharge = max ready.precharge to.precharge;
}

abbrev pub all_raised : ReadyAll → ReadyAll → ReadyAll
all_raised to ready = record {
  precharge = max ready.precharge to.precharge;
  refresh = max ready.refresh to.refresh;
}

-- some rule on two commands keeps the entry too close behind its history
abbrev pub is_held : Timing → List Entry → Entry → Bool
is_held t history e = list_any (λ r. breaks_spacing (spacing_of t r) history e) ALL

-- behind this one entry
abbrev pub is_held_by : Timing → Entry → Entry → Bool
is_held_by t a e = list_any (λ r. is_too_close (spacing_of t r) a e) ALL

-- the command is held in the cycles below this one, and from it on no more
abbrev pub IsFirst : Timing → List Entry → Command → ℕ → Type 0
IsFirst t history command first = (cycle : ℕ) → cycle < LAST_CYCLE → nat_lt cycle first ≡ is_held t history (entry cycle command)

-- the first cycles of the next commands of a bank
pub record KeepsReady (t : Timing) (rank group bank : ℕ) (history : List Entry) (ready : Ready) : Type 0 where
  pub activate : IsFirst t history (Act rank group bank 0) ready.activate
  pub read : IsFirst t history (Rd rank group bank 0 0) ready.read
  pub write : IsFirst t history (Wr rank group bank 0 0) ready.write
  pub precharge : IsFirst t history (Pre rank group bank) ready.precharge

-- those of the next PREA and REF
pub record KeepsReadyAll (t : Timing) (rank : ℕ) (history : List Entry) (ready : ReadyAll) : Type 0 where
  pub precharge : IsFirst t history (PreAll rank) ready.precharge
  pub refresh : IsFirst t history (Refresh rank) ready.refresh
