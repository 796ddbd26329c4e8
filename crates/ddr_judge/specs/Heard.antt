-- The commands for which stands what is kept of a channel.
use Rattle.std.specs.Prelude.{◌≡◌, ℕ, ◌<◌, false, List, length, Option, Some, None}
use Rattle.ddr_timing.specs.declared.config.Config.{Config}
use Rattle.ddr_trace.specs.declared.command.Entry.{Entry}
use Rattle.ddr_trace.specs.declared.rule.Rule.{Rule}
use Rattle.ddr_trace.specs.Legality.{IsFirstFault, breaks_at}
use Rattle.ddr_legality.specs.OnePass.{HasPassed, config_of, start_of}
use Rattle.ddr_judge.specs.declared.fault.Fault.{Fault}
use Rattle.ddr_judge.specs.declared.channel_judge.ChannelJudge.{ChannelJudge}
use Rattle.ddr_judge.specs.Records.{AllBelow, Record, entries_of, line_at}

-- each entry was passed, and none breaks a rule, wherever the trace ends behind them
pub record KeepsAll (l : ChannelJudge) (c : Config) (start : ℕ) (entries : List Entry) : Type 0 where
  pub config : config_of l.checker ≡ c
  pub begun : start_of l.checker ≡ start
  pub passed : HasPassed l.checker entries
  pub clean : (end : ℕ) → AllBelow end entries → (place : ℕ) (r : Rule) → place < length entries → breaks_at c start end entries place r ≡ false

-- the fault is that of a command, and the first one, wherever the trace ends behind them
pub record IsAtFault (f : Fault) (c : Config) (start : ℕ) (records : List Record) : Type 0 where
  pub within : f.place < length records
  pub line : f.line ≡ line_at records f.place
  pub first : (end : ℕ) → AllBelow end (entries_of records) → IsFirstFault c start end (entries_of records) f.place f.rule

abbrev pub IsTold : ChannelJudge → Config → ℕ → List Record → Option Fault → Type 0
IsTold l c start records None = KeepsAll l c start (entries_of records)
IsTold l c start records (Some f) = IsAtFault f c start records

-- these commands were judged, in this order, and no others
pub record HasHeard (l : ChannelJudge) (c : Config) (start : ℕ) (records : List Record) : Type 0 where
  pub count : l.count ≡ length records
  pub told : IsTold l c start records l.fault
