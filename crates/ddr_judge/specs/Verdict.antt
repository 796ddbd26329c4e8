-- What is told of a channel.
use Rattle.std.specs.Prelude.{◌≡◌, ℕ, List, Option, Some, None}
use Rattle.ddr_timing.specs.declared.config.Config.{Config}
use Rattle.ddr_trace.specs.Legality.{IsFirstFault, IsLegal, IsRefreshed}
use Rattle.ddr_judge.specs.declared.fault.Fault.{Fault}
use Rattle.ddr_judge.specs.Records.{Record, entries_of, line_at}

-- No fault exactly where the channel's commands are a legal and refreshed trace; else the first fault, and the line of the
-- command there.
abbrev pub IsVerdict : Config → ℕ → ℕ → List Record → Option Fault → Type 0
IsVerdict c start end records None =
    IsLegal c start end (entries_of records) × IsRefreshed c start end (entries_of records)
IsVerdict c start end records (Some f) =
    IsFirstFault c start end (entries_of records) f.place f.rule × (f.line ≡ line_at records f.place)
