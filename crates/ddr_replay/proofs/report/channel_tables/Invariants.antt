use Rattle.std.proofs.Common.{◌≡◌, ◌++◌, drop, string_bytes}
use Rattle.ddr_replay.specs.Report.{channel_tables}
use Rattle.ddr_replay.proofs.report.channel_tables.Given as goal

abbrev pub invariant-loop-channel : goal.invariant-loop-channel
invariant-loop-channel l = string_bytes l.text ++ channel_tables l.cycles l.channel (drop l.channel l.numbers) l.activity l.stalls ≡ channel_tables l.cycles 0 l.numbers l.activity l.stalls
