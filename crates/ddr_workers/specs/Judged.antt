-- A channel with a judge beside it, and what it leaves: its trace, and what the judge says of it.
use Rattle.std.specs.Prelude.{◌≡◌, ◌≤◌, List, length, map, Option, None, IfSome}
use Rattle.ddr_timing.specs.declared.config.Config.{Config}
use Rattle.ddr_trace.specs.declared.checker.Fault.{Fault}
use Rattle.ddr_trace.specs.declared.command.Entry.{Entry}
use Rattle.ddr_trace.specs.Legality.{IsFirstFault, IsLegal, IsRefreshed}
use Rattle.ddr_trace.specs.Traces.{Recorded}
use Rattle.ddr_judge.specs.Judged.{HasJudged, end_of}
use Rattle.ddr_judge.specs.Records.{Record}
use Rattle.ddr_workers.specs.declared.judged.JudgedChannel.TheInside.{Inside}
use Rattle.ddr_workers.specs.declared.judged.TheConstants.{CHANNEL}

-- the commands of a channel as its judge is told them: in place of a line stands the cycle
abbrev pub told : List Entry → List Record
told entries = map (λ e. record { channel = CHANNEL; entry = e; line = e.cycle }) entries

-- the judge was told each command that the channel issued, in order, and no other
pub record IsWhole (a : Inside) : Type 0 where
  pub first : a.first ≡ a.channel.start
  pub commands : a.commands.items ≡ a.channel.trace
  pub judged : HasJudged a.judge a.channel.config a.channel.start (told a.channel.trace)
  pub behind : end_of a.judge ≤ a.channel.now
  -- no more commands than cycles
  pub few : length a.channel.trace ≤ a.channel.now

-- what is said of a trace: no fault where it is legal and refreshed, else its first
pub record IsJudged (config : Config) (trace : Recorded) (fault : Option Fault) : Type 0 where
  pub legal : fault ≡ None → IsLegal config trace.start trace.end trace.entries × IsRefreshed config trace.start trace.end trace.entries
  pub first : IfSome fault (λ f. IsFirstFault config trace.start trace.end trace.entries f.place f.rule)

-- what a channel leaves: its trace as contracts have it, the same where it was kept, and what the judge says of it
pub record JudgedTrace : Type 0 where
  pub trace : Recorded
  pub kept : Option Recorded
  pub fault : Option Fault
