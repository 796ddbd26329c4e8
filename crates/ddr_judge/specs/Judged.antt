-- The commands that a judge has judged.
use Rattle.std.specs.Prelude.{◌≡◌, ℕ, List, length, map, Some, slice_get, slice_index_or}
use Rattle.ddr_timing.specs.declared.config.Config.{Config}
use Rattle.ddr_judge.specs.declared.judge.Judge.{Judge}
use Rattle.ddr_judge.specs.declared.channel_judge.ChannelJudge.{ChannelJudge}
use Rattle.ddr_judge.specs.Heard.{HasHeard}
use Rattle.ddr_judge.specs.Records.{Record, end_behind, of_channel}

-- how many channels there are
abbrev pub channels_of : Judge → ℕ
channels_of j = length j.judges.items

-- how many commands the channel had
abbrev pub commands_of : Judge → ℕ → ℕ
commands_of j channel = slice_index_or (map (λ l. l.count) j.judges.items) channel 0

-- the first cycle from the start on that is behind every command
abbrev pub end_of : Judge → ℕ
end_of j = j.end

-- these commands were judged, in this order, and no others
pub record HasJudged (j : Judge) (c : Config) (start : ℕ) (records : List Record) : Type 0 where
  pub channels : length j.judges.items ≡ c.geometry.channels
  pub each : (channel : ℕ) (l : ChannelJudge) → slice_get j.judges.items channel ≡ Some l → HasHeard l c start (of_channel channel records)
  pub end : j.end ≡ end_behind start records
