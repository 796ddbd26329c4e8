-- What contracts see of the core: its state, with what is kept of each channel in place of the channel's state; and of
-- what is left of it.
use Rattle.std.specs.Prelude.{ℕ, Bool, List, Option, map}
use Rattle.ddr_timing.specs.declared.config.Config.{Config}
use Rattle.ddr_trace.specs.Traces.{Recorded}
use Rattle.ddr_channel.specs.Kept as channel_kept
use Rattle.ddr_world.specs.declared.item.Item.{Item}
use Rattle.ddr_world.specs.State.{PortSide, ChannelSide, State}

pub record KeptSide : Type 0 where
  pub channel : channel_kept.Kept
  pub requests : List Item
  pub noted : List Bool

pub record Kept : Type 0 where
  pub config : Config
  -- whether each channel keeps its trace
  pub keeps : Bool
  pub ports : List PortSide
  pub channels : List KeptSide

-- of each port how many requests it had accepted and how many replies it gave up, and the trace of each channel, where it was kept
pub record Left : Type 0 where
  pub accepted : List ℕ
  pub taken : List ℕ
  pub traces : List (Option Recorded)

-- what a channel was opened with, that no call changes
abbrev pub opened_with : KeptSide → Config × Bool
opened_with k = (k.channel.config, k.channel.keeps)

abbrev pub side_of : KeptSide → ChannelSide
side_of k = record { channel = channel_kept.state_of k.channel; requests = k.requests; noted = k.noted }

-- the state that the core is in
abbrev pub state_of : Kept → State
state_of k = record { ports = k.ports; channels = map side_of k.channels }
