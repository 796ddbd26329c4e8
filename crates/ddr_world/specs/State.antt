-- The state of the core: its ports and channels, each with the queue that leads to it.
use Rattle.std.specs.Prelude.{◌≡◌, ℕ, Bool, true, false, ◌==◌, List, [], length, map, replicate}
use Rattle.std.specs.List.{All, range_with_len}
use Rattle.ddr_timing.specs.declared.config.Config.{Config}
use Rattle.ddr_address_map.specs.Requests.{Completion}
use Rattle.ddr_ports.specs.State as port_state
use Rattle.ddr_ports.specs.State.{PortState}
use Rattle.ddr_channel.specs.State as channel_state
use Rattle.ddr_world.specs.declared.item.Item.{Item}

pub record PortSide : Type 0 where
  pub core : PortState
  -- the completion queue: delivered and not collected, the oldest first
  pub completions : List Completion
  -- how many requests were accepted, and how many replies were given up
  pub accepted : ℕ
  pub taken : ℕ
  -- of each channel, whether the End was pushed on its queue
  pub pushed : List Bool

pub record ChannelSide : Type 0 where
  pub channel : channel_state.State
  -- the request queue: pushed and not taken, the oldest first
  pub requests : List Item
  -- of each port, whether its End was taken
  pub noted : List Bool

pub record State : Type 0 where
  pub ports : List PortSide
  pub channels : List ChannelSide

abbrev pub opened_port : Config → ℕ → ℕ → PortSide
opened_port config first number = record {
  core = port_state.opened config number first;
  completions = [];
  accepted = 0;
  taken = 0;
  pushed = replicate config.geometry.channels false;
}

abbrev pub opened_channel : Config → ℕ → ChannelSide
opened_channel config start = record {
  channel = channel_state.opened config start;
  requests = [];
  noted = replicate config.limits.ports false;
}

-- before the first event: the first cycle of each channel, and the first number of each port
abbrev pub opened : Config → ℕ → ℕ → State
opened config start first = record {
  ports = map (opened_port config first) (range_with_len 0 config.limits.ports);
  channels = replicate config.geometry.channels (opened_channel config start);
}

-- the request queue holds as many items as it may
abbrev pub is_busy : ChannelSide → Bool
is_busy side = length side.requests == side.channel.config.limits.intake

-- the completion queue holds as many completions as it may
abbrev pub is_completion_queue_full : PortSide → Bool
is_completion_queue_full side = length side.completions == side.core.reorder.window

-- no number is outstanding, every End was pushed, and nothing is to be collected
pub record IsPortDrained (side : PortSide) : Type 0 where
  pub outstanding : length side.core.reorder.outstanding ≡ 0
  pub pushed : All (λ ended. ended ≡ true) side.pushed
  pub completions : side.completions ≡ []

-- every End was taken, and nothing is left in a queue or in the channel
pub record IsChannelDrained (side : ChannelSide) : Type 0 where
  pub noted : All (λ ended. ended ≡ true) side.noted
  pub requests : side.requests ≡ []
  pub pending : side.channel.pending ≡ []
  pub flight : side.channel.flight ≡ []
  pub done : side.channel.done ≡ []

-- orderly close
pub record IsDrained (s : State) : Type 0 where
  pub ports : All IsPortDrained s.ports
  pub channels : All IsChannelDrained s.channels
