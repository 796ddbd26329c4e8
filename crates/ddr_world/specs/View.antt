-- What the fields of the core and of its sides stand for.
use Rattle.std.specs.Prelude.{◌≡◌, ◌+◌, ◌<◌, ◌≤◌, length}
use Rattle.std.specs.List.{All}
use Rattle.ddr_timing.specs.declared.config.Config.{Config}
use Rattle.ddr_timing.specs.declared.units.TheConstants.{CLOCK_STOP}
use Rattle.ddr_channel.specs.Sound.{IsServed}
use Rattle.ddr_world.specs.declared.item.Item.{Item}
use Rattle.ddr_world.specs.declared.item.Item.TheVariants as item
use Rattle.ddr_world.specs.declared.port_side.PortSide.TheInside as port_inside
use Rattle.ddr_world.specs.declared.channel_side.ChannelSide.TheInside as channel_inside
use Rattle.ddr_world.specs.declared.world.World.TheInside as world_inside
use Rattle.ddr_world.specs.State.{PortSide}
use Rattle.ddr_world.specs.Kept.{KeptSide, Kept, opened_with}

abbrev pub port_of : port_inside.Inside → PortSide
port_of a = record { core = a.core; completions = a.completions.items; accepted = a.accepted; taken = a.taken; pushed = a.pushed.items }

pub record IsPortWhole (a : port_inside.Inside) : Type 0 where
  pub room : a.completions.capacity ≡ a.core.reorder.window
  pub fits : length a.completions.items ≤ a.completions.capacity
  -- each accepted request is outstanding, or its reply was given up
  pub counted : a.accepted ≡ a.taken + length a.core.reorder.outstanding
  pub numbered : a.accepted ≤ a.core.reorder.next
  pub spent : a.core.reorder.next ≤ CLOCK_STOP

abbrev pub channel_of : channel_inside.Inside → KeptSide
channel_of a = record { channel = a.channel; requests = a.requests.items; noted = a.noted.items }

-- what is queued is a request that the channel serves, or the End of a port
abbrev pub IsServedItem : Config → Item → Type 0
IsServedItem config (item.Request r) = IsServed config r.place
IsServedItem config (item.End p) = p < config.limits.ports

pub record IsChannelWhole (a : channel_inside.Inside) : Type 0 where
  pub room : a.requests.capacity ≡ a.channel.config.limits.intake
  pub fits : length a.requests.items ≤ a.requests.capacity
  pub served : All (IsServedItem a.channel.config) a.requests.items
  pub ports : length a.noted.items ≡ a.channel.config.limits.ports

abbrev pub kept_of : world_inside.Inside → Kept
kept_of a = record { config = a.config; keeps = a.keeps; ports = a.ports.items; channels = a.channels.items }

-- the port has the memory's shape, and an End for each channel
pub record IsPortOf (config : Config) (side : PortSide) : Type 0 where
  pub geometry : side.core.geometry ≡ config.geometry
  pub channels : length side.pushed ≡ config.geometry.channels

pub record IsWhole (a : world_inside.Inside) : Type 0 where
  pub ports_are : length a.ports.items ≡ a.config.limits.ports
  pub channels_are : length a.channels.items ≡ a.config.geometry.channels
  pub ports_of_config : All (IsPortOf a.config) a.ports.items
  pub channels_as_opened : All (λ c. opened_with c ≡ (a.config, a.keeps)) a.channels.items
