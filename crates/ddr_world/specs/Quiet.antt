-- Cycles in which nothing is to be done in the core but to make them.
use Rattle.std.specs.Prelude.{◌≡◌, ℕ, ◌<◌, zero, suc, List, [], ◌++◌, map, replicate, Ok}
use Rattle.std.specs.List.{All}
use Rattle.ddr_channel.specs.Quiet as quiet
use Rattle.ddr_channel.specs.Quiet.{after_cycles}
use Rattle.ddr_world.specs.declared.event.Outcome.TheVariants.{Cycled}
use Rattle.ddr_world.specs.Events.{Cycle}
use Rattle.ddr_world.specs.History.{Answered}
use Rattle.ddr_world.specs.State.{ChannelSide, State}

-- for so many cycles the channel completes and issues nothing, and nothing waits in its queue or to be delivered
pub record IsQuietSide (count : ℕ) (side : ChannelSide) : Type 0 where
  pub channel : quiet.IsQuiet count side.channel
  pub requests : side.requests ≡ []
  pub done : side.channel.done ≡ []

-- so it is for each channel, and no port has anything to collect
pub record IsQuietFor (count : ℕ) (s : State) : Type 0 where
  pub channels : All (IsQuietSide count) s.channels
  pub ports : All (λ port. port.completions ≡ []) s.ports

-- nothing is to be done for so many cycles of each channel, as long as no other event comes between; for none it is always so
abbrev pub IsQuiet : ℕ → State → Type 0
IsQuiet count s = 0 < count → IsQuietFor count s

abbrev pub side_passed : ℕ → ChannelSide → ChannelSide
side_passed count side = record side { channel = after_cycles count side.channel }

-- after so many cycles of each channel
abbrev pub passed : ℕ → State → State
passed count s = record s { channels = map (side_passed count) s.channels }

-- so many cycles of this channel, as a record of events
abbrev pub cycles_of : ℕ → ℕ → List Answered
cycles_of count c = replicate count (record { event = Cycle c; answer = Ok Cycled })

-- so many cycles of each of the first channels, one channel after another
abbrev pub cycles_made : ℕ → ℕ → List Answered
cycles_made count zero = []
cycles_made count (suc c) = cycles_made count c ++ cycles_of count c
