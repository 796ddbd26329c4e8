-- A round of the core: each channel's part, then each port's; and so many of them.
use Rattle.std.specs.Prelude.{◌≡◌, ◌<◌, ℕ, suc, zero, length, slice_get, sum_by, Bool, true, false, Option, Some, None, option_and_then, Ok, Err, ◌⊎◌}
use Rattle.std.specs.Option.{option_map, option_map_or}
use Rattle.ddr_timing.specs.declared.config.Config.{Config}
use Rattle.ddr_world.specs.declared.event.Refusal.{Refusal}
use Rattle.ddr_world.specs.declared.event.Refusal.TheVariants.{OutOfMemory}
use Rattle.ddr_world.specs.Answer.{IsRefused, MayWantMemory}
use Rattle.ddr_world.specs.Events.{Event, Submit, Take, Cycle, Deliver, Collect, Release}
use Rattle.ddr_world.specs.State.{State}
use Rattle.ddr_world.specs.Step.{Step, step}

-- the state after an event; a refused one changes nothing
abbrev pub after_step : State → Step → State
after_step s (Ok m) = m.state
after_step s (Err cause) = s

abbrev pub after : State → Event → State
after s event = after_step s (step s event)

-- the state after an event that is made
abbrev pub made_state : Step → Option State
made_state (Ok m) = Some m.state
made_state (Err cause) = None

-- an event that pops an item each time that it is made
abbrev pub is_popping : Event → Bool
is_popping (Take c) = true
is_popping (Deliver c) = true
is_popping (Collect p) = true
is_popping _ = false

-- how many items an event may still pop, each time that it is made
abbrev pub items_of : State → Event → ℕ
items_of s (Take c) = option_map_or (λ side. length side.requests) (slice_get s.channels c) 0
items_of s (Deliver c) = option_map_or (λ side. length side.channel.done) (slice_get s.channels c) 0
items_of s (Collect p) = option_map_or (λ port. length port.completions) (slice_get s.ports p) 0
items_of s (Release p) = option_map_or (λ port. length port.core.reorder.outstanding) (slice_get s.ports p) 0
items_of s _ = 0

-- how many numbers are outstanding at all ports
abbrev pub outstanding : State → ℕ
outstanding s = sum_by (λ port. length port.core.reorder.outstanding) s.ports

-- how many numbers more an event may leave outstanding
abbrev pub added : Event → ℕ
added (Submit p asked) = 1
added _ = 0

-- an event at most so many times, until it is refused
abbrev pub repeated : ℕ → Event → State → State
repeated zero event s = s
repeated (suc n) event s = option_map_or (repeated n event) (made_state (step s event)) s

-- an event until it is refused
abbrev pub until_refused : Event → State → State
until_refused event s = repeated (items_of s event) event s

-- a channel's part of a round: Take until it is refused, Cycle once, Deliver until it is refused; none where its clock is
-- spent
abbrev pub channel_served : ℕ → State → Option State
channel_served c s = option_map (until_refused (Deliver c)) (made_state (step (until_refused (Take c) s) (Cycle c)))

-- the first so many channels, in order
abbrev pub channels_served : ℕ → State → Option State
channels_served zero s = Some s
channels_served (suc c) s = option_and_then (channel_served c) (channels_served c s)

-- the first so many ports, in order: Collect until it is refused
abbrev pub ports_collected : ℕ → State → State
ports_collected zero s = s
ports_collected (suc p) s = until_refused (Collect p) (ports_collected p s)

-- a round: each channel's part, then each port's; none where a clock is spent
abbrev pub round : Config → State → Option State
round config s = option_map (ports_collected config.limits.ports) (channels_served config.geometry.channels s)

-- so many rounds
abbrev pub rounds : Config → ℕ → State → Option State
rounds config zero s = Some s
rounds config (suc n) s = option_and_then (rounds config n) (round config s)

-- why a part of a round was not made: memory was refused, or there is none to be made
abbrev pub IsStopped : Refusal → Option State → Type 0
IsStopped cause part = (cause ≡ OutOfMemory) ⊎ (part ≡ None)

-- A channel's cycle was refused behind what the channel took, and the state is the one before that cycle. Memory was refused only
-- where the cycle issues a command.
pub record IsCycleRefused (cause : Refusal) (c : ℕ) (s after : State) : Type 0 where
  pub state : after ≡ until_refused (Take c) s
  pub refused : IsRefused cause (Cycle c) (step after (Cycle c))
  pub memory : cause ≡ OutOfMemory → MayWantMemory after (Cycle c)

-- of so many channels, from this state on, those before one of them had their parts of a round, and its cycle was refused
pub record IsPartRefused (cause : Refusal) (channels : ℕ) (s after : State) : Type 0 where
  pub channel : ℕ
  pub within : channel < channels
  pub before : State
  pub served : channels_served channel s ≡ Some before
  pub cycle : IsCycleRefused cause channel before after

-- of a round that begins in this state the channels before one of them had their parts, and its cycle was refused
abbrev pub IsRoundRefused : Refusal → Config → State → State → Type 0
IsRoundRefused cause config s after = IsPartRefused cause config.geometry.channels s after

-- exactly so many rounds were made, and the one behind them was refused
pub record IsRefusedBehind (cause : Refusal) (config : Config) (made : ℕ) (s after : State) : Type 0 where
  pub before : State
  pub all : rounds config made s ≡ Some before
  pub next : IsRoundRefused cause config before after
