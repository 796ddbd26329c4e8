-- What a call finds in its slot, and what it leaves there.
use Rattle.std.specs.Prelude.{◌≡◌, ◌+◌, ◌<◌, ◌-◌, ℕ, ℤ, Bool, true, false, List, if◌then◌else◌, is_some, drop, length, min, slice_get, IfSome, Option, Some, None, Result, Ok, Err}
use Rattle.std.specs.Option.{option_map}
use Rattle.ddr_ports.specs.Asked.{Asked}
use Rattle.ddr_trace.specs.declared.command.Entry.{Entry}
use Rattle.ddr_world.specs.declared.event.Outcome.{Outcome}
use Rattle.ddr_world.specs.declared.event.Refusal.{Refusal}
use Rattle.ddr_world.specs.Answer.{IsAnswered}
use Rattle.ddr_world.specs.Events.{Submit}
use Rattle.ddr_world.specs.History.{front_of, served_of}
use Rattle.ddr_world.specs.Kept.{state_of}
use Rattle.ddr_world.specs.Record.{IsNext, IsRightAt}
use Rattle.ddr_world.specs.Served.{served_service_of}
use Rattle.ddr_world.specs.State.{PortSide}
use Rattle.ddr_c.specs.declared.head.Head.{Head}
use Rattle.ddr_c.specs.declared.host.Core.{Core}
use Rattle.ddr_c.specs.declared.numbers.ChannelNumbers.{ChannelNumbers}
use Rattle.ddr_c.specs.declared.numbers.PortNumbers.{PortNumbers}
use Rattle.ddr_c.specs.declared.host.Next.{Next}
use Rattle.ddr_c.specs.declared.host.Next.TheVariants as next
use Rattle.ddr_c.specs.declared.slot.Slot.{Slot}
use Rattle.ddr_bus.specs.declared.bus.BusCommand.{BusCommand}
use Rattle.ddr_c.specs.declared.codes.TheConstants as code
use Rattle.ddr_c.specs.Codes.{answer_code, code_of, number_told}
use Rattle.ddr_rounds.specs.Continues.{Continues}
use Rattle.ddr_c.specs.Front.{IsNextOf, IsSeen}
use Rattle.ddr_c.specs.Heads.{head_of}
use Rattle.ddr_rounds.specs.Drains.{AreRaised, drained}
use Rattle.ddr_rounds.specs.Rounds.{IsRefusedBehind, IsStopped, rounds}
use Rattle.ddr_c.specs.Numbers.{drains_at, numbers_told}
use Rattle.ddr_c.specs.Stamps.{clock_of, stamped}
use Rattle.ddr_c.specs.Trace.{traced}
use Rattle.ddr_c.specs.Traffic.{port_numbers_of, traffic_at, with_answer, with_next}

-- the core that a slot holds, if it is open
abbrev pub held_in : Slot → Option Core
held_in slot = slot.handle.holds

-- a closed slot stays so, and an open one stays open, with this between the core before and the one after
abbrev pub Calls : Option Core → Option Core → Type 0 → (Core → Core → Type 0) → Type 0
Calls None None closed called = closed
Calls (Some before) (Some after) closed called = called before after
Calls _ _ closed called = ⊥

-- a request was made at a port, and C was told its answer
pub record IsSubmitted (port : ℕ) (asked : Asked) (old new : ℕ) (told : ℤ) (before after : Core) : Type 0 where
  pub answer : Result Outcome Refusal
  pub answered : IsAnswered before.world after.world (Submit port asked) answer
  pub code : told ≡ answer_code answer
  pub number : new ≡ number_told answer old
  pub stamps : after.stamps.accepted.items ≡ stamped port answer (clock_of (state_of before.world)) before.stamps.accepted.items
  pub drains : after.drains ≡ before.drains
  pub traffic : after.traffic.items ≡ with_answer port answer before.traffic.items
  pub continues : Continues before.world after.world

-- all of so many rounds were made, or fewer and the next one was refused: for want of memory only where a channel's cycle issues a
-- command, and the core is left in front of that cycle
pub record IsAdvanced (count made : ℕ) (told : ℤ) (before after : Core) : Type 0 where
  pub stopped : Option Refusal
  pub whole : stopped ≡ None → (told ≡ code.OK) × (made ≡ count) × (rounds before.world.config count (state_of before.world) ≡ Some (state_of after.world))
  pub partly : IfSome stopped (λ cause. (told ≡ code_of cause) × (made < count) × IsStopped cause (rounds before.world.config (made + 1) (state_of before.world)))
  pub refused : IfSome stopped (λ cause. IsRefusedBehind cause before.world.config made (state_of before.world) (state_of after.world))
  -- of each channel the cycles of those rounds in which writes were drained
  pub drains : AreRaised before.world.config.geometry.channels (drained before.world.config made (state_of before.world)) before.drains.items after.drains.items
  pub stamps : after.stamps ≡ before.stamps
  pub traffic : after.traffic ≡ before.traffic
  pub config : after.world.config ≡ before.world.config
  pub continues : Continues before.world after.world

-- the code of what became of a reply of a port, if there is such a port
abbrev pub reply_code : Bool → Next → ℤ
reply_code known next.Nothing = if known then code.NOTHING else code.NO_SUCH
reply_code known (next.TooShort front) = code.TOO_SHORT
reply_code known (next.Given front) = code.OK

-- its head at this clock, or what was there
abbrev pub head_after : Next → ℕ → Head → Head
head_after next.Nothing clock old = old
head_after (next.TooShort front) clock old = head_of front clock
head_after (next.Given front) clock old = head_of front clock

-- the reply in front of a port was given up, with its head and its bytes, or it was not
pub record IsTaken (port : ℕ) (head_old head_new : Head) (old new : List ℕ) (told : ℤ) (before after : Core) : Type 0 where
  pub next : Next
  pub done : IsNextOf (front_of (state_of before.world) port) port before.stamps.accepted.items before.world after.world old new next
  pub code : told ≡ reply_code (is_some (slice_get before.world.ports port)) next
  pub head : head_new ≡ head_after next (clock_of (state_of before.world)) head_old
  pub drains : after.drains ≡ before.drains
  pub stamps : after.stamps ≡ before.stamps
  pub traffic : after.traffic.items ≡ with_next port next (clock_of (state_of before.world)) before.traffic.items
  -- the bytes are those of the next right reply, whatever was done before
  pub right : IfSome (front_of (state_of before.world) port) (IsNext before.world port)
  pub continues : Continues before.world after.world

-- the reply to a port's request was shown, with its head and its bytes, or it was not there
pub record IsServed (port number : ℕ) (head_old head_new : Head) (old new : List ℕ) (told : ℤ) (core : Core) : Type 0 where
  pub next : Next
  pub done : IsSeen (served_of (state_of core.world) port number) (served_service_of (state_of core.world) port number) port core.stamps.accepted.items core.world old new next
  pub code : told ≡ reply_code (is_some (slice_get core.world.ports port)) next
  pub head : head_new ≡ head_after next (clock_of (state_of core.world)) head_old
  -- the bytes are those of the right reply to the request, whatever was done before
  pub right : IfSome (served_of (state_of core.world) port number) (IsRightAt core.world port number)

-- a port's counts are told where there is one
abbrev pub IsCountedOf : Option PortSide → ℕ → ℕ → ℕ → ℕ → ℤ → Type 0
IsCountedOf None accepted taken accepted_new taken_new told = (told ≡ code.NO_SUCH) × (accepted_new ≡ accepted) × (taken_new ≡ taken)
IsCountedOf (Some side) accepted taken accepted_new taken_new told = (told ≡ code.OK) × (accepted_new ≡ side.accepted) × (taken_new ≡ side.taken)

-- a number is told where there is one
abbrev pub Tells : Option ℕ → ℕ → ℕ → ℤ → Type 0
Tells None old new told = (told ≡ code.NO_SUCH) × (new ≡ old)
Tells (Some number) old new told = (told ≡ code.OK) × (new ≡ number)

-- the next cycle of a channel, if there is such a channel
abbrev pub cycle_in : Core → ℕ → Option ℕ
cycle_in core channel = option_map (λ side. side.channel.now) (slice_get core.world.channels channel)

-- the commands of a channel, if there is such a channel
abbrev pub trace_in : Core → ℕ → Option (List Entry)
trace_in core channel = option_map (λ side. side.channel.trace) (slice_get core.world.channels channel)

-- entries from the one of this number on were copied, as far as there are places
abbrev pub IsListed : Option (List Entry) → ℕ → List BusCommand → List BusCommand → ℕ → ℕ → ℤ → Type 0
IsListed None first old new count count_new told = (told ≡ code.NO_SUCH) × (new ≡ old) × (count_new ≡ count)
IsListed (Some entries) first old new count count_new told = (told ≡ code.OK) × (new ≡ traced (drop first entries) old) × (count_new ≡ min (length entries - first) (length old))

-- so it is where traces are kept; else nothing is copied
pub record IsTraced (core : Core) (channel first : ℕ) (old new : List BusCommand) (count count_new : ℕ) (told : ℤ) : Type 0 where
  pub kept : core.world.keeps ≡ true → IsListed (trace_in core channel) first old new count count_new told
  pub unkept : core.world.keeps ≡ false → (told ≡ code.NO_TRACE) × (new ≡ old) × (count_new ≡ count)

-- a channel's numbers are told, or why not
abbrev pub IsChannelTold : Result ChannelNumbers Refusal → ChannelNumbers → ChannelNumbers → ℤ → Type 0
IsChannelTold (Ok numbers) old new told = (told ≡ code.OK) × (new ≡ numbers)
IsChannelTold (Err cause) old new told = (told ≡ code_of cause) × (new ≡ old)

-- those of the channel of this number
abbrev pub IsNumbered : ℕ → ChannelNumbers → ChannelNumbers → ℤ → Core → Type 0
IsNumbered channel old new told core =
    IsChannelTold (numbers_told (option_map (λ side. side.channel) (slice_get core.world.channels channel)) (drains_at core.drains.items channel)) old new told

-- a port's numbers are told where there is one
abbrev pub IsPortTold : Option PortNumbers → PortNumbers → PortNumbers → ℤ → Type 0
IsPortTold None old new told = (told ≡ code.NO_SUCH) × (new ≡ old)
IsPortTold (Some numbers) old new told = (told ≡ code.OK) × (new ≡ numbers)

abbrev pub port_numbers_in : Core → ℕ → Option PortNumbers
port_numbers_in core port = port_numbers_of (slice_get core.world.ports port) (traffic_at core.traffic.items port)
