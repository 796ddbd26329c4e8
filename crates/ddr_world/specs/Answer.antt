-- What the core answers to an event.
use Rattle.std.specs.Prelude.{◌≡◌, ◌≢◌, Result, Err, IfOk, IfErr, IfSome, IsTrue, OnErr, slice_get}
use Rattle.ddr_arbiter.specs.declared.choice.Choice.TheVariants as choice
use Rattle.ddr_channel.specs.Choice.{choice_of}
use Rattle.ddr_channel.specs.Cycle.{at_choice}
use Rattle.ddr_channel.specs.Room.{wants_memory}
use Rattle.ddr_channel.specs.State as channel_state
use Rattle.ddr_world.specs.declared.event.Outcome.{Outcome}
use Rattle.ddr_world.specs.declared.event.Refusal.{Refusal}
use Rattle.ddr_world.specs.declared.event.Refusal.TheVariants.{OutOfMemory}
use Rattle.ddr_world.specs.Events.{Event, Cycle}
use Rattle.ddr_world.specs.Kept.{Kept, state_of}
use Rattle.ddr_world.specs.State.{State}
use Rattle.ddr_world.specs.Step.{Step, IsRefusedFor, made, step}

-- refused by the name that the step gives; a cycle also for want of memory
abbrev pub IsRefused : Refusal → Event → Step → Type 0
IsRefused cause (Cycle c) s = IsRefusedFor cause s
IsRefused cause _ s = s ≡ Err cause

-- the channel's next cycle issues a command
abbrev pub Issues : channel_state.State → Type 0
Issues s = choice_of (at_choice s) ≢ choice.Nothing

-- for want of memory only a cycle that issues a command
abbrev pub MayWantMemory : State → Event → Type 0
MayWantMemory s (Cycle c) = IfSome (slice_get s.channels c) (λ side. Issues side.channel)
MayWantMemory s _ = Unit {0}

-- and there only where the command finds no room
abbrev pub WantsMemory : Kept → Event → Type 0
WantsMemory k (Cycle c) = IfSome (slice_get k.channels c) (λ side. IsTrue (wants_memory side.channel))
WantsMemory k _ = Unit {0}

-- the event was made as the step says, or refused and the state is the same
pub record IsAnswered (before after : Kept) (event : Event) (answer : Result Outcome Refusal) : Type 0 where
  pub ok : IfOk answer (λ o. step (state_of before) event ≡ made (state_of after) o)
  pub refused : IfErr answer (λ cause. IsRefused cause event (step (state_of before) event))
  pub memory : IfErr answer (λ cause. cause ≡ OutOfMemory → WantsMemory before event)
  pub err : OnErr answer (state_of after ≡ state_of before)
  pub config : after.config ≡ before.config
  pub keeps : after.keeps ≡ before.keeps
