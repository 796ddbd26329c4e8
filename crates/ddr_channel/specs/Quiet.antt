-- Cycles in which a channel completes nothing and issues nothing, and those in which nothing is chosen.
use Rattle.std.specs.Prelude.{◌≡◌, ℕ, zero, suc, Bool, ◌<◌, ◌==◌, ◌&&◌, nat_lt, [], filter}
use Rattle.ddr_timing.specs.declared.units.TheConstants.{CLOCK_STOP}
use Rattle.ddr_arbiter.specs.declared.choice.Choice.TheVariants as choice
use Rattle.ddr_arbiter.specs.Forced as forced
use Rattle.ddr_arbiter.specs.Quiet.{IsQuietUntil}
use Rattle.ddr_arbiter.specs.Situation.{Situation}
use Rattle.ddr_channel.specs.Choice.{choice_of, situation_of}
use Rattle.ddr_channel.specs.Cycle.{after_cycle, at_choice, drained}
use Rattle.ddr_channel.specs.State.{State}

-- the next cycle can be made, and in it nothing completes and nothing is issued
pub record IsIdleNext (s : State) : Type 0 where
  pub clock : s.now < CLOCK_STOP
  pub completes : filter (λ d. d.due == s.now) s.flight ≡ []
  pub issues : choice_of (at_choice s) ≡ choice.Nothing

-- after so many cycles
abbrev pub after_cycles : ℕ → State → State
after_cycles zero s = s
after_cycles (suc count) s = after_cycles count (after_cycle s)

-- so it is in each of so many cycles from now on, with no other call between them
abbrev pub IsQuiet : ℕ → State → Type 0
IsQuiet zero s = Unit {0}
IsQuiet (suc count) s = IsIdleNext s × IsQuiet count (after_cycle s)

-- the drain mode after so many quiet cycles: from the first of them on it stays
abbrev pub drain_after : ℕ → State → Bool
drain_after zero s = s.drain
drain_after (suc count) s = (drained s).drain

-- in each cycle from now on that is before this one nothing is chosen, whatever completes in them
abbrev pub IsStillUntil : ℕ → State → Type 0
IsStillUntil end s = IsQuietUntil end (situation_of (at_choice s))

-- a rank has to be refreshed in the next cycle, if there is one
abbrev pub is_forced_in : Situation → Bool
is_forced_in s = forced.must_refresh s.waiting s.refreshes

abbrev pub must_refresh : State → Bool
must_refresh s = nat_lt s.now CLOCK_STOP && is_forced_in (situation_of (at_choice s))
