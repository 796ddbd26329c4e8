-- Rounds in which nothing is to be done.
use Rattle.std.specs.Prelude.{◌≡◌, ◌+◌, ◌-◌, ◌<◌, ◌≤◌, ℕ, List, length, Option, None, Ok, IfOk}
use Rattle.ddr_timing.specs.declared.config.Config.{Config}
use Rattle.ddr_world.specs.History.{front_of}
use Rattle.ddr_world.specs.Kept.{state_of}
use Rattle.ddr_world.specs.Quiet.{IsQuietFor, passed}
use Rattle.ddr_world.specs.State.{State}
use Rattle.ddr_rounds.specs.Rounds.{outstanding}
use Rattle.ddr_sim.specs.Rounds.{Run, rounds}
use Rattle.ddr_sim.specs.Simulated.{Leads, Simulated, run_at}

-- so many rounds may be made, the core is quiet in each of them, and no reply is in front of a port
pub record AreQuiet (config : Config) (count : ℕ) (s : State) (left : ℕ) : Type 0 where
  pub channels : length s.channels ≡ config.geometry.channels
  pub core : IsQuietFor count s
  pub fronts : (port : ℕ) → port < config.limits.ports → front_of s port ≡ None
  pub most : count ≤ left

-- after so many quiet rounds
abbrev pub quietly : ℕ → Run → Run
quietly count run = record run { state = passed count run.state; left = run.left - count }

-- so many rounds were made, of at most so many; until the last of them as many numbers stay outstanding
pub record HasMade (most : ℕ) (old : Simulated) (before : Option (List ℕ)) (new : Simulated) (after : Option (List ℕ)) (count : ℕ) : Type 0 where
  pub some : 0 < count
  pub within : count ≤ most
  pub leads : Leads (rounds old.config count) old before new after (Ok tt)
  pub left : old.left ≡ new.left + count
  pub waits : (text : List ℕ) (k : ℕ) → k < count → IfOk (rounds old.config k (run_at old text)) (λ run. outstanding run.state ≡ outstanding (state_of old.world))
