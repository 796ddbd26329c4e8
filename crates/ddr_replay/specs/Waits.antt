-- Ports that wait, and rounds in which nothing is to be done.
use Rattle.std.specs.Prelude.{◌≡◌, ℕ, zero, suc, ◌<◌, ◌≤◌, ◌⊎◌, Bool, false, nat_le, if◌then◌else◌, List, [], ◌∷◌, length, slice_get, Some, None, IfSome}
use Rattle.ddr_timing.specs.declared.config.Config.{Config}
use Rattle.ddr_ports.specs.State.{refusal_of}
use Rattle.ddr_ports.specs.declared.refusal.PortError.TheVariants.{WindowFull}
use Rattle.ddr_world.specs.Quiet.{IsQuietFor}
use Rattle.ddr_world.specs.Served.{front_service}
use Rattle.ddr_world.specs.State.{PortSide, State}
use Rattle.ddr_stream.specs.declared.ask.Ask.{Ask}
use Rattle.ddr_stream.specs.Asks.{asked_by}
use Rattle.ddr_ledger.specs.Ledgers.{Ledger, with_full}
use Rattle.ddr_replay.specs.Runs.{Run}
use Rattle.ddr_stream.specs.Stream.{Queues, queue_at}

-- the port's window is full
pub record IsFull (p : ℕ) (ask : Ask) (s : State) : Type 0 where
  pub port : PortSide
  pub there : slice_get s.ports p ≡ Some port
  pub full : refusal_of port.core (asked_by ask) ≡ Some WindowFull

-- where the cycle lies ahead: the port's next request is for that cycle or a later one, or its cycle has come and the port's window
-- is full
abbrev pub IsWaiting : ℕ → ℕ → ℕ → List Ask → State → Type 0
IsWaiting p until round queue s = round < until → IfSome (slice_get queue 0) (λ ask. (until ≤ ask.at) ⊎ ((ask.at ≤ round) × IsFull p ask s))

abbrev pub IsWaitingIn : ℕ → ℕ → Run → Type 0
IsWaitingIn p until run = IsWaiting p until run.round (queue_at run.queues p) run.state

-- so it is for each port
abbrev pub AreWaiting : ℕ → ℕ → Run → Type 0
AreWaiting ports until run = (p : ℕ) → p < ports → IsWaitingIn p until run

-- the cycle of the next request has come
abbrev pub has_come : ℕ → List Ask → Bool
has_come round [] = false
has_come round (ask ∷ more) = nat_le ask.at round

-- of a port
abbrev pub come_of : ℕ → Queues → ℕ → Bool
come_of round queues p = has_come round (queue_at queues p)

-- a port whose request's cycle has come waits in so many rounds for its window, and so does each of the first so many ports
abbrev pub filled : ℕ → (ℕ → Bool) → ℕ → Ledger → Ledger
filled rounds come p ledger = if come p then with_full p rounds ledger else ledger

abbrev pub all_full : ℕ → (ℕ → Bool) → ℕ → Ledger → Ledger
all_full rounds come zero ledger = ledger
all_full rounds come (suc p) ledger = filled rounds come p (all_full rounds come p ledger)

-- the core is quiet in so many rounds, and no reply is in front of a port
pub record AreQuiet (config : Config) (count : ℕ) (s : State) : Type 0 where
  pub channels : length s.channels ≡ config.geometry.channels
  pub core : IsQuietFor count s
  pub fronts : (port : ℕ) → port < config.limits.ports → front_service s port ≡ None
