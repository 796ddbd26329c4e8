-- When a replay ends though requests are left: no refresh interval leaves time to serve one.
use Rattle.std.specs.Prelude.{◌≡◌, ℕ, ◌*◌, ◌-◌, ◌<◌, ◌≤◌, false, Bool, List, Result, Ok}
use Rattle.ddr_timing.specs.declared.config.Config.{Config}
use Rattle.ddr_timing.specs.declared.units.TheConstants.{STUCK_INTERVALS}
use Rattle.ddr_latency.specs.Latency.{leaves_time}
use Rattle.ddr_text.specs.declared.fault.Fault.{Fault}
use Rattle.ddr_rounds.specs.Rounds.{outstanding}
use Rattle.ddr_stream.specs.Stream.{Queues}
use Rattle.ddr_replay.specs.declared.replaying.TheConstants.{MOST_ROUNDS}
use Rattle.ddr_replay.specs.Runs.{Run, begun, replayed}
use Rattle.ddr_replay.specs.Taken.{taken_of}
use Rattle.ddr_replay.specs.declared.taken.Taking.{Taking}

-- a refresh interval leaves no time to serve a request, some wait, and at least so many intervals are over in this cycle
pub record CannotGoOn (config : Config) (run : Run) (cycle : ℕ) : Type 0 where
  pub short : leaves_time config ≡ false
  pub waits : 0 < outstanding run.state
  pub long : STUCK_INTERVALS * config.timing.refi ≤ cycle
  pub past : cycle ≤ run.round

-- the replay comes to such a run
pub record IsStuckIn (config : Config) (said : Result Run Fault) (cycle : ℕ) : Type 0 where
  pub run : Run
  pub leads : said ≡ replayed config (MOST_ROUNDS - run.round) run
  pub stuck : CannotGoOn config run cycle

-- the replay of a body comes to such a run
pub record IsStuckBody (config : Config) (taking : Taking) (keeps : Bool) (body : List ℕ) (cycle : ℕ) : Type 0 where
  pub queues : Queues
  pub read : taken_of config taking body ≡ Ok queues
  pub stuck : IsStuckIn config (replayed config MOST_ROUNDS (begun config keeps taking.order queues)) cycle
