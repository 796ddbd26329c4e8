-- The statistics of each channel of a core, by what a watcher of its rounds is told.
use Rattle.std.specs.Prelude.{◌≡◌, ℕ, ◌<◌, if◌then◌else◌, List, [], length, fold, All, IsTrue, Option, Some, None, slice_get, slice_set}
use Rattle.std.specs.Option.{option_map_or}
use Rattle.ddr_timing.specs.declared.config.Config.{Config}
use Rattle.ddr_timing.specs.declared.units.TheConstants.{CLOCK_STOP}
use Rattle.ddr_trace.specs.declared.command.Command.{Command}
use Rattle.ddr_trace.specs.declared.command.Entry.{Entry}
use Rattle.ddr_trace.specs.Commands.{rank_of}
use Rattle.ddr_trace.specs.Rules.{is_in}
use Rattle.ddr_statistics.specs.declared.counts.Finding.{Finding}
use Rattle.ddr_statistics.specs.Debts.{IsInOrder}
use Rattle.ddr_statistics.specs.Noted.{found_in}
use Rattle.ddr_statistics.specs.Stands.{StandsFor, noted, rank_at}
use Rattle.ddr_statistics.specs.Tally.{Tally}
use Rattle.ddr_rounds.specs.declared.told.Told.{Told}
use Rattle.ddr_rounds.specs.declared.told.Told.TheVariants as tell
use Rattle.ddr_world.specs.Promise.{trace_at}
use Rattle.ddr_world.specs.State.{State}

-- after a command of the channel; one that lies outside the geometry isn't counted
abbrev pub counted : Entry → Tally → Tally
counted e t = if is_in t.geometry e.command then noted e t else t

-- after some
abbrev pub all_counted : Tally → List Entry → Tally
all_counted t entries = fold (λ x e. counted e x) t entries

-- of each channel, after a command of this one
abbrev pub noted_at : ℕ → Entry → List Tally → List Tally
noted_at c e all = option_map_or (λ t. slice_set all c (counted e t)) (slice_get all c) all

-- of each channel, after what was told
abbrev pub heard : List Tally → Told → List Tally
heard all (tell.Issued c i) = noted_at c i.entry all
heard all _ = all

-- how the next command finds its bank, by what was counted: of a channel, and of the one of this number
abbrev pub finding_of : Command → Tally → Option Finding
finding_of command t = if is_in t.geometry command then found_in (rank_at t (rank_of command)) command else None

abbrev pub finding_at : List Tally → ℕ → Command → Option Finding
finding_at all c command = option_map_or (finding_of command) (slice_get all c) None

-- They are those of a trace so configured, which begins in cycle 0: they stand for it, as its commands lie in the geometry and are
-- fewer than the cycles that a clock has.
pub record IsNotedOf (config : Config) (trace : List Entry) (t : Tally) : Type 0 where
  pub geometry : t.geometry ≡ config.geometry
  pub timing : t.timing ≡ config.timing
  pub start : t.start ≡ 0
  pub stands : All (λ e. IsTrue (is_in config.geometry e.command)) trace → length trace < CLOCK_STOP → StandsFor t trace

-- so it is of each channel of a core that is in this state
pub record AreNoted (config : Config) (s : State) (all : List Tally) : Type 0 where
  pub many : length all ≡ config.geometry.channels
  pub each : (c : ℕ) (t : Tally) → slice_get all c ≡ Some t → IsNotedOf config (trace_at s c) t

-- no command of any channel was counted
pub record AreNew (config : Config) (all : List Tally) : Type 0 where
  pub many : length all ≡ config.geometry.channels
  pub each : All (IsNotedOf config []) all

-- all commands of a trace so configured were counted, which ends before this cycle
pub record AreCounted (config : Config) (end : ℕ) (trace : List Entry) (t : Tally) : Type 0 where
  pub geometry : t.geometry ≡ config.geometry
  pub timing : t.timing ≡ config.timing
  pub start : t.start ≡ 0
  pub stands : StandsFor t trace
  pub few : length trace < CLOCK_STOP
  pub order : IsInOrder end trace
