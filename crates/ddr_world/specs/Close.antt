-- What is left of a core that was closed.
use Rattle.std.specs.Prelude.{◌≡◌, List, ℕ, true, false, if◌then◌else◌, length, map, Option, Some, None}
use Rattle.std.specs.List.{AllByRecursion, range_with_len}
use Rattle.std.specs.Option.{IsSomeAnd}
use Rattle.ddr_trace.specs.Legality.{IsLegal, IsRefreshed}
use Rattle.ddr_trace.specs.Traces.{Recorded}
use Rattle.ddr_world.specs.History.{Opening, Answered, History, run}
use Rattle.ddr_world.specs.Kept.{KeptSide, Kept, Left}
use Rattle.ddr_world.specs.Promise.{IsFinished}
use Rattle.ddr_world.specs.Record.{StandsFor}

-- the commands of a channel, from its first cycle to the next one
abbrev pub trace_of : KeptSide → Recorded
trace_of side = record { start = side.channel.start; end = side.channel.now; entries = side.channel.trace }

-- that, where the channel keeps it
abbrev pub kept_trace : KeptSide → Option Recorded
kept_trace side = if side.channel.keeps then Some (trace_of side) else None

-- the counts of each port, and the commands of each channel
pub record IsLeftOf (k : Kept) (left : Left) : Type 0 where
  pub accepted : left.accepted ≡ map (λ side. side.accepted) k.ports
  pub taken : left.taken ≡ map (λ side. side.taken) k.ports
  pub traces : left.traces ≡ map kept_trace k.channels

-- of each port, how many requests the record of events accepted
abbrev pub counts_of : History → List ℕ
counts_of h = map (λ p. length (h.sent p)) (range_with_len 0 (length h.state.ports))

-- the trace begins with the core's first cycle, and is legal and refreshed to its end under the configuration that the core was
-- opened with, so that the checker of a whole trace finds nothing
pub record IsRightTrace (o : Opening) (t : Recorded) : Type 0 where
  pub start : t.start ≡ o.cycle
  pub legal : IsLegal o.config o.cycle t.end t.entries
  pub refreshed : IsRefreshed o.config o.cycle t.end t.entries

-- the record is finished, and the counts are those of its accepted requests: as many replies were taken; each channel's
-- trace is there, legal and refreshed, where the core was opened with traces
pub record IsWhole (o : Opening) (h : History) (left : Left) : Type 0 where
  pub finished : IsFinished h
  pub accepted : left.accepted ≡ counts_of h
  pub taken : left.taken ≡ counts_of h
  pub channels : length left.traces ≡ o.config.geometry.channels
  pub traces : o.keeps ≡ true → AllByRecursion (λ t. IsSomeAnd t (IsRightTrace o)) left.traces
  pub untold : o.keeps ≡ false → AllByRecursion (λ t. t ≡ None) left.traces

-- so it is for every record that the core stood for
abbrev pub GaveAll : Kept → Left → Type 0
GaveAll k left = (opening : Opening) (events : List Answered) → StandsFor k opening events → IsWhole opening (run opening events) left
