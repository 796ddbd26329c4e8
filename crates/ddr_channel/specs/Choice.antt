-- What the channel does in a cycle: the scheduler's choice, in the situation that the channel is in.
use Rattle.std.specs.Prelude.{ℕ, ◌+◌, ◌-◌, Bool, nat_lt, List, length, map}
use Rattle.std.specs.List.{range_with_len}
use Rattle.ddr_timing.specs.declared.config.Config.{Config}
use Rattle.ddr_trace.specs.Rules.{refresh_count}
use Rattle.ddr_legality.specs.Bus.{Bus}
use Rattle.ddr_refresh.specs.Refreshes.{Refreshes, after_tick}
use Rattle.ddr_arbiter.specs.declared.choice.Choice.{Choice}
use Rattle.ddr_arbiter.specs.declared.policy.Policy.{Policy}
use Rattle.ddr_arbiter.specs.Choice as arbiter
use Rattle.ddr_arbiter.specs.Commands.{refresh}
use Rattle.ddr_arbiter.specs.Situation.{Situation}
use Rattle.ddr_channel.specs.State.{State}

abbrev pub bus_of : State → Bus
bus_of s = record { config = s.config; start = s.start; now = s.now; trace = s.trace }

abbrev pub policy_of : Config → Policy
policy_of config = record { cap = config.limits.cap; low = config.limits.low; high = config.limits.high; closed = config.limits.closed }

-- in flight and done together there is room for one more
abbrev pub has_room : State → Bool
has_room s = nat_lt (length s.flight + length s.done) s.config.limits.done

-- a rank's refreshes, by the cycles that were made and its REFs in the trace
abbrev pub rank_refreshes : State → ℕ → Refreshes
rank_refreshes s rank = record {
  refi = s.config.timing.refi;
  postpone = s.config.timing.postpone;
  ticks = s.now - s.start;
  issued = refresh_count s.trace (refresh rank);
}

-- those of so many ranks, from rank 0 on
abbrev pub refreshes_of : State → ℕ → List Refreshes
refreshes_of s ranks = map (rank_refreshes s) (range_with_len 0 ranks)

-- What the scheduler finds, where the drain mode is this cycle's already. A refresh that falls due in this cycle counts.
abbrev pub situation_of : State → Situation
situation_of s = record {
  waiting = s.pending;
  bus = bus_of s;
  refreshes = map after_tick (refreshes_of s s.config.geometry.ranks);
  policy = policy_of s.config;
  drain = s.drain;
  room = has_room s;
}

abbrev pub choice_of : State → Choice
choice_of s = arbiter.choice_of (situation_of s)
