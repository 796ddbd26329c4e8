-- What a channel did in its cycles: in how many of them it drained writes, how many requests were pending, and how many waited in its queue.
use Rattle.std.specs.Prelude.{ℕ, ◌+◌, ◌*◌, ◌/◌, ◌==◌, min, max, false, if◌then◌else◌, length, None, slice_get}
use Rattle.std.specs.Option.{option_map, option_map_or}
use Rattle.ddr_statistics.specs.Noted.{raised}
use Rattle.ddr_address_map.specs.declared.request.Kind.TheVariants.{Read, Write}
use Rattle.ddr_hazards.specs.PendingList.{pending_count}
use Rattle.ddr_world.specs.State.{ChannelSide, State}
use Rattle.ddr_ledger.specs.declared.activity.Activity.{Activity}
use Rattle.ddr_ledger.specs.declared.activity.Held.{Held}
use Rattle.ddr_ledger.specs.declared.activity.Seen.{Seen}

-- what is seen of a channel of the core, behind its part of a round
abbrev pub seen_of : ChannelSide → Seen
seen_of side = record {
  draining = side.channel.drain;
  reads = pending_count Read side.channel.pending;
  writes = pending_count Write side.channel.pending;
  waiting = length side.requests;
  oldest = option_map (λ w. w.admitted) (slice_get side.channel.pending 0);
}

abbrev pub nothing_seen : Seen
nothing_seen = record { draining = false; reads = 0; writes = 0; waiting = 0; oldest = None }

abbrev pub seen_at : State → ℕ → Seen
seen_at s c = option_map_or seen_of (slice_get s.channels c) nothing_seen

-- so many cycles more, in each of which there were so many; the sum stops at the last number that a `u64` holds
abbrev pub held : ℕ → ℕ → Held → Held
held cycles count h = record { sum = min (h.sum + cycles * count) 18446744073709551615; most = max h.most count }

-- a thousand times the mean over so many cycles, rounded down
abbrev pub mean_of : ℕ → Held → ℕ
mean_of cycles h = if cycles == 0 then 0 else 1000 * h.sum / cycles

abbrev pub none_held : Held
none_held = record { sum = 0; most = 0 }

-- before the first cycle
abbrev pub no_activity : Activity
no_activity = record { drains = 0; reads = none_held; writes = none_held; waiting = none_held }

-- so many cycles more, behind each of which this was seen
abbrev pub acted : ℕ → Seen → Activity → Activity
acted cycles seen a = record {
  drains = if seen.draining then raised cycles a.drains else a.drains;
  reads = held cycles seen.reads a.reads;
  writes = held cycles seen.writes a.writes;
  waiting = held cycles seen.waiting a.waiting;
}
