-- What a channel's fields stand for.
use Rattle.std.specs.Prelude.{◌≡◌, ◌≤◌}
use Rattle.ddr_timing.specs.declared.units.TheConstants.{CLOCK_STOP, MOST_RANKS}
use Rattle.ddr_channel.specs.declared.channel.Channel.TheInside.{Inside}
use Rattle.ddr_channel.specs.Choice.{refreshes_of}
use Rattle.ddr_channel.specs.Kept.{Kept, state_of, AgreesWith}
use Rattle.ddr_channel.specs.Quiet.{IsStillUntil}
use Rattle.ddr_channel.specs.Sound.{IsSound}

abbrev pub kept_of : Inside → Kept
kept_of a = record {
  config = a.config;
  start = a.legality.bus.start;
  now = a.legality.bus.now;
  pending = a.pending.waiting;
  drain = a.drain;
  flight = a.flight.items;
  done = a.done.items;
  trace = a.legality.bus.trace;
  rows = a.rows;
  spare = a.legality.spare;
  keeps = a.legality.keeps;
}

-- what the fields keep, beside what every state does
pub record IsWhole (a : Inside) : Type 0 where
  pub sound : IsSound (state_of (kept_of a))
  pub of_config : a.legality.bus.config ≡ a.config
  pub clock : a.legality.bus.now ≤ CLOCK_STOP
  pub reads : a.pending.read_limit ≡ a.config.limits.reads
  pub writes : a.pending.write_limit ≡ a.config.limits.writes
  -- the debts have counted the cycles that were made and the REFs that were issued
  pub debts : a.debts ≡ refreshes_of (state_of (kept_of a)) MOST_RANKS
  pub flight_room : a.flight.capacity ≡ a.config.limits.done
  pub done_room : a.done.capacity ≡ a.config.limits.done
  pub agrees : AgreesWith a.config a.legality.bus.trace a.rows
  -- before the cycle that is kept nothing is chosen
  pub still : IsStillUntil a.still_until (state_of (kept_of a))
