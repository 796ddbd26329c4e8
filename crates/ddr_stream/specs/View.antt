-- What contracts see of a `Stream`.
use Rattle.std.specs.Prelude.{◌≡◌, ◌≤◌}
use Rattle.ddr_capture.specs.Feed.{IsWell, waiting}
use Rattle.ddr_capture.specs.declared.feed.TheConstants.{MOST_LINES}
use Rattle.ddr_stream.specs.declared.stream.Stream.TheInside.{Inside}
use Rattle.ddr_stream.specs.Waiting.{IsSized, Waiting}

abbrev pub waiting_of : Inside → Waiting
waiting_of a = record {
  config = a.config;
  reading = a.reading;
  bytes = waiting a.feed;
  count = a.count;
  sent = a.sent;
  taken = a.taken;
  ended = a.ended;
  queues = a.queues.items;
  asked = a.asked.items;
}

pub record IsWhole (a : Inside) : Type 0 where
  pub well : IsWell a.feed
  pub geometry : a.map.geometry ≡ a.config.geometry
  pub few : a.count ≤ MOST_LINES
  pub each : a.sent ≤ a.count
  pub sized : IsSized (waiting_of a)
