-- What contracts see of an event: what is asked for, without where its bytes lie in memory.
use Rattle.std.specs.Prelude.{ℕ}
use Rattle.ddr_ports.specs.Asked.{Asked, asked_of}
use Rattle.ddr_world.specs.declared.event.Event as given
use Rattle.ddr_world.specs.declared.event.Event.TheVariants as given_event

pub data Event : Type 0 where
  -- of a port
  Submit : ℕ → Asked → Event
  -- of a channel
  Take : ℕ → Event
  Cycle : ℕ → Event
  Deliver : ℕ → Event
  -- of a port
  Collect : ℕ → Event
  Release : ℕ → Event
  -- of a port, to a channel
  End : ℕ → ℕ → Event

abbrev pub event_of : given.Event → Event
event_of (given_event.Submit port request) = Submit port (asked_of request)
event_of (given_event.Take channel) = Take channel
event_of (given_event.Cycle channel) = Cycle channel
event_of (given_event.Deliver channel) = Deliver channel
event_of (given_event.Collect port) = Collect port
event_of (given_event.Release port) = Release port
event_of (given_event.End port channel) = End port channel
