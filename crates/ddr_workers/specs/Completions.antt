-- What goes through a completion queue, and what the list of a channel's completions keeps.
use Rattle.std.specs.Prelude.{◌≡◌, ℕ, ◌<◌, ◌==◌, List, filter, All, Option, Some, unwrap_or}
use Rattle.std.specs.Option.{option_map}
use Rattle.ddr_address_map.specs.Map.{place_of}
use Rattle.ddr_address_map.specs.Requests.{Completion}
use Rattle.ddr_workers.specs.declared.completions.Delivery.{Delivery}
use Rattle.ddr_workers.specs.Sides as sides

-- the channel that a completion's address lies on
abbrev pub channel_of : Delivery → Completion → Option ℕ
channel_of delivery done = option_map (λ place. place.channel) (place_of delivery.geometry done.echo.addr)

-- it is for the port that the queue leads to, and of this channel
pub record IsFrom (delivery : Delivery) (from : ℕ) (done : Completion) : Type 0 where
  pub port : done.port ≡ delivery.port
  pub channel : channel_of delivery done ≡ Some from

-- the put side that a completion comes from
abbrev pub source_of : Delivery → Completion → ℕ
source_of delivery done = unwrap_or (channel_of delivery done) 0

-- the completions of a channel, in order
abbrev pub of_channel : Delivery → ℕ → List Completion → List Completion
of_channel delivery channel dones = filter (λ x. source_of delivery x == channel) dones

-- the completions of one channel, as its side may put them: each of a channel, for this port
abbrev pub AreDelivered : Delivery → List Completion → Type 0
AreDelivered delivery dones = All (λ x. IsFrom delivery (source_of delivery x) x) dones

-- What a push that finds the queue full tells of its channel, and a pop that finds it empty
abbrev pub WasFull : sides.PutSide Delivery Completion → Type 0
WasFull s = sides.WasFull source_of AreDelivered s

abbrev pub WasEmpty : sides.TakeSide Delivery Completion → Type 0
WasEmpty t = sides.WasEmpty source_of AreDelivered t

-- A completion that a pop gives is for this port, of one of the channels
pub record IsNext (t : sides.TakeSide Delivery Completion) (done : Completion) : Type 0 where
  pub channel : ℕ
  pub below : channel < t.who.count
  pub from : IsFrom t.who.queue.purpose channel done

-- What the queue held at its end, channel by channel
abbrev pub IsLeft : List (sides.PutSide Delivery Completion) → sides.TakeSide Delivery Completion → List Completion → Type 0
IsLeft puts take left = sides.IsLeft source_of AreDelivered puts take left
