-- What goes through a request queue, and what the list of a port's items keeps.
use Rattle.std.specs.Prelude.{◌≡◌, ℕ, ◌<◌, ◌==◌, Bool, true, false, List, [], ◌∷◌, filter, All, Some}
use Rattle.std.specs.List.{list_any}
use Rattle.ddr_address_map.specs.Map.{place_of}
use Rattle.ddr_address_map.specs.Requests as records
use Rattle.ddr_workers.specs.Sides as sides
use Rattle.ddr_world.specs.declared.item.Item.{Item}
use Rattle.ddr_world.specs.declared.item.Item.TheVariants.{Request, End}
use Rattle.ddr_workers.specs.declared.requests.Route.{Route}

-- the port that an item is of, which is the put side that it comes from
abbrev pub port_of : Item → ℕ
port_of (Request r) = r.port
port_of (End p) = p

-- the items of a port, in order
abbrev pub of_port : ℕ → List Item → List Item
of_port p items = filter (λ x. port_of x == p) items

abbrev pub is_end : Item → Bool
is_end (Request r) = false
is_end (End p) = true

abbrev pub has_end : List Item → Bool
has_end items = list_any is_end items

-- nothing stands after an End
abbrev pub ends_last : List Item → Bool
ends_last [] = true
ends_last (Request r ∷ items) = ends_last items
ends_last (End p ∷ []) = true
ends_last (End p ∷ x ∷ items) = false

-- the request's place is that of its echo's address, on the channel that the queue leads to
pub record IsPlaced (route : Route) (r : records.Request) : Type 0 where
  pub place : place_of route.geometry r.echo.addr ≡ Some r.place
  pub channel : r.place.channel ≡ route.channel

abbrev pub IsPlacedItem : Route → Item → Type 0
IsPlacedItem route (Request r) = IsPlaced route r
IsPlacedItem route (End p) = Unit {0}

-- the items of one port, as its side may put them
pub record IsProper (route : Route) (items : List Item) : Type 0 where
  pub ends : ends_last items ≡ true
  pub placed : All (IsPlacedItem route) items

-- What a push that finds the queue full tells of its port, and a pop that finds it empty
abbrev pub WasFull : sides.PutSide Route Item → Type 0
WasFull s = sides.WasFull (λ _. port_of) IsProper s

abbrev pub WasEmpty : sides.TakeSide Route Item → Type 0
WasEmpty t = sides.WasEmpty (λ _. port_of) IsProper t

-- An item that a pop gives is of one of the ports, its request stands at the right place, and its port has
-- not ended before
pub record IsNext (t : sides.TakeSide Route Item) (x : Item) : Type 0 where
  pub port : port_of x < t.who.count
  pub placed : IsPlacedItem t.who.queue.purpose x
  pub before_end : has_end (of_port (port_of x) t.took) ≡ false

-- What the queue held at its end, port by port
abbrev pub IsLeft : List (sides.PutSide Route Item) → sides.TakeSide Route Item → List Item → Type 0
IsLeft puts take left = sides.IsLeft (λ _. port_of) IsProper puts take left
