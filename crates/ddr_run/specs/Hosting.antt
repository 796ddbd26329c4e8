-- One port of a run in threads: what the script asks it for, what it has pushed, and the text of its replies.
use Rattle.std.specs.Prelude.{◌≡◌, ℕ, zero, suc, ◌+◌, ◌<◌, ◌==◌, false, if◌then◌else◌, List, [], ◌∷◌, ◌++◌, length, filter, map, Option, Some, None, slice_get, string_bytes}
use Rattle.std.specs.List.{filter_map}
use Rattle.std.specs.Option.{option_map_or}
use Rattle.ddr_timing.specs.declared.geometry.Geometry.{Geometry}
use Rattle.ddr_address_map.specs.Requests.{Request, Completion}
use Rattle.ddr_reorder.specs.State as reorder
use Rattle.ddr_ports.specs.Asked.{Asked}
use Rattle.ddr_ports.specs.State as core
use Rattle.ddr_ports.specs.State.{request_at}
use Rattle.ddr_world.specs.declared.item.Item.{Item}
use Rattle.ddr_workers.specs.declared.requests.Route.{Route}
use Rattle.ddr_workers.specs.Port.{PortState, PortEnded, IsEndOfPort, IsSamePort, first_with, reply_of}
use Rattle.ddr_workers.specs.Sides.{PutSide}
use Rattle.ddr_workers.specs.Worker.{requests_of}
use Rattle.ddr_text.specs.Replies.{reply_text}
use Rattle.ddr_text.specs.Script.{Instruction, Ask, Rounds}
use Rattle.ddr_run.specs.declared.hosting.Host.TheInside.{Inside}

-- what an instruction asks this port for
abbrev pub asked_at : ℕ → Instruction → Option Asked
asked_at port (Ask p asked) = if p == port then Some asked else None
asked_at port (Rounds count) = None

-- what a script asks this port for, in order
abbrev pub asks_of : ℕ → List Instruction → List Asked
asks_of port instructions = filter_map (asked_at port) instructions

-- a port whose next request has this number
abbrev pub port_at : Geometry → ℕ → ℕ → core.PortState
port_at geometry port number = record { port = port; geometry = geometry; reorder = reorder.opened 0 number; finished = false }

-- the requests for what a port is asked for, with the numbers from this one on
abbrev pub requests_from : Geometry → ℕ → ℕ → List Asked → List (Option Request)
requests_from geometry port number [] = []
requests_from geometry port number (asked ∷ more) = request_at (port_at geometry port number) asked ∷ requests_from geometry port (number + 1) more

-- the requests of a channel, in order
abbrev pub to_channel : ℕ → List Request → List Request
to_channel channel made = filter (λ r. r.place.channel == channel) made

-- before its first request
pub record IsNewPort (number : ℕ) (s : PortState) : Type 0 where
  pub port : s.core.port ≡ number
  pub taken : s.taken ≡ 0
  pub next : s.core.reorder.next ≡ 0
  pub outstanding : s.core.reorder.outstanding ≡ []
  pub pushed : (c : ℕ) (side : PutSide Route Item) → c < s.core.geometry.channels → slice_get s.requests c ≡ Some side → side.put ≡ []

-- On each side these requests were pushed that are of its channel, in order, and no others.
abbrev pub ArePushed : List Request → List (PutSide Route Item) → List (PutSide Route Item) → Type 0
ArePushed made before after =
    (c : ℕ) (side : PutSide Route Item) → slice_get after c ≡ Some side
    → (old : PutSide Route Item) × (slice_get before c ≡ Some old) × (requests_of side.put ≡ requests_of old.put ++ to_channel c made)

-- From the one state to the other the port was asked for these, in order, and took them all.
pub record HasAsked (s s' : PortState) (asks : List Asked) : Type 0 where
  pub same : IsSamePort s s'
  pub geometry : s'.core.geometry ≡ s.core.geometry
  pub next : s'.core.reorder.next ≡ s.core.reorder.next + length asks
  pub made : List Request
  pub made_are : map Some made ≡ requests_from s.core.geometry s.core.port s.core.reorder.next asks
  pub pushed : ArePushed made s.requests s'.requests

-- The port is finished: it gave up a reply to each request, and pushed none since.
pub record HasFinished (s : PortState) (e : PortEnded) : Type 0 where
  pub end : IsEndOfPort s e
  pub taken : e.taken ≡ s.core.reorder.next
  pub pushed : ArePushed [] s.requests e.requests

-- What a finished port pushed is what it was asked for: the requests have the numbers from 0 on, in order, and each stands on
-- the side of its channel. It gave up a reply to each.
pub record AreAsked (geometry : Geometry) (port : ℕ) (asks : List Asked) (e : PortEnded) : Type 0 where
  pub made : List Request
  pub made_are : map Some made ≡ requests_from geometry port 0 asks
  pub pushed : (c : ℕ) (side : PutSide Route Item) → c < geometry.channels → slice_get e.requests c ≡ Some side → requests_of side.put ≡ to_channel c made
  pub taken : e.taken ≡ length asks

-- the line of the reply to the request of a number, once its completion came
abbrev pub line_of : ℕ → List Completion → ℕ → List ℕ
line_of port dones number = option_map_or (λ done. reply_text port (reply_of done)) (first_with number dones) []

-- the lines of so many replies, from number 0 on
abbrev pub replies_text : ℕ → List Completion → ℕ → List ℕ
replies_text port dones zero = []
replies_text port dones (suc n) = replies_text port dones n ++ line_of port dones n

-- What a port in its thread keeps: each number is given up or outstanding, and the text has the replies that were given up.
pub record IsHosting (a : Inside) : Type 0 where
  pub number : a.number ≡ a.port.core.port
  pub counted : a.port.taken + length a.port.core.reorder.outstanding ≡ a.port.core.reorder.next
  pub came : (n : ℕ) → n < a.port.taken → (done : Completion) × (first_with n a.port.completions.took ≡ Some done)
  pub text : string_bytes a.text ≡ replies_text a.number a.port.completions.took a.port.taken
