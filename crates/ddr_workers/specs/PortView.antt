-- What the fields of a port stand for, and what they keep.
use Rattle.std.specs.Prelude.{◌≡◌, ℕ, ◌+◌, ◌≤◌, false, List, All, length, nat_lt, Some, None, IfSome, slice_get}
use Rattle.std.specs.Option.{option_map}
use Rattle.ddr_timing.specs.declared.geometry.Geometry.{Geometry}
use Rattle.ddr_address_map.specs.Requests.{Completion}
use Rattle.ddr_reorder.specs.Replies.{answer_of}
use Rattle.ddr_reorder.specs.Sound.{IsSound}
use Rattle.ddr_reorder.specs.State.{Outstanding}
use Rattle.ddr_ports.specs.State.{service_of}
use Rattle.ddr_workers.specs.declared.port.Port.TheInside.{Inside}
use Rattle.ddr_workers.specs.declared.port.PortEnd.TheInside as end_inside
use Rattle.ddr_world.specs.declared.item.Item.{Item}
use Rattle.ddr_workers.specs.declared.requests.Route.{Route}
use Rattle.ddr_workers.specs.Port.{PortState, PortEnded, first_with, reply_of}
use Rattle.ddr_workers.specs.Requests.{has_end}
use Rattle.ddr_workers.specs.Sides.{PutSide}

abbrev pub state_of : Inside → PortState
state_of a = record {
  id = a.id;
  core = a.core;
  taken = a.taken;
  requests = a.requests.items;
  completions = a.completions;
  ended = a.ended;
  broken = a.broken;
}

abbrev pub ended_of : end_inside.Inside → PortEnded
ended_of a = record { id = a.id; port = a.port; taken = a.taken; requests = a.requests.items; completions = a.completions }

-- the side is this port's, it leads to that channel, and an End stands on it exactly where it was pushed
pub record IsSideTo (port : ℕ) (geometry : Geometry) (ended : ℕ) (channel : ℕ) (side : PutSide Route Item) : Type 0 where
  pub source : side.who.source ≡ port
  pub route : side.who.queue.purpose ≡ record { geometry = geometry; channel = channel }
  pub ends : has_end side.put ≡ nat_lt channel ended

-- what stands ready for a number is the reply of the first completion with it, and so are the cycles that it tells
pub record IsReady (dones : List Completion) (o : Outstanding) : Type 0 where
  pub reply : IfSome (answer_of o) (λ answer. option_map reply_of (first_with answer.number dones) ≡ Some answer)
  pub service : IfSome o.service (λ v. option_map service_of (first_with o.number dones) ≡ Some v)

-- no completion has come for a number that is waited for
abbrev pub IsAwaited : List Completion → Outstanding → Type 0
IsAwaited dones o = o.line ≡ None → first_with o.number dones ≡ None

-- What every port keeps
pub record IsWhole (s : PortState) : Type 0 where
  pub channels : length s.requests ≡ s.core.geometry.channels
  pub few : s.core.geometry.channels ≤ 4
  pub sides : (c : ℕ) (side : PutSide Route Item) → slice_get s.requests c ≡ Some side → IsSideTo s.core.port s.core.geometry s.ended c side
  pub ended : s.ended ≤ s.core.geometry.channels
  -- no End is pushed before the port is finished
  pub unfinished : s.core.finished ≡ false → s.ended ≡ 0
  -- the numbers from 0 on were given up or are outstanding
  pub counted : s.taken + length s.core.reorder.outstanding ≡ s.core.reorder.next
  pub sound : IsSound s.core.reorder
  pub ready : All (IsReady s.completions.took) s.core.reorder.outstanding
  -- until a completion came that the port did not wait for
  pub awaited : s.broken ≡ false → All (IsAwaited s.completions.took) s.core.reorder.outstanding
  pub fresh : s.broken ≡ false → (number : ℕ) → s.core.reorder.next ≤ number → first_with number s.completions.took ≡ None
