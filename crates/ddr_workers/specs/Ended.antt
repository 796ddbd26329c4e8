-- What a finished port and a worker at its end leave keeps, for the closing of the system.
use Rattle.std.specs.Prelude.{◌≡◌, ℕ, All, length, map, IfSome, Some, slice_get}
use Rattle.std.specs.List.{range_with_len}
use Rattle.ddr_timing.specs.declared.geometry.Geometry.{Geometry}
use Rattle.ddr_address_map.specs.Requests.{Completion}
use Rattle.ddr_workers.specs.declared.completions.Delivery.{Delivery}
use Rattle.ddr_world.specs.declared.item.Item.{Item}
use Rattle.ddr_workers.specs.declared.requests.Route.{Route}
use Rattle.ddr_workers.specs.Counted.{AreAlike, AreWithinLines, numbers_put}
use Rattle.ddr_workers.specs.Judged.{IsJudged}
use Rattle.ddr_workers.specs.Port.{PortEnded}
use Rattle.ddr_workers.specs.PortView.{IsSideTo}
use Rattle.ddr_workers.specs.Sides.{PutSide}
use Rattle.ddr_workers.specs.Worker.{WorkerEnded, IsWorkDone, requests_of}
use Rattle.ddr_workers.specs.WorkerView.{IsSideOf, IsTaken}

pub record IsEnded (e : PortEnded) : Type 0 where
  pub geometry : Geometry
  pub channels : length e.requests ≡ geometry.channels
  -- its sides lead to the channels in order, and its End stands on each
  pub sides : (c : ℕ) (side : PutSide Route Item) → slice_get e.requests c ≡ Some side → IsSideTo e.port geometry geometry.channels c side
  -- the numbers that it pushed are those that it gave up, each once
  pub asked : AreAlike (numbers_put e.requests) (range_with_len 0 e.taken)
  pub within : (c : ℕ) (side : PutSide Route Item) → slice_get e.requests c ≡ Some side → AreWithinLines side
  -- and each of them came back once
  pub got : AreAlike (map (λ d. d.number) e.completions.took) (range_with_len 0 e.taken)

pub record IsWorkerEnded (e : WorkerEnded) : Type 0 where
  pub work : IsWorkDone e.config e
  pub route : e.requests.who.queue.purpose ≡ record { geometry = e.config.geometry; channel = e.number }
  pub count : e.requests.who.count ≡ length e.completions
  -- its sides lead to the ports in order
  pub sides : (p : ℕ) (side : PutSide Delivery Completion) → slice_get e.completions p ≡ Some side → IsSideOf e.config.geometry e.number p side
  -- the trace that was kept is its channel's, and the fault what its judge says of that
  pub kept : IfSome e.kept (λ t. t ≡ e.trace)
  pub judged : IsJudged e.config e.trace e.fault
  -- what it took is of these ports and of its channel
  pub taken : All (IsTaken e.requests.who.queue.purpose (length e.completions)) (requests_of e.requests.took)
