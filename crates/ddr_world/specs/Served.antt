-- When the request of a reply was served.
use Rattle.std.specs.Prelude.{◌≡◌, ℕ, ◌+◌, Bool, List, Option, Some, slice_get}
use Rattle.std.specs.Option.{option_and_then}
use Rattle.ddr_timing.specs.declared.config.Config.{Config}
use Rattle.ddr_trace.specs.Commands.{entry}
use Rattle.ddr_address_map.specs.declared.place.Place.{Place}
use Rattle.ddr_address_map.specs.declared.request.Echo.{Echo}
use Rattle.ddr_address_map.specs.Map.{place_of}
use Rattle.ddr_arbiter.specs.Commands.{column_at}
use Rattle.ddr_channel.specs.Cycle.{service_time}
use Rattle.ddr_reorder.specs.declared.reply.Service.{Service}
use Rattle.ddr_reorder.specs.Replies.{Answer, nth_service, served_service}
use Rattle.ddr_world.specs.History.{Opening, Answered}
use Rattle.ddr_world.specs.Kept.{Kept, state_of}
use Rattle.ddr_world.specs.Promise.{trace_at}
use Rattle.ddr_world.specs.Record.{StandsFor}
use Rattle.ddr_world.specs.State.{State}

-- when the request was served whose reply the port lends
abbrev pub front_service : State → ℕ → Option Service
front_service s p = option_and_then (λ port. nth_service port.core.reorder 0) (slice_get s.ports p)

-- when the port's request of a number was served, once its line is there
abbrev pub served_service_of : State → ℕ → ℕ → Option Service
served_service_of s p number = option_and_then (λ port. served_service port.core.reorder number) (slice_get s.ports p)

-- A request that asks for this was served in these cycles: in the first one its read or write stands in the trace of the
-- channel that the address names, and the second one is a latency and a burst later.
pub record WasServed (config : Config) (s : State) (echo : Echo) (v : Service) : Type 0 where
  pub place : Place
  pub addressed : place_of config.geometry echo.addr ≡ Some place
  pub auto : Bool
  pub at : ℕ
  pub command : slice_get (trace_at s place.channel) at ≡ Some (entry v.issued (column_at auto echo.kind place))
  pub due : v.due ≡ v.issued + service_time config echo.kind

-- so it was with the request of a reply, where the core stands for a record of events
abbrev pub TellsService : Kept → Answer → Service → Type 0
TellsService k a v = (opening : Opening) (events : List Answered) → StandsFor k opening events → WasServed k.config (state_of k) a.echo v
