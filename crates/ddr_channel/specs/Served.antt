-- What serving a request needs, and what it leaves, as the fields of a channel hold it.
use Rattle.std.specs.Prelude.{◌≡◌, ◌<◌, List, Some, slice_get, IfSome}
use Rattle.ddr_timing.specs.declared.geometry.Geometry.{Geometry}
use Rattle.ddr_timing.specs.Banks.{bank_number}
use Rattle.ddr_address_map.specs.declared.place.Place.{Place}
use Rattle.ddr_address_map.specs.Requests.{Completion}
use Rattle.ddr_row_array.specs.Rows.{Rows, line_count, open_row}
use Rattle.ddr_hazards.specs.declared.waiting.Waiting.{Waiting}
use Rattle.ddr_arbiter.specs.declared.choice.Choice.{Choice}
use Rattle.ddr_arbiter.specs.Laws.{column_place_of}
use Rattle.ddr_channel.specs.Issue.{IsBank}
use Rattle.ddr_channel.specs.Kept.{line_cells}
use Rattle.ddr_channel.specs.Memory.{LineAddress}
use Rattle.ddr_channel.specs.State.{State}

-- the row of the place is open, and its line is in the row
pub record IsOpenAt (shape : Geometry) (rows : Rows) (p : Place) : Type 0 where
  pub bank : IsBank shape p.rank p.group p.bank
  pub opened : open_row rows (bank_number shape p.rank p.group p.bank) ≡ Some p.row
  pub line : p.line < line_count rows

-- so it is of the request whose column command was chosen
abbrev pub MayServe : Geometry → Choice → List Waiting → Rows → Type 0
MayServe shape c pending rows = IfSome (column_place_of c) (λ place. IfSome (slice_get pending place) (λ w. IsOpenAt shape rows w.request.place))

-- the state's pending requests, its requests in flight, and its bytes
pub record Holds (s : State) (pending : List Waiting) (flight : List Completion) (rows : Rows) : Type 0 where
  pub pending_are : s.pending ≡ pending
  pub flight_is : s.flight ≡ flight
  pub bytes : (address : LineAddress) → line_cells s.config.geometry rows address ≡ s.cells address
