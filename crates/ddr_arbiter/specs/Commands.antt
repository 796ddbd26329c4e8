-- The commands that serve a request, and those that refresh a rank.
use Rattle.std.specs.Prelude.{ℕ, Bool, true, false}
use Rattle.ddr_trace.specs.declared.command.Command.{Command}
use Rattle.ddr_trace.specs.declared.command.Command.TheVariants as command
use Rattle.ddr_address_map.specs.declared.place.Place.{Place}
use Rattle.ddr_address_map.specs.declared.request.Kind.{Kind}
use Rattle.ddr_address_map.specs.declared.request.Kind.TheVariants.{Read, Write}
use Rattle.ddr_address_map.specs.Requests.{Request}

abbrev pub activate_at : Place → Command
activate_at p = command.Act p.rank p.group p.bank p.row

abbrev pub precharge_at : Place → Command
precharge_at p = command.Pre p.rank p.group p.bank

-- RD or WR; with auto-precharge RDA or WRA
abbrev pub column_at : Bool → Kind → Place → Command
column_at false Read p = command.Rd p.rank p.group p.bank p.row p.line
column_at false Write p = command.Wr p.rank p.group p.bank p.row p.line
column_at true Read p = command.RdAuto p.rank p.group p.bank p.row p.line
column_at true Write p = command.WrAuto p.rank p.group p.bank p.row p.line

abbrev pub column_of : Bool → Request → Command
column_of auto r = column_at auto r.echo.kind r.place

abbrev pub precharge_all : ℕ → Command
precharge_all rank = command.PreAll rank

abbrev pub refresh : ℕ → Command
refresh rank = command.Refresh rank
