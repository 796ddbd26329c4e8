-- The colours of a picture of lanes.
use Rattle.std.specs.Prelude.{ℕ, List}
use Rattle.ddr_trace.specs.declared.command.Command.{Command}
use Rattle.ddr_trace.specs.declared.command.Command.TheVariants.{Act, Rd, Wr, RdAuto, WrAuto, Pre, PreAll, Refresh}
use Rattle.ddr_draw.specs.declared.colours.TheConstants.{ACTIVATE, PRECHARGE, READ, REFRESH, WRITE}

-- the colour of a kind of command
abbrev pub fill_of : Command → List ℕ
fill_of (Act rank group bank row) = ACTIVATE.now
fill_of (Rd rank group bank row line) = READ.now
fill_of (RdAuto rank group bank row line) = READ.now
fill_of (Wr rank group bank row line) = WRITE.now
fill_of (WrAuto rank group bank row line) = WRITE.now
fill_of (Pre rank group bank) = PRECHARGE.now
fill_of (PreAll rank) = PRECHARGE.now
fill_of (Refresh rank) = REFRESH.now
