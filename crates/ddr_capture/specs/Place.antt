-- Where a captured command goes, as other simulators write it: numbers, of which some are not used.
use Rattle.std.specs.Prelude.{Option, Some}
use Rattle.ddr_trace.specs.declared.command.Command.{Command}
use Rattle.ddr_trace.specs.declared.command.Command.TheVariants as commands
use Rattle.ddr_trace_text.specs.Parse.{◌>>=◌}
use Rattle.ddr_capture.specs.declared.place.CommandKind.{CommandKind}
use Rattle.ddr_capture.specs.declared.place.CommandKind.TheVariants as kinds
use Rattle.ddr_capture.specs.declared.place.PartialPlace.{PartialPlace}

-- the command of a kind; none where a number that it needs is not given, and what it doesn't need has no say
unfoldable pub command_of : CommandKind → PartialPlace → Option Command
command_of kinds.Activate p = do
  k ← p.rank
  g ← p.group
  b ← p.bank
  w ← p.row
  Some (commands.Act k g b w)
command_of kinds.Read p = do
  k ← p.rank
  g ← p.group
  b ← p.bank
  w ← p.row
  l ← p.line
  Some (commands.Rd k g b w l)
command_of kinds.Write p = do
  k ← p.rank
  g ← p.group
  b ← p.bank
  w ← p.row
  l ← p.line
  Some (commands.Wr k g b w l)
command_of kinds.ReadAuto p = do
  k ← p.rank
  g ← p.group
  b ← p.bank
  w ← p.row
  l ← p.line
  Some (commands.RdAuto k g b w l)
command_of kinds.WriteAuto p = do
  k ← p.rank
  g ← p.group
  b ← p.bank
  w ← p.row
  l ← p.line
  Some (commands.WrAuto k g b w l)
command_of kinds.Precharge p = do
  k ← p.rank
  g ← p.group
  b ← p.bank
  Some (commands.Pre k g b)
command_of kinds.PrechargeAll p = do
  k ← p.rank
  Some (commands.PreAll k)
command_of kinds.Refresh p = do
  k ← p.rank
  Some (commands.Refresh k)
