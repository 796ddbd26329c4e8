-- The shape of a core's memory and of its ports, in C's form.
use Rattle.ddr_timing.specs.declared.config.Config.{Config}
use Rattle.ddr_timing.specs.declared.units.TheConstants.{BURST_CLOCKS, GROUP_BANKS, LINE_BYTES}
use Rattle.ddr_address_map.specs.Map.{capacity_of}
use Rattle.ddr_c.specs.declared.shape.Shape.{Shape}

abbrev pub shape_of : Config → Shape
shape_of config = record {
  capacity = capacity_of config.geometry;
  channels = config.geometry.channels;
  ranks = config.geometry.ranks;
  groups = config.geometry.groups;
  banks = GROUP_BANKS;
  rows = config.geometry.rows;
  columns = config.geometry.columns;
  line = LINE_BYTES;
  burst = BURST_CLOCKS;
  ports = config.limits.ports;
  window = config.limits.window;
}
