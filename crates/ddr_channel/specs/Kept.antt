-- What contracts see of a channel: its state, with the rows in place of the bytes of each line, and the trace's room.
use Rattle.std.specs.Prelude.{◌≡◌, ℕ, ◌/◌, ◌<◌, Bool, List, replicate, if◌then◌else◌}
use Rattle.ddr_timing.specs.declared.config.Config.{Config}
use Rattle.ddr_timing.specs.declared.geometry.Geometry.{Geometry}
use Rattle.ddr_timing.specs.declared.units.TheConstants.{GROUP_BANKS, LINE_BYTES, LINE_COLUMNS}
use Rattle.ddr_timing.specs.Banks as geometry
use Rattle.ddr_trace.specs.declared.command.Entry.{Entry}
use Rattle.ddr_trace.specs.declared.command.Command.TheVariants.{Pre}
use Rattle.ddr_trace.specs.Banks.{bank_behind, ready_row}
use Rattle.ddr_trace.specs.Rules.{is_bank_in}
use Rattle.ddr_address_map.specs.Requests.{Completion}
use Rattle.ddr_row_array.specs.Rows.{Rows, bank_count, row_count, line_count, open_row, cells}
use Rattle.ddr_hazards.specs.declared.waiting.Waiting.{Waiting}
use Rattle.ddr_channel.specs.Memory.{LineAddress}
use Rattle.ddr_channel.specs.State.{State}

pub record Kept : Type 0 where
  pub config : Config
  pub start : ℕ
  pub now : ℕ
  pub pending : List Waiting
  pub drain : Bool
  pub flight : List Completion
  pub done : List Completion
  pub trace : List Entry
  pub rows : Rows
  -- for how many further entries the trace has room
  pub spare : ℕ
  -- whether the trace is kept
  pub keeps : Bool

-- the bytes of a line in the rows; of a bank that the geometry doesn't have they are zeros
abbrev pub line_cells : Geometry → Rows → LineAddress → List ℕ
line_cells shape rows a =
    if is_bank_in shape a.rank a.group a.bank then cells rows (geometry.bank_number shape a.rank a.group a.bank) a.row a.line
    else replicate LINE_BYTES 0

-- the state that a channel is in
abbrev pub state_of : Kept → State
state_of k = record {
  config = k.config;
  start = k.start;
  now = k.now;
  pending = k.pending;
  drain = k.drain;
  flight = k.flight;
  done = k.done;
  trace = k.trace;
  cells = line_cells k.config.geometry k.rows;
}

-- The rows have the geometry's shape, and the open rows that the trace leaves for reads and writes: a row that an RDA or
-- WRA is to close is closed in the rows at once, since its data have moved.
pub record AgreesWith (config : Config) (trace : List Entry) (rows : Rows) : Type 0 where
  pub banks : bank_count rows ≡ geometry.bank_count config.geometry
  pub rows_are : row_count rows ≡ config.geometry.rows
  pub lines : line_count rows ≡ config.geometry.columns / LINE_COLUMNS
  pub opened : (rank group bank : ℕ) → rank < config.geometry.ranks → group < config.geometry.groups → bank < GROUP_BANKS →
      open_row rows (geometry.bank_number config.geometry rank group bank) ≡ ready_row (bank_behind (Pre rank group bank) trace)
