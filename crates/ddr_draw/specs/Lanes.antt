-- A trace as a picture of lanes: one for the command bus, one for the data bus, and one for each bank.
use Rattle.std.specs.Prelude.{ℕ, ◌+◌, ◌-◌, ◌*◌, ◌/◌, Bool, true, false, ◌&&◌, if◌then◌else◌, List, [], ◌∷◌, ◌++◌, codes, flat_map, length, slice_get, take}
use Rattle.std.specs.Option.{option_map_or, unwrap_or}
use Rattle.std.specs.List.{range_with_len}
use Rattle.std.specs.Fmt.{decimal}
use Rattle.ddr_timing.specs.declared.config.Config.{Config}
use Rattle.ddr_timing.specs.declared.geometry.Geometry.{Geometry}
use Rattle.ddr_timing.specs.declared.timing.Timing.{Timing}
use Rattle.ddr_timing.specs.declared.units.TheConstants.{LINE_COLUMNS}
use Rattle.ddr_timing.specs.Banks.{bank_count, rank_bank_count}
use Rattle.ddr_trace.specs.declared.command.Command.{Command}
use Rattle.ddr_trace.specs.declared.command.Command.TheVariants.{Act, Rd, Wr, RdAuto, WrAuto, Pre, PreAll, Refresh}
use Rattle.ddr_trace.specs.declared.command.Entry.{Entry}
use Rattle.ddr_trace.specs.Commands.{bank_of, group_of, is_activate, is_column, is_read, rank_of, row_of}
use Rattle.ddr_trace.specs.Rules.{is_in}
use Rattle.ddr_draw.specs.declared.colours.TheConstants.{OPEN_ROW}
use Rattle.ddr_draw.specs.declared.view.View.{View}
use Rattle.ddr_draw.specs.declared.scale.TheConstants.{BOTTOM, CLOCK_WIDTH, COMMAND_LANE, DATA_LANE, FIRST_BANK_LANE, LANE_HEIGHT, TOP, TICK_CLOCKS}
use Rattle.ddr_draw.specs.Changes.{burst_start, burst_until, closed_at}
use Rattle.ddr_draw.specs.Colours.{fill_of}
use Rattle.ddr_draw.specs.Held.{held_by}
use Rattle.ddr_draw.specs.Legend.{legend}
use Rattle.ddr_draw.specs.Names.{after, bank_name, bank_numbered, name_of_bank}
use Rattle.ddr_draw.specs.Scale.{bank_top, is_seen, lane_top, picture_height, picture_width, width_of, x_of}
use Rattle.ddr_draw.specs.Shapes.{area, label, line_down, line_right, rectangle, words_at}
use Rattle.ddr_draw.specs.Told.{at_text, held_text}
use Rattle.ddr_trace.specs.Names.{command_name}

-- ---- the ground

unfoldable pub head : ℕ → ℕ → List ℕ
head width height =
    codes "<svg xmlns='http://www.w3.org/2000/svg' width='" ++ (decimal width ++ (codes "' height='" ++ (decimal height
    ++ (codes "' font-family='monospace' font-size='9'>\n<rect width='" ++ (decimal width ++ (codes "' height='" ++ (decimal height ++ codes "' fill='white'/>\n")))))))

-- a line down at a cycle, with the cycle's number above
unfoldable pub tick : Geometry → View → ℕ → List ℕ
tick g v cycle = line_down (x_of v cycle) (TOP - 8) (picture_height g - BOTTOM) ++ words_at (x_of v cycle) (TOP - 12) (decimal cycle)

-- at every tenth cycle from the first on
abbrev pub ticks : Geometry → View → List ℕ
ticks g v = flat_map (λ n. tick g v (v.from + TICK_CLOCKS * n)) (range_with_len 0 ((v.to - v.from) / TICK_CLOCKS + 1))

-- a lane's name, over the line on which it ends
unfoldable pub lane : View → ℕ → List ℕ → List ℕ
lane v number name = words_at 8 (lane_top number + 18) name ++ line_right (lane_top (number + 1)) (picture_width v)

abbrev pub bank_lanes : Geometry → View → List ℕ
bank_lanes g v = flat_map (λ n. lane v (n + FIRST_BANK_LANE) (bank_numbered g n)) (range_with_len 0 (bank_count g))

unfoldable pub ground : Geometry → View → List ℕ
ground g v =
    head (picture_width v) (picture_height g)
    ++ (legend ++ (ticks g v ++ (lane v COMMAND_LANE (codes "command") ++ (lane v DATA_LANE (codes "data") ++ bank_lanes g v))))

-- ---- open rows and bursts

unfoldable pub row_name : Command → List ℕ
row_name command = codes "row " ++ decimal (row_of command)

unfoldable pub row_title : Command → List ℕ
row_title command = row_name command ++ (codes " of " ++ name_of_bank command)

-- the lane of its bank; that of a command of a whole rank begins with the first bank
abbrev pub top_of : Geometry → Command → ℕ
top_of g command = bank_top g (rank_of command) (group_of command) (bank_of command)

-- below the boxes of the bank's commands
unfoldable pub row_shape : ℕ → ℕ → ℕ → Command → List ℕ
row_shape x y width command =
    rectangle (area x (y + 2) width (LANE_HEIGHT - 4)) OPEN_ROW.now (row_title command) ++ label (x + 1) (y + 25) width (row_name command)

-- the row of an ACT, from its cycle until it is closed, or to the view's end
unfoldable pub row_bar : Config → View → Entry → ℕ → List ℕ
row_bar c v e closed =
    if is_seen v e.cycle closed then row_shape (x_of v e.cycle) (top_of c.geometry e.command) (width_of v e.cycle closed) e.command
    else []

unfoldable pub open_row : Config → View → Entry → List Entry → List ℕ
open_row c v e later =
    if is_activate e.command && is_in c.geometry e.command then row_bar c v e (unwrap_or (closed_at c.timing e later) v.to) else []

-- the data of a read or a write: which way they go, and the bank
abbrev pub way : Command → List ℕ
way command = if is_read command then codes "RD" else codes "WR"

unfoldable pub burst_title : Command → List ℕ
burst_title command = way command ++ (codes " " ++ name_of_bank command)

unfoldable pub burst_shape : ℕ → ℕ → Command → List ℕ
burst_shape x width command =
    rectangle (area x (lane_top DATA_LANE + 2) width (LANE_HEIGHT - 4)) (fill_of command) (burst_title command)
    ++ (label (x + 1) (lane_top DATA_LANE + 12) width (way command) ++ label (x + 1) (lane_top DATA_LANE + 25) width (name_of_bank command))

unfoldable pub burst : Timing → View → Entry → List Entry → List ℕ
burst t v e later =
    if is_column e.command && is_seen v (burst_start t e) (burst_until t e later) then burst_shape (x_of v (burst_start t e)) (width_of v (burst_start t e) (burst_until t e later)) e.command
    else []

-- of all entries
abbrev pub bars : Config → View → List Entry → List ℕ
bars c v [] = []
bars c v (e ∷ later) = open_row c v e later ++ (burst c.timing v e later ++ bars c v later)

-- ---- commands

-- the place of a read or a write: its column is the first of its line
unfoldable pub column_text : List ℕ → ℕ → ℕ → List ℕ
column_text bank row line = bank ++ (codes ", row " ++ (decimal row ++ (codes ", column " ++ decimal (line * LINE_COLUMNS))))

-- the place that a command is for, in the words of a trace's text
unfoldable pub place_text : Command → List ℕ
place_text (Act rank group bank row) = bank_name rank group bank ++ (codes ", row " ++ decimal row)
place_text (Rd rank group bank row line) = column_text (bank_name rank group bank) row line
place_text (Wr rank group bank row line) = column_text (bank_name rank group bank) row line
place_text (RdAuto rank group bank row line) = column_text (bank_name rank group bank) row line
place_text (WrAuto rank group bank row line) = column_text (bank_name rank group bank) row line
place_text (Pre rank group bank) = bank_name rank group bank
place_text (PreAll rank) = codes "rank " ++ decimal rank
place_text (Refresh rank) = codes "rank " ++ decimal rank

-- a command with its place, and what it waited for
unfoldable pub title : Config → List Entry → ℕ → Entry → List ℕ
title c history place e = at_text place e ++ (codes ": " ++ (place_text e.command ++ held_text e (held_by c history e)))

-- on the command bus: the command has one clock, also where its place is not of this memory
unfoldable pub bus_shape : ℕ → Command → List ℕ → List ℕ
bus_shape x command title =
    rectangle (area x (lane_top COMMAND_LANE + 2) CLOCK_WIDTH (LANE_HEIGHT - 4)) (fill_of command) title
    ++ label (x + 1) (lane_top COMMAND_LANE + 18) CLOCK_WIDTH (command_name command)

unfoldable pub bus_box : View → Entry → List ℕ → List ℕ
bus_box v e title = if is_seen v e.cycle (after e.cycle 1) then bus_shape (x_of v e.cycle) e.command title else []

-- the clocks for which a bank or a rank is busy with a command: RP with a precharge, RFC with a refresh
abbrev pub lasts : Timing → Command → ℕ
lasts t (Pre rank group bank) = t.rp
lasts t (PreAll rank) = t.rp
lasts t (Refresh rank) = t.rfc
lasts t _ = 1

abbrev pub busy_until : Timing → Entry → ℕ
busy_until t e = after e.cycle (lasts t e.command)

-- the lanes of a command: that of its bank, or all those of its rank
abbrev pub is_of_rank : Command → Bool
is_of_rank (PreAll rank) = true
is_of_rank (Refresh rank) = true
is_of_rank _ = false

abbrev pub box_height : Geometry → Command → ℕ
box_height g command = if is_of_rank command then LANE_HEIGHT * rank_bank_count g - 4 else 13

unfoldable pub bank_shape : ℕ → ℕ → ℕ → ℕ → Command → List ℕ → List ℕ
bank_shape x y width height command title =
    rectangle (area x (y + 2) width height) (fill_of command) title ++ label (x + 1) (y + 12) width (command_name command)

unfoldable pub bank_box : Config → View → Entry → List ℕ → List ℕ
bank_box c v e title =
    if is_in c.geometry e.command && is_seen v e.cycle (busy_until c.timing e) then bank_shape (x_of v e.cycle) (top_of c.geometry e.command) (width_of v e.cycle (busy_until c.timing e)) (box_height c.geometry e.command) e.command title
    else []

unfoldable pub command_at : Config → View → List Entry → ℕ → Entry → List ℕ
command_at c v history place e = bus_box v e (title c history place e) ++ bank_box c v e (title c history place e)

-- of all entries, each with those before it
abbrev pub command_of : Config → View → List Entry → ℕ → List ℕ
command_of c v entries place = option_map_or (λ e. command_at c v (take place entries) place e) (slice_get entries place) []

abbrev pub commands : Config → View → List Entry → List ℕ
commands c v entries = flat_map (command_of c v entries) (range_with_len 0 (length entries))

-- ---- the whole

unfoldable pub picture_text : Config → View → List Entry → List ℕ
picture_text c v entries = ground c.geometry v ++ (bars c v entries ++ (commands c v entries ++ codes "</svg>\n"))
