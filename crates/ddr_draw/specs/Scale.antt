-- Where cycles and banks lie in a picture of lanes, in pixels.
use Rattle.std.specs.Prelude.{ℕ, ◌+◌, ◌-◌, ◌*◌, min, max, nat_lt, Bool, Option}
use Rattle.std.specs.Option.{unwrap_or}
use Rattle.ddr_timing.specs.declared.geometry.Geometry.{Geometry}
use Rattle.ddr_timing.specs.Banks.{bank_count, bank_number}
use Rattle.ddr_draw.specs.declared.view.View.{View}
use Rattle.ddr_draw.specs.declared.scale.TheConstants.{BOTTOM, CLOCK_WIDTH, FIRST_BANK_LANE, LANE_HEIGHT, LEFT, LEGEND_WIDTH, RIGHT, TOP}
use Rattle.ddr_draw.specs.declared.view.TheConstants.{MOST_CLOCKS}
use Rattle.ddr_draw.specs.Names.{after}

-- the first cycle that is shown, and the first behind them: those of the whole trace where none are asked for
abbrev pub first_shown : ℕ → Option ℕ → ℕ
first_shown start from = unwrap_or from start

abbrev pub end_shown : ℕ → ℕ → Option ℕ → ℕ
end_shown first end to = max first (min (unwrap_or to end) (after first MOST_CLOCKS))

-- the left edge of a cycle; a cycle outside of the view lies at its edge
abbrev pub x_of : View → ℕ → ℕ
x_of v cycle = LEFT + CLOCK_WIDTH * (max v.from (min v.to cycle) - v.from)

-- the width of the cycles from the one on, up to the other
abbrev pub width_of : View → ℕ → ℕ → ℕ
width_of v first last = x_of v last - x_of v first

-- some of these cycles are in the view
abbrev pub is_seen : View → ℕ → ℕ → Bool
is_seen v first last = nat_lt (x_of v first) (x_of v last)

-- the top of a lane: those of the two buses come first, and behind them the banks
abbrev pub lane_top : ℕ → ℕ
lane_top lane = TOP + LANE_HEIGHT * lane

abbrev pub bank_top : Geometry → ℕ → ℕ → ℕ → ℕ
bank_top g rank group bank = lane_top (bank_number g rank group bank + FIRST_BANK_LANE)

-- the whole picture, which is as wide as its legend at least
abbrev pub picture_width : View → ℕ
picture_width v = max (x_of v v.to + RIGHT) LEGEND_WIDTH

abbrev pub picture_height : Geometry → ℕ
picture_height g = lane_top (bank_count g + FIRST_BANK_LANE) + BOTTOM
