-- A picture of a trace of which only a part is kept, whatever its length: what the commands read so far show of the cycles asked for.
use Rattle.std.specs.Prelude.{◌≡◌, ℕ, ◌≤◌, ◌⊎◌, Bool, true, false, ◌&&◌, ◌||◌, not, if◌then◌else◌, List, [], ◌∷◌, ◌++◌, codes, length, Option, Some, None}
use Rattle.std.specs.List.{list_all}
use Rattle.std.specs.Option.{unwrap_or}
use Rattle.ddr_timing.specs.declared.config.Config.{Config}
use Rattle.ddr_timing.specs.declared.timing.Timing.{Timing}
use Rattle.ddr_trace.specs.declared.command.Entry.{Entry}
use Rattle.ddr_trace.specs.Commands.{is_activate, is_column}
use Rattle.ddr_trace.specs.Rules.{is_in}
use Rattle.ddr_draw.specs.declared.held.Held.{Held}
use Rattle.ddr_draw.specs.declared.held.TheConstants.{MOST_BACK}
use Rattle.ddr_draw.specs.declared.kept_bars.Bar.{Bar}
use Rattle.ddr_draw.specs.declared.kept_boxes.CommandBox.{CommandBox}
use Rattle.ddr_draw.specs.declared.sketch.Sketch.{Sketch}
use Rattle.ddr_draw.specs.declared.sketch.TheConstants.{MOST_RECENT}
use Rattle.ddr_draw.specs.declared.view.View.{View}
use Rattle.ddr_draw.specs.Changes.{burst_end, burst_start, burst_until_of, closed_at_of, closed_by, is_closing, next_closing, next_column}
use Rattle.ddr_draw.specs.Held.{wait_from, wait_of_starts}
use Rattle.ddr_draw.specs.Lanes.{bank_box, bars, burst_shape, bus_box, busy_until, commands, ground, place_text, row_bar}
use Rattle.ddr_draw.specs.Names.{after}
use Rattle.ddr_draw.specs.Scale.{is_seen, width_of, x_of}
use Rattle.ddr_draw.specs.Told.{at_text, held_text}

-- the cycles of a picture are among these, from the first on
pub record IsWithin (v wide : View) : Type 0 where
  pub from : v.from ≡ wide.from
  pub to : v.to ≤ wide.to

-- ---- bars

-- the command ends what the earlier one begins: it closes its row, or is the next read or write behind one
abbrev pub is_ending : Entry → Entry → Bool
is_ending e m = if is_activate e.command then is_closing e.command m.command else is_column m.command

abbrev pub next_ending : Entry → List Entry → Option Entry
next_ending e later = if is_activate e.command then next_closing e.command later else next_column later

-- the row of an ACT, by the command that closes it
abbrev pub row_by : Config → View → Entry → Option Entry → List ℕ
row_by c v e next =
    if is_activate e.command && is_in c.geometry e.command then row_bar c v e (unwrap_or (closed_at_of c.timing e next) v.to) else []

-- the burst of a read or a write, by the next one
abbrev pub burst_by : Timing → View → Entry → Option Entry → List ℕ
burst_by t v e next =
    if is_column e.command && is_seen v (burst_start t e) (burst_until_of t e next) then burst_shape (x_of v (burst_start t e)) (width_of v (burst_start t e) (burst_until_of t e next)) e.command
    else []

unfoldable pub bar_by : Config → View → Entry → Option Entry → List ℕ
bar_by c v e next = row_by c v e next ++ burst_by c.timing v e next

-- the first of two that is there
abbrev pub first_of : Option Entry → Option Entry → Option Entry
first_of None later = later
first_of (Some e) later = Some e

-- what is kept of commands, with these behind them all
abbrev pub bars_before : Config → View → List Bar → List Entry → List ℕ
bars_before c v [] later = []
bars_before c v (b ∷ bs) later = bar_by c v b.entry (first_of b.next (next_ending b.entry later)) ++ bars_before c v bs later

-- and with none behind them
abbrev pub bars_alone : Config → View → List Bar → List ℕ
bars_alone c v [] = []
bars_alone c v (b ∷ bs) = bar_by c v b.entry b.next ++ bars_alone c v bs

-- the command may have a bar in the view
abbrev pub may_have_bar : Config → View → Entry → Bool
may_have_bar c v e =
    (is_activate e.command && (is_in c.geometry e.command && is_seen v e.cycle v.to))
    || (is_column e.command && is_seen v (burst_start c.timing e) (burst_end c.timing e))

-- the bar is open to what ends it, and the command does
abbrev pub is_ended_by : Entry → Option Entry → Entry → Bool
is_ended_by e None m = is_ending e m
is_ended_by e (Some next) m = false

-- the bar behind the command
abbrev pub behind : Bar → Entry → Bar
behind b m = record { entry = b.entry; next = if is_ended_by b.entry b.next m then Some m else b.next }

-- the row of an ACT is closed, and before the view begins, or it isn't seen
abbrev pub is_gone : Config → View → Entry → Option Entry → Bool
is_gone c v e None = false
is_gone c v e (Some next) = is_activate e.command && not (is_seen v e.cycle (closed_by c.timing e next))

-- a bar that is kept: of a row that is open or in the view, or of a burst in the view
abbrev pub is_bar_kept : Config → View → Bar → Bool
is_bar_kept c v b = may_have_bar c v b.entry && not (is_gone c v b.entry b.next)

abbrev pub are_bars_kept : Config → View → List Bar → Bool
are_bars_kept c v = list_all (is_bar_kept c v)

-- ---- boxes

-- what the entry waited for, by these entries before it, the first of which stands at the place
unfoldable pub held_among : Config → ℕ → List Entry → Entry → Option Held
held_among c first recent e = wait_of_starts c first recent e.command (wait_from c.timing e first None recent)

-- a command with its place, and what it waited for
unfoldable pub title_by : ℕ → Entry → Option Held → List ℕ
title_by place e held = at_text place e ++ (codes ": " ++ (place_text e.command ++ held_text e held))

unfoldable pub box_by : Config → View → ℕ → Entry → Option Held → List ℕ
box_by c v place e held = bus_box v e (title_by place e held) ++ bank_box c v e (title_by place e held)

abbrev pub boxes_of : Config → View → List CommandBox → List ℕ
boxes_of c v [] = []
boxes_of c v (b ∷ bs) = box_by c v b.place b.entry b.held ++ boxes_of c v bs

-- the command has a box in the view
abbrev pub has_box : Config → View → Entry → Bool
has_box c v e = is_seen v e.cycle (after e.cycle 1) || (is_in c.geometry e.command && is_seen v e.cycle (busy_until c.timing e))

abbrev pub are_boxes_kept : Config → View → List CommandBox → Bool
are_boxes_kept c v = list_all (λ b. has_box c v b.entry)

-- ---- the whole

-- what is kept, with nothing behind it, as a picture
unfoldable pub sketch_text : Config → View → Sketch → List ℕ
sketch_text c v s = ground c.geometry v ++ (bars_alone c v s.bars.items ++ (boxes_of c v s.boxes.items ++ codes "</svg>\n"))

-- these are the last of the entries: all of them, or as many as are looked at and more
pub record AreLast (last entries : List Entry) : Type 0 where
  pub front : List Entry
  pub whole : entries ≡ front ++ last
  pub many : (front ≡ []) ⊎ (MOST_BACK ≤ length last)

-- what is kept shows what the entries do, whatever stands behind them
pub record Shows (c : Config) (s : Sketch) (entries : List Entry) : Type 0 where
  pub counted : s.count ≡ length entries
  pub last : AreLast s.recent.items entries
  pub bars : (v : View) (later : List Entry) → IsWithin v s.view → bars c v (entries ++ later) ≡ bars_before c v s.bars.items later ++ bars c v later
  pub boxes : (v : View) → IsWithin v s.view → commands c v entries ≡ boxes_of c v s.boxes.items

-- no more is kept than that: besides the last commands the rows that are open, and what the view shows
pub record IsSmall (c : Config) (s : Sketch) : Type 0 where
  pub recent : length s.recent.items ≤ MOST_RECENT
  pub bars : are_bars_kept c s.view s.bars.items ≡ true
  pub boxes : are_boxes_kept c s.view s.boxes.items ≡ true
