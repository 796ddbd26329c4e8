-- What a replay tells as it goes on, and what it keeps to tell at its end.
use Rattle.std.specs.Prelude.{◌≡◌, ◌<◌, ℕ, ◌-◌, Bool, true, false, List, [], ◌++◌, drop, flat_map, length, map, Option, Some, None}
use Rattle.std.specs.Option.{option_map_or}
use Rattle.ddr_trace.specs.declared.command.Entry.{Entry}
use Rattle.ddr_trace_text.specs.Text.{command_fields, header, record_text}
use Rattle.ddr_world.specs.Promise.{trace_at}
use Rattle.ddr_world.specs.State.{State}
use Rattle.ddr_ledger.specs.Drampower.{drampower_line}
use Rattle.ddr_ledger.specs.Measured.{timed_of}
use Rattle.ddr_ledger.specs.ServedText.{served_head, served_line}
use Rattle.ddr_ledger.specs.declared.released.ReleasedRequest.{ReleasedRequest}
use Rattle.ddr_replay.specs.declared.teller.Tale.{Tale}
use Rattle.ddr_replay.specs.declared.teller.Tale.TheVariants as tale
use Rattle.ddr_replay.specs.declared.wanted.Wanted.{Wanted}
use Rattle.ddr_replay.specs.declared.wanted.Wanted.TheVariants as told

-- ---- what is told as it comes

-- what stands before it, and what is told of a request whose reply is released, and of a command of the channel that is asked for
abbrev pub head_of : Wanted → List ℕ
head_of told.Requests = served_head
head_of (told.Trace channel) = record_text header
head_of _ = []

abbrev pub row_text : Wanted → ReleasedRequest → List ℕ
row_text told.Requests row = served_line row
row_text _ row = []

abbrev pub command_text : Wanted → Entry → List ℕ
command_text (told.Trace channel) e = record_text (command_fields e.cycle e.command)
command_text (told.Drampower channel) e = drampower_line e
command_text _ e = []

-- the requests that were served are noted where they are to be told of
abbrev pub keeps_served : Wanted → Bool
keeps_served told.Requests = true
keeps_served (told.Numbers skip clock) = true
keeps_served (told.Intervals skip every) = true
keeps_served _ = false

-- the channel whose commands are asked for
abbrev pub channel_of : Wanted → Option ℕ
channel_of (told.Trace channel) = Some channel
channel_of (told.Drampower channel) = Some channel
channel_of _ = None

abbrev pub commands_of : Wanted → State → List Entry
commands_of wanted s = option_map_or (trace_at s) (channel_of wanted) []

-- all that was told of these requests and these commands
abbrev pub said : Wanted → List ReleasedRequest → List Entry → List ℕ
said told.Requests rows commands = served_head ++ flat_map served_line rows
said (told.Trace channel) rows commands = record_text header ++ flat_map (λ e. record_text (command_fields e.cycle e.command)) commands
said (told.Drampower channel) rows commands = flat_map drampower_line commands
said _ rows commands = []

-- nothing is told before the end
abbrev pub comes_at_end : Wanted → Bool
comes_at_end told.Requests = false
comes_at_end (told.Trace channel) = false
comes_at_end (told.Drampower channel) = false
comes_at_end _ = true

-- what was written, whatever that is, and what is to be written next are all that was told, also behind some requests more
abbrev pub IsNoted : List Entry → List ℕ → List ℕ → Wanted → List ReleasedRequest → List ReleasedRequest → Type 0
IsNoted commands text next wanted rows more = (earlier : List ℕ) → said wanted rows commands ≡ earlier ++ text → said wanted more commands ≡ earlier ++ next

-- ---- what is kept until the end

abbrev pub wanted_of : Tale → Wanted
wanted_of tale.Statistics = told.Statistics
wanted_of tale.Requests = told.Requests
wanted_of (tale.Trace channel) = told.Trace channel
wanted_of (tale.Drampower channel) = told.Drampower channel
wanted_of (tale.Numbers skip clock left requests) = told.Numbers skip clock
wanted_of (tale.Intervals skip every left requests) = told.Intervals skip every

-- of these requests those behind the first so many, as numbers are taken of them
abbrev pub IsKept : Tale → List ReleasedRequest → Type 0
IsKept (tale.Numbers skip clock left requests) rows = (left ≡ skip - length rows) × (requests ≡ map timed_of (drop skip rows))
IsKept (tale.Intervals skip every left requests) rows = (left ≡ skip - length rows) × (requests.items ≡ map timed_of (drop skip rows))
IsKept _ rows = Unit {0}

-- the next request is one of so many that are left out, or none of them is left
abbrev pub LeavesOut : ℕ → ℕ → Bool → Type 0
LeavesOut left next true = (0 < left) × (next ≡ left - 1)
LeavesOut left next false = (left ≡ 0) × (next ≡ 0)
