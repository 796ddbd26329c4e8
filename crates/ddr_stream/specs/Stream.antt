-- A whole stream: the requests that it has for each port, or its first line at fault.
use Rattle.std.specs.Prelude.{ℕ, ◌+◌, ◌%◌, nat_lt, if◌then◌else◌, List, [], ◌∷◌, length, replicate, slice_set, slice_index_or, is_none, Option, Some, None, Result, Ok, Err}
use Rattle.std.specs.Str.{is_utf8}
use Rattle.std.specs.Str.Lines.{lines}
use Rattle.ddr_timing.specs.declared.config.Config.{Config}
use Rattle.ddr_timing.specs.declared.geometry.Geometry.{Geometry}
use Rattle.ddr_address_map.specs.Map.{capacity_of, place_of}
use Rattle.ddr_text.specs.declared.command.Reading.{Reading}
use Rattle.ddr_text.specs.declared.fault.Fault.{Fault}
use Rattle.ddr_text.specs.declared.fault.Fault.TheVariants.{InputTooLong, ReplayLine, ReplayRange}
use Rattle.ddr_text.specs.declared.fault.LineFault.{LineFault}
use Rattle.ddr_text.specs.declared.fault.LineFault.TheVariants.{NotUtf8, TooLong}
use Rattle.ddr_text.specs.Instructions.{◌>>>◌}
use Rattle.ddr_capture.specs.declared.feed.TheConstants.{LONGEST_LINE, MOST_LINES}
use Rattle.ddr_stream.specs.declared.ask.Ask.{Ask}
use Rattle.ddr_stream.specs.declared.line.Sent.{Sent}
use Rattle.ddr_stream.specs.declared.placing.Placed.{Placed}
use Rattle.ddr_stream.specs.Line.{is_skipped, sent_of}

-- of each port its requests, in order
abbrev pub Queues : Type 0
Queues = List (List Ask)

-- the requests of a port
abbrev pub queue_at : Queues → ℕ → List Ask
queue_at queues port = slice_index_or queues port []

-- the address that is meant
abbrev pub meant : Geometry → Reading → ℕ → ℕ
meant geometry reading addr = if reading.wrap then addr % capacity_of geometry else addr

-- what a line of this number asks a port for
abbrev pub ask_of : Geometry → Reading → ℕ → Sent → Ask
ask_of geometry reading line sent = record { line = line; at = sent.at; kind = sent.kind; addr = meant geometry reading sent.addr }

-- where its address lies in the memory
abbrev pub within : Geometry → Placed → Result (Option Placed) Fault
within geometry p = if is_none (place_of geometry p.ask.addr) then Err (ReplayRange p.ask.line) else Ok (Some p)

-- what the line of this number asks for, or what is wrong with it
abbrev pub of_said : Geometry → Reading → ℕ → Result Sent LineFault → Result (Option Placed) Fault
of_said geometry reading line (Ok sent) = within geometry (record { port = sent.port; ask = ask_of geometry reading line sent })
of_said geometry reading line (Err cause) = Err (ReplayLine line cause)

-- the port of the next request that names none, behind so many requests: the first, or where requests go round the ports the next in turn
abbrev pub next_port : Reading → ℕ → ℕ → ℕ
next_port reading ports sent = if reading.spread then sent % ports else 0

-- a line that is a text asks for nothing where it is skipped
abbrev pub of_text : Geometry → Reading → ℕ → ℕ → ℕ → List ℕ → Result (Option Placed) Fault
of_text geometry reading ports line sent text =
    if is_skipped reading.format text then Ok None
    else of_said geometry reading line (sent_of reading.format ports (next_port reading ports sent) text)

-- what the line of this number asks for, behind so many requests, or what is wrong with it
abbrev pub of_line : Geometry → Reading → ℕ → ℕ → ℕ → List ℕ → Result (Option Placed) Fault
of_line geometry reading ports line sent text =
    if nat_lt LONGEST_LINE (length text) then Err (ReplayLine line TooLong)
    else if nat_lt MOST_LINES line then Err InputTooLong
    else if is_utf8 text then of_text geometry reading ports line sent text
    else Err (ReplayLine line NotUtf8)

-- the request in front of the others of its port, if there is one
abbrev pub in_front : Option Placed → Queues → Queues
in_front None queues = queues
in_front (Some p) queues = slice_set queues p.port (p.ask ∷ queue_at queues p.port)

-- how many requests those are
abbrev pub asks_in : Option Placed → ℕ
asks_in None = 0
asks_in (Some p) = 1

-- what these lines ask for, behind so many lines and so many requests of those
abbrev pub rest_of : Geometry → Reading → ℕ → ℕ → ℕ → List (List ℕ) → Result Queues Fault
rest_of geometry reading ports count sent [] = Ok (replicate ports [])
rest_of geometry reading ports count sent (text ∷ more) =
    of_line geometry reading ports (count + 1) sent text >>> λ p.
    rest_of geometry reading ports (count + 1) (sent + asks_in p) more >>> λ queues. Ok (in_front p queues)

-- The requests of each port, in the order of the lines, or the first fault: `ReplayLine` at a line of another form, `ReplayRange` at one
-- whose address is beyond the capacity, `InputTooLong` at one behind the last that is counted. Lines count from 1.
unfoldable pub queues_of : Config → Reading → List ℕ → Result Queues Fault
queues_of config reading text = rest_of config.geometry reading config.limits.ports 0 0 (lines text)
