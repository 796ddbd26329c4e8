-- What a command waited for, in words.
use Rattle.std.specs.Prelude.{ℕ, ◌+◌, ◌-◌, ◌==◌, if◌then◌else◌, List, [], ◌++◌, codes, Option, Some, None}
use Rattle.std.specs.Fmt.{decimal}
use Rattle.ddr_trace.specs.declared.command.Entry.{Entry}
use Rattle.ddr_trace.specs.Names.{name_of}
use Rattle.ddr_draw.specs.declared.held.Held.{Held}
use Rattle.ddr_trace.specs.Names.{command_name}

unfoldable pub clocks_text : ℕ → List ℕ
clocks_text n = if n == 1 then codes "1 clock" else decimal n ++ codes " clocks"

-- a command with its cycle and the line of the trace's text: the header is line 1
unfoldable pub at_text : ℕ → Entry → List ℕ
at_text place e =
    command_name e.command ++ (codes " at cycle " ++ (decimal e.cycle ++ (codes " (line " ++ (decimal (place + 2) ++ codes ")"))))

-- what the rule counts from: the earlier command, or the start of its auto-precharge
unfoldable pub from_text : Held → List ℕ
from_text h =
    (if h.since == h.earlier.cycle then [] else codes "the start of the auto-precharge of ") ++ at_text h.place h.earlier

unfoldable pub wait_text : Entry → Held → List ℕ
wait_text e h =
    codes "\n" ++ (name_of h.rule ++ (codes " behind " ++ (from_text h ++ (codes ": " ++ (clocks_text (e.cycle - h.since)
    ++ (codes ", least " ++ decimal h.least))))))

abbrev pub held_text : Entry → Option Held → List ℕ
held_text e None = []
held_text e (Some h) = wait_text e h
