-- One cycle of a channel.
use Rattle.std.specs.Prelude.{ℕ, ◌+◌, not, ◌==◌, if◌then◌else◌, List, [], ◌∷◌, ◌++◌, filter, remove, Option, Some, None, slice_get}
use Rattle.ddr_timing.specs.declared.config.Config.{Config}
use Rattle.ddr_timing.specs.declared.units.TheConstants.{BURST_CLOCKS}
use Rattle.ddr_trace.specs.declared.command.Command.{Command}
use Rattle.ddr_trace.specs.declared.command.Entry.{Entry}
use Rattle.ddr_address_map.specs.declared.request.Kind.{Kind}
use Rattle.ddr_address_map.specs.declared.request.Kind.TheVariants.{Read, Write}
use Rattle.ddr_address_map.specs.Requests.{Request, Completion}
use Rattle.ddr_row_array.specs.Merge.{merged}
use Rattle.ddr_trace.specs.Commands.{entry}
use Rattle.ddr_hazards.specs.declared.waiting.Waiting.{Waiting}
use Rattle.ddr_hazards.specs.PendingList.{pending_count}
use Rattle.ddr_arbiter.specs.declared.choice.Choice.{Choice}
use Rattle.ddr_arbiter.specs.declared.choice.Choice.TheVariants as choice
use Rattle.ddr_arbiter.specs.Laws.{command_of}
use Rattle.ddr_arbiter.specs.Mode.{next_mode}
use Rattle.ddr_channel.specs.Choice.{policy_of, choice_of}
use Rattle.ddr_channel.specs.Memory.{LineAddress, line_of, is_same_line}
use Rattle.ddr_channel.specs.State.{State}

-- a request that is due now is complete
abbrev pub completed : State → State
completed s = record s {
  flight = filter (λ d. not (d.due == s.now)) s.flight;
  done = s.done ++ filter (λ d. d.due == s.now) s.flight;
}

-- the drain mode of this cycle, by the writes that are pending
abbrev pub drained : State → State
drained s = record s { drain = next_mode (policy_of s.config) s.drain (pending_count Write s.pending) }

-- what comes before the choice of a cycle
abbrev pub at_choice : State → State
at_choice s = drained (completed s)

-- the command is on the bus in that cycle, if there is one
abbrev pub with_command : ℕ → Option Command → List Entry → List Entry
with_command cycle None trace = trace
with_command cycle (Some c) trace = trace ++ entry cycle c ∷ []

abbrev pub recorded : Option Command → State → State
recorded o s = record s { trace = with_command s.now o s.trace }

-- from the column command to completion: the latency, and the clocks of a burst
abbrev pub service_time : Config → Kind → ℕ
service_time config Read = config.timing.cl + BURST_CLOCKS
service_time config Write = config.timing.cwl + BURST_CLOCKS

-- a read has the burst that the open row lends, a write keeps the line that it writes
abbrev pub line_served : Kind → List ℕ → List ℕ → List ℕ
line_served Read burst line = burst
line_served Write burst line = line

-- the completion of a column command in this cycle, at which the open row lent this burst
abbrev pub completion_at : Config → ℕ → List ℕ → Request → Completion
completion_at config cycle burst r = record {
  port = r.port;
  number = r.number;
  echo = r.echo;
  issued = cycle;
  due = cycle + service_time config r.echo.kind;
  line = line_served r.echo.kind burst r.line;
}

abbrev pub completion_of : State → Request → Completion
completion_of s r = completion_at s.config s.now (s.cells (line_of r.place)) r

-- a write replaces its enabled bytes in the open row's burst, and no others
abbrev pub burst_after : Request → List ℕ → List ℕ
burst_after r burst = line_served r.echo.kind burst (merged r.mask r.line burst)

abbrev pub cells_after : Request → (LineAddress → List ℕ) → LineAddress → List ℕ
cells_after r cells address =
    if is_same_line address (line_of r.place) then burst_after r (cells address) else cells address

-- the request at this place among the pending ones is read or written
abbrev pub served : ℕ → Request → State → State
served place r s = record s {
  pending = remove s.pending place;
  flight = s.flight ++ completion_of s r ∷ [];
  cells = cells_after r s.cells;
}

abbrev pub served_at : ℕ → Option Waiting → State → State
served_at place None s = s
served_at place (Some w) s = served place w.request s

-- the request whose column command was chosen, if one was
abbrev pub served_by : Choice → State → State
served_by (choice.Column place) s = served_at place (slice_get s.pending place) s
served_by (choice.ColumnAuto place) s = served_at place (slice_get s.pending place) s
served_by _ s = s

-- the command of the choice, and the data that it moves
abbrev pub issued : Choice → State → State
issued c s = served_by c (recorded (command_of s.pending c) s)

abbrev pub ticked : State → State
ticked s = record s { now = s.now + 1 }

-- completion, the drain mode, the choice with its command, and the clock
abbrev pub after_cycle : State → State
after_cycle s = ticked (issued (choice_of (at_choice s)) (at_choice s))
