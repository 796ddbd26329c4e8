-- One line more of a stream.
use Rattle.std.specs.Prelude.{ℕ, ◌+◌, ◌<◌, List, [], ◌∷◌, ◌++◌, replicate, slice_index_or, slice_set, Option, Some, None, Result, Ok}
use Rattle.std.specs.Io.KnownBytes.{prepend_known}
use Rattle.std.specs.Option.{option_map}
use Rattle.std.specs.Str.Lines.{lines}
use Rattle.ddr_text.specs.declared.fault.Fault.{Fault}
use Rattle.ddr_text.specs.declared.fault.Fault.TheVariants as faults
use Rattle.ddr_text.specs.declared.fault.LineFault.TheVariants.{TooLong}
use Rattle.ddr_text.specs.Instructions.{◌>>>◌}
use Rattle.ddr_capture.specs.declared.feed.Refusal.{Refusal}
use Rattle.ddr_capture.specs.declared.feed.Refusal.TheVariants as refusals
use Rattle.ddr_stream.specs.declared.placing.Placed.{Placed}
use Rattle.ddr_stream.specs.declared.stream.Next.{Next}
use Rattle.ddr_stream.specs.declared.stream.Next.TheVariants.{Nothing, Ask, End}
use Rattle.ddr_stream.specs.Requests.{no_requests, with_request}
use Rattle.ddr_stream.specs.Stream.{Queues, in_front, queue_at, rest_of}
use Rattle.ddr_stream.specs.Waiting.{IsSame, Waiting}

-- what the lines ask for that were not read, behind so many requests, where they are known
abbrev pub left_in : Waiting → ℕ → Option (List ℕ) → Option (Result Queues Fault)
left_in w sent more =
    option_map (λ text. rest_of w.config.geometry w.reading w.config.limits.ports w.count sent (lines text)) (prepend_known w.bytes more)

-- a request, and behind it this
abbrev pub in_front_of : Option Placed → Option (Result Queues Fault) → Option (Result Queues Fault)
in_front_of asked rest = option_map (λ said. said >>> λ queues. Ok (in_front asked queues)) rest

-- what the next line asks for; behind it the same is left as before
abbrev pub IsNext : Next → Waiting → ℕ → Option (List ℕ) → Waiting → Option (List ℕ) → Type 0
IsNext Nothing old sent more new less = IsSame (left_in old sent more) (left_in new sent less)
IsNext (Ask placed) old sent more new less =
    (placed.port < old.config.limits.ports) × IsSame (left_in old sent more) (in_front_of (Some placed) (left_in new (sent + 1) less))
IsNext End old sent more new less = IsSame (left_in old sent more) (Some (Ok (replicate old.config.limits.ports [])))

-- a line that asks for this
abbrev pub next_of : Option Placed → Next
next_of None = Nothing
next_of (Some placed) = Ask placed

-- how many lines that is
abbrev pub lines_in : Next → ℕ
lines_in Nothing = 1
lines_in (Ask placed) = 1
lines_in End = 0

-- a request more, behind the others of its port
abbrev pub pushed : Placed → Waiting → Waiting
pushed placed w = record w {
  queues = slice_set w.queues placed.port (queue_at w.queues placed.port ++ placed.ask ∷ []);
  asked = slice_set w.asked placed.port (with_request placed.ask.kind (slice_index_or w.asked placed.port no_requests));
  sent = w.sent + 1;
}

-- why the line of this number was not found
abbrev pub line_fault : ℕ → Refusal → Fault
line_fault line refusals.Line = faults.ReplayLine line TooLong
line_fault line refusals.Read = faults.Read
line_fault line refusals.OutOfMemory = faults.OutOfMemory
