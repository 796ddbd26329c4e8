-- What contracts see of a stream that is read line by line, and what all its requests are that were not taken.
use Rattle.std.specs.Prelude.{◌≡◌, ◌⊎◌, ℕ, ◌+◌, ◌<◌, ◌≤◌, Bool, true, false, if◌then◌else◌, List, [], ◌∷◌, ◌++◌, drop, length, replicate, slice_set, sum_by, Option, Some, None, IfSome, Result, Ok, Err}
use Rattle.std.specs.Io.KnownBytes.{prepend_known}
use Rattle.std.specs.Option.{option_map}
use Rattle.std.specs.Str.Lines.{lines}
use Rattle.ddr_timing.specs.declared.config.Config.{Config}
use Rattle.ddr_text.specs.declared.command.Reading.{Reading}
use Rattle.ddr_text.specs.declared.fault.Fault.{Fault}
use Rattle.ddr_text.specs.declared.fault.Fault.TheVariants as faults
use Rattle.ddr_text.specs.Instructions.{◌>>>◌}
use Rattle.ddr_capture.specs.declared.feed.TheConstants.{MOST_LINES}
use Rattle.ddr_stream.specs.declared.requests.Requests.{Requests}
use Rattle.ddr_stream.specs.Requests.{no_requests, with_requests}
use Rattle.ddr_stream.specs.Stream.{Queues, queue_at, rest_of}

pub record Waiting : Type 0 where
  pub config : Config
  pub reading : Reading
  -- the bytes that were read and whose lines were not
  pub bytes : List ℕ
  -- how many lines were read, how many requests those have, and how many of the requests were taken
  pub count : ℕ
  pub sent : ℕ
  pub taken : ℕ
  -- whether those are all lines
  pub ended : Bool
  -- of each port the requests that were read and not taken, and how many were read
  pub queues : Queues
  pub asked : List Requests

-- of which no line was read
abbrev pub begun : Config → Reading → List ℕ → Waiting
begun config reading bytes = record {
  config = config;
  reading = reading;
  bytes = bytes;
  count = 0;
  sent = 0;
  taken = 0;
  ended = false;
  queues = replicate config.limits.ports [];
  asked = replicate config.limits.ports no_requests;
}

-- the first request of a port is taken
abbrev pub popped : ℕ → Waiting → Waiting
popped port w = record w { queues = slice_set w.queues port (drop 1 (queue_at w.queues port)); taken = w.taken + 1 }

-- there are as many queues as ports, what was read was taken or waits, and lines are counted
pub record IsSized (w : Waiting) : Type 0 where
  pub queues : length w.queues ≡ w.config.limits.ports
  pub asked : length w.asked ≡ w.config.limits.ports
  pub counted : sum_by length w.queues + w.taken ≡ w.sent
  pub few : w.sent ≤ MOST_LINES

-- ---- all requests

-- what the lines ask for that were not read, where they are known
abbrev pub rest_in : Waiting → Option (List ℕ) → Option (Result Queues Fault)
rest_in w more =
    if w.ended then Some (Ok (replicate w.config.limits.ports []))
    else option_map (λ text. rest_of w.config.geometry w.reading w.config.limits.ports w.count w.sent (lines text)) (prepend_known w.bytes more)

-- of each port the requests that were not taken, and how many it has of each kind with those that were
pub record All : Type 0 where
  pub queues : Queues
  pub requests : List Requests

-- each of the first list with what stands in its place in the second
abbrev pub beside : {A B : Type 0} → (A → B → A) → List A → List B → List A
beside f [] ys = []
beside f (x ∷ xs) [] = x ∷ xs
beside f (x ∷ xs) (y ∷ ys) = f x y ∷ beside f xs ys

-- what waits, and behind it these
abbrev pub with_rest : Waiting → Queues → All
with_rest w rest = record { queues = beside (λ asks more. asks ++ more) w.queues rest; requests = beside with_requests w.asked rest }

-- all requests that were not taken, where the lines are known that were not read: what waits, and behind it what those lines ask for; or
-- their first fault
abbrev pub all_in : Waiting → Option (List ℕ) → Option (Result All Fault)
all_in w more = option_map (λ said. said >>> λ rest. Ok (with_rest w rest)) (rest_in w more)

-- all but the first request of a port
abbrev pub dropped : ℕ → All → All
dropped port all = record all { queues = slice_set all.queues port (drop 1 (queue_at all.queues port)) }

-- ---- what is read on changes none of it

-- what is known is the same as before
abbrev pub IsSame : {X : Type 0} → Option X → Option X → Type 0
IsSame None new = Unit {0}
IsSame (Some x) new = new ≡ Some x

-- of a port the next request is known, or that there is none
abbrev pub Knows : Waiting → ℕ → Type 0
Knows w port = (0 < length (queue_at w.queues port)) ⊎ (w.ended ≡ true)

-- so it is of each port
abbrev pub IsAhead : Waiting → Type 0
IsAhead w = (port : ℕ) → port < w.config.limits.ports → Knows w port

-- nothing was taken, and what was known is
pub record IsReadOn (old new : Waiting) : Type 0 where
  pub config : new.config ≡ old.config
  pub taken : new.taken ≡ old.taken
  pub knows : (port : ℕ) → Knows old port → Knows new port
  pub sized : IsSized new

-- a fault by which the reading ends
abbrev pub IsStreamFault : Fault → Type 0
IsStreamFault (faults.ReplayLine line cause) = Unit {0}
IsStreamFault (faults.ReplayRange line) = Unit {0}
IsStreamFault faults.InputTooLong = Unit {0}
IsStreamFault faults.Read = Unit {0}
IsStreamFault faults.OutOfMemory = Unit {0}
IsStreamFault _ = ⊥

-- it is the first of the lines; reading and memory fail by themselves
abbrev pub IsSaidFault : {X : Type 0} → Fault → Option (Result X Fault) → Type 0
IsSaidFault (faults.ReplayLine line cause) all = IfSome all (λ said. said ≡ Err (faults.ReplayLine line cause))
IsSaidFault (faults.ReplayRange line) all = IfSome all (λ said. said ≡ Err (faults.ReplayRange line))
IsSaidFault faults.InputTooLong all = IfSome all (λ said. said ≡ Err faults.InputTooLong)
IsSaidFault faults.Read all = Unit {0}
IsSaidFault faults.OutOfMemory all = Unit {0}
IsSaidFault _ all = ⊥
