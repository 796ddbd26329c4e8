-- The times of a replay's requests: which were accepted in which round, and how long those took whose replies were released.
use Rattle.std.specs.Prelude.{ℕ, ◌-◌, Bool, if◌then◌else◌, List, [], ◌∷◌, ◌++◌, drop, length, max, replicate, slice_get, slice_index_or, slice_set, Option, Some, None}
use Rattle.std.specs.Option.{option_map}
use Rattle.ddr_timing.specs.declared.config.Config.{Config}
use Rattle.ddr_trace.specs.declared.command.Entry.{Entry}
use Rattle.ddr_ledger.specs.declared.times.Accepted.{Accepted}
use Rattle.ddr_ledger.specs.declared.times.Times.{Times}
use Rattle.ddr_reorder.specs.declared.reply.Service.{Service}
use Rattle.ddr_statistics.specs.declared.counts.Finding.{Finding}
use Rattle.ddr_ledger.specs.declared.activity.Activity.{Activity}
use Rattle.ddr_ledger.specs.declared.activity.Seen.{Seen}
use Rattle.ddr_ledger.specs.declared.rows.Rows.{Rows}
use Rattle.ddr_ledger.specs.declared.released.ReleasedRequest.{ReleasedRequest}
use Rattle.ddr_ledger.specs.Activity.{acted, no_activity}
use Rattle.ddr_ledger.specs.declared.waited.Waited.{Waited}
use Rattle.ddr_ledger.specs.Rows.{column_counted, no_rows}
use Rattle.ddr_ledger.specs.Stalls.{Stalled, idled, issued, no_stalls}
use Rattle.ddr_ledger.specs.Times.{count_of, no_times, timed}
use Rattle.ddr_ledger.specs.Waited.{no_wait, waited_for, window_waited}
use Rattle.ddr_trace.specs.declared.command.Command.{Command}
use Rattle.ddr_world.specs.declared.event.Refusal.{Refusal}

pub record Ledger : Type 0 where
  pub config : Config
  -- of each port the requests that were accepted and whose replies weren't released, the oldest first
  pub accepted : List (List Accepted)
  -- how those found their banks whose read or write was issued
  pub found : List (List (Option Finding))
  -- how many there were of each port at the most
  pub windows : List ℕ
  -- the times of the others: of all ports, and of each
  pub total : Times
  pub ports : List Times
  -- how the reads and the writes of each port found their banks that were issued
  pub rows : List Rows
  -- for how many rounds each port waited
  pub waited : List Waited
  -- what each channel did in its cycles
  pub activity : List Activity
  -- what its commands waited for while requests were pending
  pub stalls : List Stalled
  -- whether the others are kept, and those that are, in the order in which their replies were released
  pub keeps : Bool
  pub served : List ReleasedRequest

-- of the channels and ports of this configuration, before the first request
abbrev pub no_ledger : Config → Bool → Ledger
no_ledger config keeps = record {
  config = config;
  accepted = replicate config.limits.ports [];
  found = replicate config.limits.ports [];
  windows = replicate config.limits.ports 0;
  total = no_times;
  ports = replicate config.limits.ports no_times;
  rows = replicate config.limits.ports no_rows;
  waited = replicate config.limits.ports no_wait;
  activity = replicate config.geometry.channels no_activity;
  stalls = replicate config.geometry.channels (no_stalls config);
  keeps = keeps;
  served = [];
}

abbrev pub accepted_at : Ledger → ℕ → List Accepted
accepted_at ledger port = slice_index_or ledger.accepted port []

abbrev pub found_at : Ledger → ℕ → List (Option Finding)
found_at ledger port = slice_index_or ledger.found port []

abbrev pub window_at : Ledger → ℕ → ℕ
window_at ledger port = slice_index_or ledger.windows port 0

abbrev pub times_at : Ledger → ℕ → Times
times_at ledger port = slice_index_or ledger.ports port no_times

abbrev pub rows_at : Ledger → ℕ → Rows
rows_at ledger port = slice_index_or ledger.rows port no_rows

abbrev pub waited_at : Ledger → ℕ → Waited
waited_at ledger port = slice_index_or ledger.waited port no_wait

abbrev pub activity_at : Ledger → ℕ → Activity
activity_at ledger channel = slice_index_or ledger.activity channel no_activity

abbrev pub stalls_at : Ledger → ℕ → Stalled
stalls_at ledger channel = slice_index_or ledger.stalls channel (no_stalls ledger.config)

-- a port waits in a round, where its request is refused so
abbrev pub with_wait : ℕ → Refusal → Ledger → Ledger
with_wait port cause ledger = record ledger { waited = slice_set ledger.waited port (waited_for cause (waited_at ledger port)) }

-- and in so many rounds where its window is full
abbrev pub with_full : ℕ → ℕ → Ledger → Ledger
with_full port rounds ledger = record ledger { waited = slice_set ledger.waited port (window_waited rounds (waited_at ledger port)) }

-- a channel counts so many cycles more, behind each of which this was seen of it
abbrev pub with_acted : ℕ → ℕ → Seen → Ledger → Ledger
with_acted channel cycles seen ledger = record ledger { activity = slice_set ledger.activity channel (acted cycles seen (activity_at ledger channel)) }

-- those from `now` on, behind each of which its oldest pending request was admitted then, if one was pending
abbrev pub with_idled : ℕ → ℕ → ℕ → Option ℕ → Ledger → Ledger
with_idled channel now cycles oldest ledger = record ledger { stalls = slice_set ledger.stalls channel (idled now cycles oldest (stalls_at ledger channel)) }

-- both
abbrev pub with_activity : ℕ → ℕ → ℕ → Seen → Ledger → Ledger
with_activity channel now cycles seen ledger = with_idled channel now cycles seen.oldest (with_acted channel cycles seen ledger)

-- a channel issues a command, in the cycle that it counts next
abbrev pub with_command : ℕ → Entry → Ledger → Ledger
with_command channel e ledger = record ledger { stalls = slice_set ledger.stalls channel (issued e (stalls_at ledger channel)) }

-- a request more of a port, which is not issued yet
abbrev pub with_outstanding : ℕ → Accepted → Ledger → Ledger
with_outstanding port accepted ledger = record ledger { accepted = slice_set ledger.accepted port (accepted_at ledger port ++ accepted ∷ []) }

abbrev pub with_unissued : ℕ → Ledger → Ledger
with_unissued port ledger = record ledger { found = slice_set ledger.found port (found_at ledger port ++ None ∷ []) }

-- as many are outstanding as there are now, or more were before
abbrev pub with_window : ℕ → Ledger → Ledger
with_window port ledger = record ledger { windows = slice_set ledger.windows port (max (window_at ledger port) (length (accepted_at ledger port))) }

abbrev pub with_accepted : ℕ → Accepted → Ledger → Ledger
with_accepted port accepted ledger = with_window port (with_unissued port (with_outstanding port accepted ledger))

-- a read or a write more of a port, which found its bank so
abbrev pub with_column : ℕ → Command → Option Finding → Ledger → Ledger
with_column port command found ledger = record ledger { rows = slice_set ledger.rows port (column_counted command found (rows_at ledger port)) }

-- it is noted of the port's request of this number, where requests are kept
abbrev pub with_finding : ℕ → ℕ → Option Finding → Ledger → Ledger
with_finding port number found ledger =
    if ledger.keeps then record ledger { found = slice_set ledger.found port (slice_set (found_at ledger port) (number - count_of (times_at ledger port)) found) }
    else ledger

-- the read or write that serves a port's request of this number found its bank so
abbrev pub with_found : ℕ → ℕ → Command → Option Finding → Ledger → Ledger
with_found port number command found ledger = with_finding port number found (with_column port command found ledger)

-- how the oldest request found its bank
abbrev pub oldest_found : List (Option Finding) → Option Finding
oldest_found found = slice_index_or found 0 None

-- the port's oldest request is none of them any more
abbrev pub without_oldest : ℕ → Ledger → Ledger
without_oldest port ledger = record ledger { accepted = slice_set ledger.accepted port (drop 1 (accepted_at ledger port)) }

-- this request of a port, which was served so, and whose reply is released in this round
abbrev pub served_of : ℕ → Service → ℕ → Accepted → Ledger → ReleasedRequest
served_of port service round accepted ledger = record {
  ask = accepted.ask;
  port = port;
  number = count_of (times_at ledger port);
  accepted = accepted.round;
  issued = service.issued;
  due = service.due;
  released = round;
  found = oldest_found (found_at ledger port);
}

-- the port's oldest request, where requests are kept
abbrev pub next_row : ℕ → Service → ℕ → Ledger → Option ReleasedRequest
next_row port service round ledger =
    if ledger.keeps then option_map (λ accepted. served_of port service round accepted ledger) (slice_get (accepted_at ledger port) 0) else None

-- it is kept, where requests are
abbrev pub with_served : ReleasedRequest → Ledger → Ledger
with_served served ledger = if ledger.keeps then record ledger { served = ledger.served ++ served ∷ [] } else ledger

-- its times are noted
abbrev pub with_times : ℕ → ℕ → ℕ → Accepted → Ledger → Ledger
with_times port issued round accepted ledger = record ledger {
  total = timed accepted issued round ledger.total;
  ports = slice_set ledger.ports port (timed accepted issued round (times_at ledger port));
}

abbrev pub with_oldest : ℕ → Service → ℕ → Option Accepted → Ledger → Ledger
with_oldest port service round None ledger = ledger
with_oldest port service round (Some accepted) ledger =
    with_times port service.issued round accepted (with_served (served_of port service round accepted ledger) ledger)

abbrev pub without_found : ℕ → Ledger → Ledger
without_found port ledger = record ledger { found = slice_set ledger.found port (drop 1 (found_at ledger port)) }

-- the reply of the port's oldest request is released
abbrev pub noted : ℕ → Service → ℕ → Ledger → Ledger
noted port service round ledger = without_found port (with_oldest port service round (slice_get (accepted_at ledger port) 0) (without_oldest port ledger))
