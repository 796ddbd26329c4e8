-- The state of a channel, and what admission and the taking of completions make of it.
use Rattle.std.specs.Prelude.{ℕ, Bool, false, nat_le, List, [], ◌∷◌, ◌++◌, drop, replicate}
use Rattle.ddr_timing.specs.declared.config.Config.{Config}
use Rattle.ddr_timing.specs.declared.units.TheConstants.{LINE_BYTES}
use Rattle.ddr_trace.specs.declared.command.Entry.{Entry}
use Rattle.ddr_address_map.specs.declared.request.Kind.{Kind}
use Rattle.ddr_address_map.specs.declared.request.Kind.TheVariants.{Read, Write}
use Rattle.ddr_address_map.specs.Requests.{Request, Completion}
use Rattle.ddr_hazards.specs.declared.waiting.Waiting.{Waiting}
use Rattle.ddr_hazards.specs.PendingList.{pending_count}
use Rattle.ddr_channel.specs.Memory.{LineAddress}

pub record State : Type 0 where
  pub config : Config
  -- the first cycle, and the next one to be made
  pub start : ℕ
  pub now : ℕ
  -- admitted and not served, the oldest first
  pub pending : List Waiting
  -- whether writes were drained in the cycle before
  pub drain : Bool
  -- served and not complete, in the order of their column commands
  pub flight : List Completion
  -- complete and not taken, the oldest first
  pub done : List Completion
  pub trace : List Entry
  -- the bytes of each line in the rows
  pub cells : LineAddress → List ℕ

-- before the first cycle
abbrev pub opened : Config → ℕ → State
opened config start = record {
  config = config;
  start = start;
  now = start;
  pending = [];
  drain = false;
  flight = [];
  done = [];
  trace = [];
  cells = λ _. replicate LINE_BYTES 0;
}

-- how many requests of a kind may be pending
abbrev pub queue_size : Config → Kind → ℕ
queue_size config Read = config.limits.reads
queue_size config Write = config.limits.writes

-- the queue of the kind has no free place
abbrev pub is_queue_full : State → Kind → Bool
is_queue_full s kind = nat_le (queue_size s.config kind) (pending_count kind s.pending)

-- after the admission of a request
abbrev pub after_admit : Request → State → State
after_admit r s = record s { pending = s.pending ++ record { request = r; admitted = s.now } ∷ [] }

-- after the oldest completion was taken
abbrev pub after_pop : State → State
after_pop s = record s { done = drop 1 s.done }
