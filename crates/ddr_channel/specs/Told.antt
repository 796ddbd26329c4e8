-- What a cycle tells: the command that it issues, and the request that it serves.
use Rattle.std.specs.Prelude.{◌≡◌, ℕ, false, ◌+◌, ◌-◌, List, [], ◌∷◌, ◌++◌, length, Option, Some, None, slice_get}
use Rattle.std.specs.Option.{option_map, option_and_then, IsSomeAnd}
use Rattle.ddr_timing.specs.declared.config.Config.{Config}
use Rattle.ddr_trace.specs.declared.command.Command.{Command}
use Rattle.ddr_trace.specs.declared.command.Entry.{Entry}
use Rattle.ddr_trace.specs.Commands.{entry}
use Rattle.ddr_address_map.specs.Requests.{Request, Completion}
use Rattle.ddr_hazards.specs.declared.waiting.Waiting.{Waiting}
use Rattle.ddr_arbiter.specs.declared.choice.Choice.{Choice}
use Rattle.ddr_arbiter.specs.Laws.{column_place_of, command_of}
use Rattle.ddr_channel.specs.declared.issued.Issued.{Issued}
use Rattle.ddr_channel.specs.declared.issued.Served.{Served}
use Rattle.ddr_channel.specs.Choice.{choice_of}
use Rattle.ddr_channel.specs.Cycle.{at_choice, service_time}
use Rattle.ddr_channel.specs.History.{Call, Admit, Cycle, run}
use Rattle.ddr_channel.specs.Promise.{AreCalls, completions_of}
use Rattle.ddr_channel.specs.State.{State, is_queue_full}

-- the pending request whose read or write is chosen, if one is
abbrev pub column_request : List Waiting → Choice → Option Waiting
column_request pending c = option_and_then (slice_get pending) (column_place_of c)

-- a pending request that is served in the cycle
abbrev pub served_as : Config → ℕ → Waiting → Served
served_as config cycle w = record {
  port = w.request.port;
  number = w.request.number;
  echo = w.request.echo;
  admitted = w.admitted;
  due = cycle + service_time config w.request.echo.kind;
}

abbrev pub issued_with : ℕ → Option Served → Command → Issued
issued_with cycle o command = record { entry = entry cycle command; served = o }

-- the command of the choice, with the request that it serves
abbrev pub issued_by : State → Choice → Option Issued
issued_by s c = option_map (issued_with s.now (option_map (served_as s.config s.now) (column_request s.pending c))) (command_of s.pending c)

-- what the next cycle issues
abbrev pub issued_in : State → Option Issued
issued_in s = issued_by (at_choice s) (choice_of (at_choice s))

-- the trace with the entry of what was issued
abbrev pub with_issued : Option Issued → List Entry → List Entry
with_issued None trace = trace
with_issued (Some i) trace = trace ++ i.entry ∷ []

-- the completion is that of the request which was served, at the cycles that were told
pub record IsToldBy (i : Issued) (v : Served) (d : Completion) : Type 0 where
  pub port : d.port ≡ v.port
  pub number : d.number ≡ v.number
  pub echo : d.echo ≡ v.echo
  pub issued : d.issued ≡ i.entry.cycle
  pub due : d.due ≡ v.due

-- the newest completion in flight is the one that was told
abbrev pub IsNewest : List Completion → Issued → Served → Type 0
IsNewest flight i v = IsSomeAnd (slice_get flight (length flight - 1)) (IsToldBy i v)

-- A cycle after these calls told the truth, whatever calls follow: of the completions that were taken, are done or are in
-- flight, the one behind those of all earlier column commands is the one that was told.
abbrev pub ComesAsTold : Config → ℕ → List Call → Issued → Served → Type 0
ComesAsTold config start calls i v = (later : List Call) → AreCalls config later
    → IsSomeAnd (slice_get (completions_of (run config start (calls ++ Cycle ∷ [] ++ later))) (length (run config start calls).owners)) (IsToldBy i v)

-- A cycle after these calls gave its column command to a request that one of them admitted, in the cycle that was told.
pub record WasAdmitted (config : Config) (start : ℕ) (calls : List Call) (v : Served) : Type 0 where
  pub earlier : List Call
  pub request : Request
  pub later : List Call
  pub calls_are : calls ≡ earlier ++ Admit request ∷ [] ++ later
  pub free : is_queue_full (run config start earlier).state request.echo.kind ≡ false
  pub asked : (request.port ≡ v.port) × (request.number ≡ v.number) × (request.echo ≡ v.echo)
  pub cycle : (run config start earlier).state.now ≡ v.admitted
  -- the owner of the command is this request of the acceptance list
  pub owner : option_map (λ o. o.place) (slice_get (run config start (calls ++ Cycle ∷ [])).owners (length (run config start calls).owners)) ≡ Some (length (run config start earlier).accepted)
