-- The requests of a stream as a replay takes them: by their cycles as they stand, or counted from the first one's.
use Rattle.std.specs.Prelude.{◌≡◌, ℕ, ◌-◌, Bool, true, false, min, List, fold, map, Option, Some, Result, Ok}
use Rattle.ddr_timing.specs.declared.config.Config.{Config}
use Rattle.ddr_text.specs.declared.fault.Fault.{Fault}
use Rattle.ddr_text.specs.Instructions.{◌>>>◌}
use Rattle.ddr_stream.specs.declared.ask.Ask.{Ask}
use Rattle.ddr_stream.specs.Requests.{requests_in}
use Rattle.ddr_stream.specs.Stream.{Queues, queues_of}
use Rattle.ddr_stream.specs.Waiting.{All, IsSaidFault}
use Rattle.ddr_replay.specs.declared.taken.Taking.{Taking}

-- the least of this cycle and of those of these requests
abbrev pub first_from : ℕ → List Ask → ℕ
first_from first asks = fold (λ least ask. min least ask.at) first asks

-- the least cycle of a request, the greatest that there is where there is none
abbrev pub first_of : Queues → ℕ
first_of queues = fold first_from 18446744073709551615 queues

-- a request so many cycles earlier, and all of them
abbrev pub shifted_ask : ℕ → Ask → Ask
shifted_ask by ask = record ask { at = ask.at - by }

abbrev pub shifted : ℕ → Queues → Queues
shifted by queues = map (map (shifted_ask by)) queues

abbrev pub started : Bool → Queues → Queues
started true queues = shifted (first_of queues) queues
started false queues = queues

-- the requests that a stream has for each port, or its first line at fault
abbrev pub taken_of : Config → Taking → List ℕ → Result Queues Fault
taken_of config taking body = queues_of config taking.reading body >>> λ queues. Ok (started taking.from_first queues)

-- all requests of a stream so taken, with how many each port has of each kind
abbrev pub all_of : Config → Taking → List ℕ → Result All Fault
all_of config taking body = taken_of config taking body >>> λ queues. Ok (record { queues = queues; requests = map requests_in queues })

abbrev pub IsTaken : Config → Taking → List ℕ → Option (Result All Fault) → Type 0
IsTaken config taking body all = all ≡ Some (all_of config taking body)

-- the first fault of its lines; reading and memory fail by themselves
abbrev pub IsTakenFault : Config → Taking → Fault → List ℕ → Type 0
IsTakenFault config taking fault body = IsSaidFault fault (Some (all_of config taking body))
