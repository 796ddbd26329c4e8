-- Where it is kept when a port's requests were accepted.
use Rattle.std.specs.Prelude.{ℕ, ◌+◌, ◌*◌, ◌%◌, List, Result, Ok, slice_get, slice_set, unwrap_or}
use Rattle.std.specs.Option.{option_map_or}
use Rattle.ddr_timing.specs.declared.units.TheConstants.{MOST_OUTSTANDING}
use Rattle.ddr_world.specs.declared.event.Outcome.{Outcome}
use Rattle.ddr_world.specs.declared.event.Outcome.TheVariants.{Accepted}
use Rattle.ddr_world.specs.declared.event.Refusal.{Refusal}
use Rattle.ddr_world.specs.State.{State}

-- a port's places stand together; numbers that are as many apart as may be outstanding share one
abbrev pub place_of : ℕ → ℕ → ℕ
place_of port number = port * MOST_OUTSTANDING + number % MOST_OUTSTANDING

-- the clock when a request of a port was accepted
abbrev pub accepted_at : List ℕ → ℕ → ℕ → ℕ
accepted_at stamps port number = unwrap_or (slice_get stamps (place_of port number)) 0

-- where a port accepts a request, at this clock
abbrev pub stamped : ℕ → Result Outcome Refusal → ℕ → List ℕ → List ℕ
stamped port (Ok (Accepted number)) clock stamps = slice_set stamps (place_of port number) clock
stamped port _ clock stamps = stamps

-- the next cycle of the first channel
abbrev pub clock_of : State → ℕ
clock_of s = option_map_or (λ side. side.channel.now) (slice_get s.channels 0) 0
