-- How the clocks of a channel are counted in which requests are pending and no command goes out.
use Rattle.std.specs.Prelude.{ℕ, ◌+◌, ◌-◌, min, Bool, true, false, ◌&&◌, ◌||◌, ◌==◌, if◌then◌else◌, List, [], ◌∷◌, ◌++◌, fold, slice_get, Option, Some, None}
use Rattle.std.specs.Option.{option_map_or}
use Rattle.ddr_timing.specs.declared.config.Config.{Config}
use Rattle.ddr_trace.specs.declared.command.Entry.{Entry}
use Rattle.ddr_trace.specs.declared.rule.Rule.{Rule}
use Rattle.ddr_trace.specs.Commands.{entry}
use Rattle.ddr_trace.specs.Legality.{lowest_rule}
use Rattle.ddr_trace.specs.Rules.{breaks, is_in, last_cycle_below}
use Rattle.ddr_statistics.specs.Noted.{raised}
use Rattle.ddr_world.specs.Promise.{is_for_refresh}
use Rattle.ddr_ledger.specs.declared.causes.Causes.{Causes}
use Rattle.ddr_ledger.specs.Causes.{capped, charged, clocks_of, no_causes}

pub record Stalled : Type 0 where
  pub config : Config
  -- the channel's commands so far
  pub past : List Entry
  -- a command went out in the cycle that is counted next
  pub busy : Bool
  -- the clocks that no command has ended yet
  pub waiting : ℕ
  -- those that one has, and those in which the oldest request had reached the cap
  pub causes : Causes

-- before the first cycle
abbrev pub no_stalls : Config → Stalled
no_stalls config = record { config = config; past = []; busy = false; waiting = 0; causes = no_causes }

-- The lowest rule that the command would have broken one clock earlier, behind the same commands and in a trace that ends there: the last
-- rule that held it.
abbrev pub held_by : Config → List Entry → Entry → Option Rule
held_by config past e = lowest_rule (λ r. breaks config 0 e.cycle r past (entry (e.cycle - 1) e.command))

-- an ACT, a PRE, a read or a write ends the wait; REF and PREA, which serve no request, don't
abbrev pub ended : Entry → Stalled → Stalled
ended e s =
    if is_for_refresh e.command || s.waiting == 0 then s
    else record s { waiting = 0; causes = charged (held_by s.config s.past e) s.waiting s.causes }

-- it is one of the channel's commands; each of a channel is of the geometry, and comes behind those before it
abbrev pub passed : Entry → Stalled → Stalled
passed e s = if is_in s.config.geometry e.command && last_cycle_below s.past e.cycle then record s { past = s.past ++ e ∷ [] } else s

-- a command goes out, in the cycle that is counted next
abbrev pub issued : Entry → Stalled → Stalled
issued e s = record (passed e (ended e s)) { busy = true }

-- Of so many cycles from `now` on, behind each of which requests were pending, those in which no command went out: the last ones, in which the
-- oldest request had reached the cap, are counted for the cap, and the others wait.
abbrev pub idle_of : ℕ → Stalled → ℕ
idle_of cycles s = if s.busy then cycles - 1 else cycles

abbrev pub at_cap : ℕ → ℕ → ℕ → Stalled → ℕ
at_cap now cycles admitted s = min (idle_of cycles s) (now + cycles - (admitted + s.config.limits.cap))

-- so many cycles from `now` on, behind each of which the oldest pending request was admitted then, if one was pending
abbrev pub idled : ℕ → ℕ → Option ℕ → Stalled → Stalled
idled now cycles None s = record s { busy = false }
idled now cycles (Some admitted) s = record s {
  busy = false;
  waiting = raised (idle_of cycles s - at_cap now cycles admitted s) s.waiting;
  causes = capped (at_cap now cycles admitted s) s.causes;
}

-- what a channel of this number waited for; nothing where it isn't told of
abbrev pub causes_at : List Stalled → ℕ → Causes
causes_at all channel = option_map_or (λ s. s.causes) (slice_get all channel) no_causes

-- the clocks of several channels together
abbrev pub and_stalls : ℕ → Stalled → ℕ
and_stalls all s = raised (clocks_of s.causes) all

abbrev pub stalls_together : List Stalled → ℕ
stalls_together all = fold and_stalls 0 all
