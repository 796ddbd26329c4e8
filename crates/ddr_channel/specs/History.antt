-- What a list of calls makes of a channel, with what became of each request.
use Rattle.std.specs.Prelude.{ℕ, Bool, true, false, ◌==◌, if◌then◌else◌, List, [], ◌∷◌, ◌++◌, length, take, fold, remove, slice_index}
use Rattle.ddr_timing.specs.declared.config.Config.{Config}
use Rattle.ddr_timing.specs.declared.units.TheConstants.{CLOCK_STOP}
use Rattle.ddr_address_map.specs.Requests.{Request, Completion}
use Rattle.ddr_arbiter.specs.declared.choice.Choice.{Choice}
use Rattle.ddr_arbiter.specs.declared.choice.Choice.TheVariants as choice
use Rattle.ddr_channel.specs.Choice.{choice_of}
use Rattle.ddr_channel.specs.Cycle.{at_choice, after_cycle}
use Rattle.ddr_channel.specs.State.{State, opened, after_admit, after_pop, is_queue_full}

-- the calls that change a channel
pub data Call : Type 0 where
  Admit : Request → Call
  Cycle : Call
  Pop : Call

-- the owner of a column command: a place in the acceptance list, the cycle of the command, and whether it is one with
-- auto-precharge
pub record Owner : Type 0 where
  pub place : ℕ
  pub cycle : ℕ
  pub auto : Bool

pub record History : Type 0 where
  pub state : State
  -- the acceptance list: the admitted requests, in order
  pub accepted : List Request
  -- of each pending request its place in the acceptance list
  pub waiting : List ℕ
  -- the owners of the column commands, in order
  pub owners : List Owner
  -- the completions that were taken, in order
  pub popped : List Completion

abbrev pub begun : Config → ℕ → History
begun config start = record { state = opened config start; accepted = []; waiting = []; owners = []; popped = [] }

-- a column command gives the request at that place of the pending ones its owner
abbrev pub owned : Bool → ℕ → History → History
owned auto place h = record h {
  owners = h.owners ++ record { place = slice_index h.waiting place; cycle = h.state.now; auto = auto } ∷ [];
  waiting = remove h.waiting place;
}

abbrev pub with_owner : Choice → History → History
with_owner (choice.Column place) h = owned false place h
with_owner (choice.ColumnAuto place) h = owned true place h
with_owner _ h = h

-- a refused call leaves all as it was
abbrev pub after_call : History → Call → History
after_call h (Admit r) = if is_queue_full h.state r.echo.kind then h else record h {
  state = after_admit r h.state;
  accepted = h.accepted ++ r ∷ [];
  waiting = h.waiting ++ length h.accepted ∷ [];
}
after_call h Cycle = if h.state.now == CLOCK_STOP then h else record (with_owner (choice_of (at_choice h.state)) h) {
  state = after_cycle h.state;
}
after_call h Pop = record h { state = after_pop h.state; popped = h.popped ++ take 1 h.state.done }

-- what the calls since open make, one after another
abbrev pub run : Config → ℕ → List Call → History
run config start calls = fold after_call (begun config start) calls
