-- The channel's promise, over every list of calls.
use Rattle.std.specs.Prelude.{◌≡◌, ◌<◌, ◌≤◌, ℕ, List, ◌++◌, length, take, map, filter, Option, Some, option_map, slice_get, slice_index, IsPermutation}
use Rattle.std.specs.List.Sorted.{IsStrictlyIncreasing}
use Rattle.std.specs.List.{range_with_len, AllByRecursion, AllPairs}
use Rattle.ddr_timing.specs.declared.config.Config.{Config}
use Rattle.ddr_trace.specs.declared.command.Entry.{Entry}
use Rattle.ddr_trace.specs.Legality.{IsLegal}
use Rattle.ddr_address_map.specs.Requests.{Request, Completion}
use Rattle.ddr_trace.specs.Commands.{entry, is_column}
use Rattle.ddr_hazards.specs.declared.waiting.Waiting.{Waiting}
use Rattle.ddr_arbiter.specs.Commands.{column_of}
use Rattle.ddr_channel.specs.Cycle.{completion_at}
use Rattle.ddr_channel.specs.History.{Call, Admit, Cycle, Pop, Owner, History, run}
use Rattle.ddr_channel.specs.Kept.{Kept, state_of}
use Rattle.ddr_channel.specs.Memory.{LineAddress, line_of, line_over, line_after}
use Rattle.ddr_channel.specs.Sound.{IsServed}
use Rattle.ddr_channel.specs.State.{State}

-- The completion that an owner is due: a read has its line as the writes accepted before it left it.
abbrev pub answer_to : Config → List Request → Owner → Request → Completion
answer_to config accepted o r = completion_at config o.cycle (line_after (take o.place accepted) (line_of r.place)) r

abbrev pub right_answer : Config → List Request → Owner → Option Completion
right_answer config accepted o = option_map (answer_to config accepted o) (slice_get accepted o.place)

-- the column command of an owner
abbrev pub owned_entry : List Request → Owner → Option Entry
owned_entry accepted o = option_map (λ r. entry o.cycle (column_of o.auto r)) (slice_get accepted o.place)

abbrev pub requests_of : List Waiting → List Request
requests_of pending = map (λ w. w.request) pending

-- The line that the pending request at this place would read now, with the older pending writes to its line.
abbrev pub promised : State → ℕ → LineAddress → List ℕ
promised s place address = line_over (s.cells address) (take place (requests_of s.pending)) address

-- completions that were taken, are done, or are in flight
abbrev pub completions_of : History → List Completion
completions_of h = h.popped ++ h.state.done ++ h.state.flight

pub record KeepsPromise (h : History) : Type 0 where
  -- each admitted request is either pending or owns one column command
  pub each_once : IsPermutation (range_with_len 0 (length h.accepted)) (map (λ o. o.place) h.owners ++ h.waiting)
  pub pending : map Some (requests_of h.state.pending) ≡ map (slice_get h.accepted) h.waiting
  -- of two pending requests the one that was admitted first stands before the other
  pub oldest_first : AllPairs ◌<◌ h.waiting
  -- the column commands of the trace are the owners', one each
  pub commands : map Some (filter (λ e. is_column e.command) h.state.trace) ≡ map (owned_entry h.accepted) h.owners
  -- taken, done and in flight are the right answers to the owners, one each, in order
  pub answers : map Some (completions_of h) ≡ map (right_answer h.state.config h.accepted) h.owners
  pub in_order : IsStrictlyIncreasing (map (λ d. d.due) (completions_of h))
  -- a completion is done, or was taken, exactly once the cycle is made in which it was due
  pub complete : AllByRecursion (λ d. d.due < h.state.now) (h.popped ++ h.state.done)
  pub awaited : AllByRecursion (λ d. h.state.now ≤ d.due) h.state.flight
  -- what a pending request would read is what the writes accepted before it leave
  pub promise : (place : ℕ) (r : Request) → slice_get (requests_of h.state.pending) place ≡ Some r
      → promised h.state place (line_of r.place) ≡ line_after (take (slice_index h.waiting place) h.accepted) (line_of r.place)
  -- the rows, with all pending writes, are the memory after all that were accepted
  pub memory : (address : LineAddress) → line_over (h.state.cells address) (requests_of h.state.pending) address ≡ line_after h.accepted address
  pub legal : IsLegal h.state.config h.state.start h.state.now h.state.trace

-- the condition of a call: an admitted request is to a place that the channel serves
abbrev pub MayCall : Config → Call → Type 0
MayCall config (Admit r) = IsServed config r.place
MayCall config Cycle = Unit {0}
MayCall config Pop = Unit {0}

-- each call keeps its condition
abbrev pub AreCalls : Config → List Call → Type 0
AreCalls config calls = AllByRecursion (MayCall config) calls

-- The channel stands for the calls: they kept their conditions, and its state is what they make since open.
pub record StandsFor (k : Kept) (calls : List Call) : Type 0 where
  pub calls_are : AreCalls k.config calls
  pub state : state_of k ≡ (run k.config k.start calls).state

-- the completion is the right answer to the owner that comes after those whose completions were taken
pub record IsNextAnswer (h : History) (d : Completion) : Type 0 where
  pub owner : Owner
  pub next : slice_get h.owners (length h.popped) ≡ Some owner
  pub right : right_answer h.state.config h.accepted owner ≡ Some d
