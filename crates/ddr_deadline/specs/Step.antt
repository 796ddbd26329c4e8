-- What a cycle makes of the oldest request, where the channel has one rank, its age has reached the cap, and nothing is done.
use Rattle.std.specs.Prelude.{◌≡◌, ◌⊎◌, ℕ, ◌+◌, ◌<◌, ◌≤◌, true, max, List, Some, None, remove, slice_get}
use Rattle.ddr_timing.specs.declared.config.Config.{Config}
use Rattle.ddr_trace.specs.declared.command.Entry.{Entry}
use Rattle.ddr_trace.specs.Commands.{is_column}
use Rattle.ddr_latency.specs.Latency.{clocks_of, column, refresh, row}
use Rattle.ddr_address_map.specs.Requests.{Request}
use Rattle.ddr_hazards.specs.declared.waiting.Waiting.{Waiting}
use Rattle.ddr_arbiter.specs.declared.choice.Choice.TheVariants as choice
use Rattle.ddr_arbiter.specs.Laws.{column_place_of}
use Rattle.ddr_channel.specs.Choice.{choice_of, situation_of}
use Rattle.ddr_channel.specs.Cycle.{after_cycle, at_choice}
use Rattle.ddr_channel.specs.Refresh.{overdue_from}
use Rattle.ddr_channel.specs.State.{State}
use Rattle.ddr_deadline.specs.Behind.{refreshed_from}
use Rattle.ddr_deadline.specs.Oldest.{own_step}
use Rattle.ddr_deadline.specs.Wait.{served_by}

-- the cycle whose tick makes the rank overdue, by its REFs so far
abbrev pub overdue_at : Config → State → ℕ → ℕ
overdue_at c s rank = overdue_from c s.start rank s.trace

-- the cycle from which on the REFs of the rank so far let other commands come
abbrev pub refreshed_at : Config → State → ℕ → ℕ
refreshed_at c s rank = refreshed_from c.timing rank s.trace

-- no read and no write came behind the cycle
abbrev pub AreColumnsBy : ℕ → List Entry → Type 0
AreColumnsBy last trace = (place : ℕ) (e : Entry) → slice_get trace place ≡ Some e → is_column e.command ≡ true → e.cycle ≤ last

-- the cycle reads and writes nothing
pub record IsUnserved (s : State) : Type 0 where
  pub choice : column_place_of (choice_of (at_choice s)) ≡ None
  pub pending : (after_cycle s).pending ≡ s.pending

-- the cycle has no REF of the rank
pub record IsUnrefreshed (c : Config) (s : State) (rank : ℕ) : Type 0 where
  pub overdue : overdue_at c (after_cycle s) rank ≡ overdue_at c s rank
  pub refreshed : refreshed_at c (after_cycle s) rank ≡ refreshed_at c s rank

-- The request's rank is overdue, and this cycle doesn't bring its REF: it brings a PREA, or nothing.
pub record StillOwes (c : Config) (s : State) (w : Waiting) : Type 0 where
  pub overdue : overdue_at c s w.request.place.rank ≤ s.now
  pub command : (choice_of (at_choice s) ≡ choice.Nothing) ⊎ (choice_of (at_choice s) ≡ choice.PreAll w.request.place.rank)
  pub unserved : IsUnserved s
  pub unrefreshed : IsUnrefreshed c s w.request.place.rank

-- Behind a cycle with a REF of its rank the request takes no longer, if it is served alone, than the REF, the ACTs before the tick that
-- makes the rank overdue, and the reads and writes so far ask.
abbrev pub ComesBehindRefresh : Config → State → Request → Type 0
ComesBehindRefresh c s r = (last : ℕ) → AreColumnsBy last s.trace → served_by (after_cycle s) r + 1
    ≤ max (max (s.now + c.timing.rfc + 1) (overdue_at c s r.place.rank + row (clocks_of c)) + c.timing.rcd) (last + column (clocks_of c) + 1)

-- The request's rank is overdue, and this cycle brings its REF: the next one is due an interval later.
pub record GetsRefresh (c : Config) (s : State) (w : Waiting) : Type 0 where
  pub overdue : overdue_at c s w.request.place.rank ≤ s.now
  pub command : choice_of (at_choice s) ≡ choice.Refresh w.request.place.rank
  pub soon : s.now + 2 ≤ overdue_at c s w.request.place.rank + refresh (clocks_of c)
  pub unserved : IsUnserved s
  pub next : overdue_at c (after_cycle s) w.request.place.rank ≡ overdue_at c s w.request.place.rank + c.timing.refi
  pub ahead : s.now + 1 ≤ overdue_at c (after_cycle s) w.request.place.rank
  pub refreshed : refreshed_at c (after_cycle s) w.request.place.rank ≤ s.now + c.timing.rfc
  pub close : ComesBehindRefresh c s w.request

-- The rank isn't overdue, and the request isn't served yet: its own ACT or PRE comes, or nothing, and it is put off by neither.
pub record ComesNearer (c : Config) (s : State) (w : Waiting) : Type 0 where
  pub early : s.now < overdue_at c s w.request.place.rank
  pub own : choice_of (at_choice s) ≡ own_step (situation_of (at_choice s)) w
  pub unserved : IsUnserved s
  pub unrefreshed : IsUnrefreshed c s w.request.place.rank
  pub kept : served_by (after_cycle s) w.request ≤ served_by s w.request

-- The rank isn't overdue, and the request is read or written: it alone leaves the pending ones.
pub record Leaves (c : Config) (s : State) (w : Waiting) : Type 0 where
  pub early : s.now < overdue_at c s w.request.place.rank
  pub choice : column_place_of (choice_of (at_choice s)) ≡ Some 0
  pub pending : (after_cycle s).pending ≡ remove s.pending 0
  pub unrefreshed : IsUnrefreshed c s w.request.place.rank

-- one of the four
abbrev pub Step : Config → State → Waiting → Type 0
Step c s w = StillOwes c s w ⊎ (GetsRefresh c s w ⊎ (ComesNearer c s w ⊎ Leaves c s w))
