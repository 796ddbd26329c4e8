-- How late the refreshes of a rank can come.
use Rattle.std.specs.Prelude.{◌≡◌, ℕ, ◌+◌, ◌*◌, ◌≤◌, ◌&&◌, ◌==◌, nat_le, max, List, [], ◌∷◌, filter, take, Some, slice_get}
use Rattle.ddr_timing.specs.declared.config.Config.{Config}
use Rattle.ddr_timing.specs.declared.timing.Timing.{Timing}
use Rattle.ddr_timing.specs.declared.units.TheConstants.{BURST_CLOCKS}
use Rattle.ddr_trace.specs.declared.command.Entry.{Entry}
use Rattle.ddr_trace.specs.Commands.{rank_of}
use Rattle.ddr_trace.specs.Legality.{IsLegal, IsRefreshed}
use Rattle.ddr_trace.specs.Rules.{refresh_count}
use Rattle.ddr_refresh.specs.Refreshes.{debt_of}
use Rattle.ddr_arbiter.specs.Commands.{precharge_all, refresh}
use Rattle.ddr_channel.specs.Choice.{rank_refreshes}
use Rattle.ddr_channel.specs.State.{State}

-- the clocks behind which an ACT, a read or a write of a bank lets it be precharged: RAS, a write's recovery, RTP
abbrev pub recovery_time : Timing → ℕ
recovery_time t = max (max t.ras (t.cwl + BURST_CLOCKS + t.wr)) t.rtp

-- and those behind which it lets its rank be refreshed, or a REF lets the next one come
abbrev pub refresh_time : Timing → ℕ
refresh_time t = max (recovery_time t + t.rp) t.rfc

-- the cycle whose tick brings the debt of a rank with this history above what may be put off
abbrev pub overdue_from : Config → ℕ → ℕ → List Entry → ℕ
overdue_from c start rank history = start + (refresh_count history (refresh rank) + c.timing.postpone + 1) * c.timing.refi

-- the commands of the rank from a cycle on
abbrev pub commands_from : ℕ → ℕ → List Entry → List Entry
commands_from rank cycle history = filter (λ e. rank_of e.command == rank && nat_le cycle e.cycle) history

-- no commands, or one PREA of the rank, at or before the cycle
abbrev pub IsAtMostPrecharge : ℕ → ℕ → List Entry → Type 0
IsAtMostPrecharge rank last [] = Unit {0}
IsAtMostPrecharge rank last (e ∷ []) = (e.command ≡ precharge_all rank) × (e.cycle ≤ last)
IsAtMostPrecharge rank last (e ∷ f ∷ more) = ⊥

-- The REF of the rank that comes next behind the history isn't late in this cycle: from the tick that makes the rank
-- overdue on, its commands are at most one PREA, and neither PREA nor REF waits longer than two commands of another rank
-- and these distances ask.
pub record IsNotLate (c : Config) (start cycle rank : ℕ) (history : List Entry) : Type 0 where
  pub precharge : IsAtMostPrecharge rank (overdue_from c start rank history + recovery_time c.timing + 1) (commands_from rank (overdue_from c start rank history) history)
  pub refresh : cycle ≤ overdue_from c start rank history + refresh_time c.timing + 1

pub record KeepsRefreshes (s : State) (rank : ℕ) : Type 0 where
  -- the rank owes at most one REF more than may be put off
  pub debt : debt_of (rank_refreshes s rank) ≤ s.config.timing.postpone + 1
  -- which is at most 8
  pub most : debt_of (rank_refreshes s rank) ≤ 8
  -- the REF that comes next isn't late in the next cycle, so far as it hasn't come
  pub next : IsNotLate s.config s.start s.now rank s.trace
  -- and no REF of the rank was
  pub each : (place : ℕ) (e : Entry) → slice_get s.trace place ≡ Some e → e.command ≡ refresh rank → IsNotLate s.config s.start e.cycle rank (take place s.trace)

-- the checker of a whole trace finds nothing in that of a channel: it is legal, and it is refreshed
pub record HasNoFault (s : State) : Type 0 where
  pub legal : IsLegal s.config s.start s.now s.trace
  pub refreshed : IsRefreshed s.config s.start s.now s.trace
