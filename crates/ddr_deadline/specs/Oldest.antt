-- What the choice does for the oldest request, where it is the only candidate.
use Rattle.std.specs.Prelude.{◌≡◌, true, false, ◌&&◌, if◌then◌else◌, Some, slice_get}
use Rattle.ddr_legality.specs.Bus.{is_legal_now}
use Rattle.ddr_hazards.specs.declared.waiting.Waiting.{Waiting}
use Rattle.ddr_arbiter.specs.declared.choice.Choice.{Choice}
use Rattle.ddr_arbiter.specs.declared.choice.Choice.TheVariants as choice
use Rattle.ddr_arbiter.specs.Choice.{can_activate, column_choice, is_oldest_capped, is_on_other_row, is_rank_forced, is_something, refresh_choice}
use Rattle.ddr_arbiter.specs.Commands.{column_of, precharge_at}
use Rattle.ddr_arbiter.specs.Situation.{Situation}

-- the request is the oldest one, and its age has reached the cap
pub record IsCappedOldest (s : Situation) (w : Waiting) : Type 0 where
  pub oldest : slice_get s.waiting 0 ≡ Some w
  pub capped : is_oldest_capped s.bus.now s.policy.cap s.waiting ≡ true

-- it is, its rank doesn't have to be refreshed, and no rank is in this cycle
pub record IsServedAlone (s : Situation) (w : Waiting) : Type 0 where
  pub first : IsCappedOldest s w
  pub free : is_rank_forced s.waiting s.refreshes w.request.place.rank ≡ false
  pub unrefreshed : is_something (refresh_choice s.bus s.waiting s.refreshes) ≡ false

-- The next step of the request at place 0: its read or write, where that is legal and has room; else the ACT of its row, or the PRE of
-- another row that is open in its bank; else nothing.
abbrev pub own_step : Situation → Waiting → Choice
own_step s w =
    if s.room && is_legal_now s.bus (column_of false w.request) then column_choice s.policy.closed s.waiting 0
    else (if can_activate s.bus w.request.place then choice.Act 0
    else (if is_on_other_row s.bus w.request.place && is_legal_now s.bus (precharge_at w.request.place) then choice.Pre 0
    else choice.Nothing))
