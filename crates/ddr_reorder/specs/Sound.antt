-- What every state of a reorder buffer keeps.
use Rattle.std.specs.Prelude.{◌≡◌, ◌-◌, ◌≤◌, length, map}
use Rattle.std.specs.List.{All, range_with_len}
use Rattle.ddr_timing.specs.declared.units.TheConstants.{CLOCK_STOP}
use Rattle.ddr_reorder.specs.State.{ReorderState, IsWithinLine}

pub record IsSound (s : ReorderState) : Type 0 where
  -- the outstanding numbers are those right before the next one, in order
  pub numbers : map (λ o. o.number) s.outstanding ≡ range_with_len (s.next - length s.outstanding) (length s.outstanding)
  pub begun : length s.outstanding ≤ s.next
  pub spent : s.next ≤ CLOCK_STOP
  pub window : length s.outstanding ≤ s.window
  pub within_line : All (λ o. IsWithinLine o.echo) s.outstanding
