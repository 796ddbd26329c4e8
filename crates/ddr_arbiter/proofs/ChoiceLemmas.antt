-- The steps of the choice, by what the ones before gave.
use Rattle.std.proofs.Common.{◌≡◌, ℕ, true, false, Some, None, refl}
use Rattle.ddr_arbiter.specs.Choice.{is_something, refresh_choice, candidates_of, column_choice, column_place, row_choice, choice_of}
use Rattle.ddr_arbiter.specs.Situation.{Situation}

pub refresh_chosen : (s : Situation) → is_something (refresh_choice s.bus s.waiting s.refreshes) ≡ true → refresh_choice s.bus s.waiting s.refreshes ≡ choice_of s
refresh_chosen s some = rw some refl

pub column_chosen : (s : Situation) (place : ℕ) → is_something (refresh_choice s.bus s.waiting s.refreshes) ≡ false → Some place ≡ column_place s.bus s.waiting (candidates_of s) s.room →
    column_choice s.policy.closed s.waiting place ≡ choice_of s
column_chosen s place free found = rw (free, ← found) refl

pub row_chosen : (s : Situation) → is_something (refresh_choice s.bus s.waiting s.refreshes) ≡ false → None ≡ column_place s.bus s.waiting (candidates_of s) s.room →
    row_choice s.bus s.waiting (candidates_of s) ≡ choice_of s
row_chosen s free none = rw (free, ← none) refl
