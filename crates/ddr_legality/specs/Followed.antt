-- Entries that a checker can pass.
use Rattle.std.specs.Prelude.{◌≡◌, ℕ, ◌<◌, true, List, take, Some, slice_get}
use Rattle.ddr_timing.specs.declared.geometry.Geometry.{Geometry}
use Rattle.ddr_trace.specs.declared.command.Entry.{Entry}
use Rattle.ddr_trace.specs.Rules.{is_in, last_cycle_below}

-- the entry is of the geometry, and its cycle is above those before it
abbrev pub IsFollowed : Geometry → List Entry → Entry → Type 0
IsFollowed g history e = (is_in g e.command ≡ true) × (last_cycle_below history e.cycle ≡ true)

-- and so is every entry before the place
abbrev pub AreFollowed : Geometry → List Entry → ℕ → Type 0
AreFollowed g entries place =
    (before : ℕ) (e : Entry) → before < place → slice_get entries before ≡ Some e → IsFollowed g (take before entries) e
