-- What contracts see of a legality: the command bus, and how many entries it has room for.
use Rattle.std.specs.Prelude.{ℕ, Bool}
use Rattle.ddr_legality.specs.Bus.{Bus}

pub record Kept : Type 0 where
  pub bus : Bus
  pub spare : ℕ
  -- whether the entries are kept
  pub keeps : Bool
