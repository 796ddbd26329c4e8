-- A sum of two numbers, as those of a replay are added.
use Rattle.std.specs.Prelude.{ℕ}
use Rattle.ddr_statistics.specs.Noted.{raised}

-- it stops at the last number of a u64, as each of them does
abbrev pub stopping_sum : ℕ → ℕ → ℕ
stopping_sum a b = raised b a
