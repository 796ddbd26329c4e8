-- The cycle of the last command of a kind, and what stands too close behind it.
use Rattle.std.specs.Prelude.{ℕ, zero, suc, ◌+◌, Bool, false, nat_lt, max, if◌then◌else◌, List, [], ◌∷◌, Option, Some, None}
use Rattle.ddr_trace.specs.declared.command.Command.{Command}
use Rattle.ddr_trace.specs.declared.command.Entry.{Entry}

-- the later one of two cycles, where each may be missing
abbrev pub later : Option ℕ → Option ℕ → Option ℕ
later None b = b
later (Some a) None = Some a
later (Some a) (Some b) = Some (max a b)

-- the latest of n cycles, where each may be missing
abbrev pub latest_among : (ℕ → Option ℕ) → ℕ → Option ℕ
latest_among cycle zero = None
latest_among cycle (suc n) = later (latest_among cycle n) (cycle n)

-- the cycle of the last command that passes the test
abbrev pub latest : (Command → Bool) → List Entry → Option ℕ
latest test [] = None
latest test (a ∷ after) = later (if test a.command then Some a.cycle else None) (latest test after)

-- the cycle stands fewer than so many clocks after the last command of a kind
abbrev pub is_within : ℕ → ℕ → Option ℕ → Bool
is_within clocks cycle None = false
is_within clocks cycle (Some at) = nat_lt cycle (at + clocks)
