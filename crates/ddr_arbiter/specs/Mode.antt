-- Whether the writes are being drained.
use Rattle.std.specs.Prelude.{ℕ, Bool, true, false, nat_lt, nat_le}
use Rattle.ddr_arbiter.specs.declared.policy.Policy.{Policy}

-- the mode after this one, with so many writes pending: on, it stays on above the low mark; off, it goes on from the
-- high mark on
abbrev pub next_mode : Policy → Bool → ℕ → Bool
next_mode policy true writes = nat_lt policy.low writes
next_mode policy false writes = nat_le policy.high writes
