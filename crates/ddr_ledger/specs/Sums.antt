-- The stalled clocks of a channel together.
use Rattle.std.specs.Prelude.{◌≡◌, ◌<◌, ◌^◌, ℕ, ◌+◌, None, Some, sum_by}
use Rattle.ddr_trace.specs.declared.command.Entry.{Entry}
use Rattle.ddr_ledger.specs.declared.causes.Causes.{Causes}
use Rattle.ddr_ledger.specs.Causes.{clocks_of}
use Rattle.ddr_ledger.specs.Stalls.{Stalled, idle_of, idled, issued}

-- of all causes
abbrev pub sum_of : Causes → ℕ
sum_of c = c.cap + c.choice + sum_by (λ n. n) c.rules

-- of all causes, and those that no command has ended yet
abbrev pub stalled_clocks : Stalled → ℕ
stalled_clocks s = sum_of s.causes + s.waiting

-- Each stalled clock is counted once: one more for each cycle behind which a request is pending and in which no command went out, as long as
-- a `u64` holds them; and a command that ends some counts each of them for one cause, and no other.
pub record AddsUp (s : Stalled) : Type 0 where
  pub counted : (now cycles admitted : ℕ) → stalled_clocks s + cycles < 2 ^ 64 → stalled_clocks (idled now cycles (Some admitted) s) ≡ stalled_clocks s + idle_of cycles s
  pub none_pending : (now cycles : ℕ) → stalled_clocks (idled now cycles None s) ≡ stalled_clocks s
  pub kept : (e : Entry) → stalled_clocks (issued e s) ≡ stalled_clocks s
  -- what is told of all causes together is their sum
  pub told : clocks_of s.causes ≡ sum_of s.causes
