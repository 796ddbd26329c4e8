-- The refreshes that ranks owe: one falls due each REFI from the trace's start on, and each REF of the rank pays for one.
use Rattle.std.specs.Prelude.{ℕ, zero, suc, ◌+◌, ◌-◌, ◌/◌, ◌<◌, ◌&&◌, nat_lt, max, List, [], ◌∷◌, count_by}
use Rattle.ddr_trace.specs.declared.command.Entry.{Entry}
use Rattle.ddr_trace.specs.Commands.{is_refresh}
use Rattle.ddr_statistics.specs.Counts.{is_of_rank}

-- how many refreshes of a rank fell due up to a cycle, by REFI and the trace's first cycle, in which none does
abbrev pub due_in : ℕ → ℕ → ℕ → ℕ
due_in refi start cycle = (cycle - start) / refi

-- how many REFs of the rank came before the cycle
abbrev pub paid_before : ℕ → List Entry → ℕ → ℕ
paid_before rank history cycle = count_by (λ e. is_of_rank rank e.command && is_refresh e.command && nat_lt e.cycle cycle) history

-- how many refreshes the rank owes in the cycle, before the command that comes in it
abbrev pub debt_in : ℕ → ℕ → ℕ → List Entry → ℕ → ℕ
debt_in refi start rank history cycle = due_in refi start cycle - paid_before rank history cycle

-- the greatest of the first so many numbers of a row
abbrev pub most_of : (ℕ → ℕ) → ℕ → ℕ
most_of number zero = 0
most_of number (suc n) = max (most_of number n) (number n)

-- the most that the rank owes in a cycle of the trace, which ends before that cycle
unfoldable pub debt_most : ℕ → ℕ → ℕ → ℕ → List Entry → ℕ
debt_most refi start end rank history = most_of (λ k. debt_in refi start rank history (start + k)) (end - start)

-- the most that one of so many ranks owes
abbrev pub debts_most : ℕ → ℕ → ℕ → ℕ → List Entry → ℕ
debts_most refi start end ranks history = most_of (λ rank. debt_most refi start end rank history) ranks

-- the next command comes later
abbrev pub IsBelowNext : ℕ → List Entry → Type 0
IsBelowNext cycle [] = Unit {0}
IsBelowNext cycle (e ∷ later) = cycle < e.cycle

-- cycles rise, and all lie before the end
abbrev pub IsInOrder : ℕ → List Entry → Type 0
IsInOrder end [] = Unit {0}
IsInOrder end (e ∷ later) = (e.cycle < end) × IsBelowNext e.cycle later × IsInOrder end later
