-- The clocks that background energy goes by: in how many cycles of the trace a bank of a rank was active, in how many the rank was
-- being refreshed, and in how many it was neither.
use Rattle.std.specs.Prelude.{ℕ, ◌+◌, ◌-◌, Bool, ◌&&◌, not, nat_lt, nat_le, List, filter, count_by}
use Rattle.std.specs.List.{list_any, range_with_len}
use Rattle.ddr_timing.specs.declared.geometry.Geometry.{Geometry}
use Rattle.ddr_timing.specs.declared.timing.Timing.{Timing}
use Rattle.ddr_trace.specs.declared.command.Entry.{Entry}
use Rattle.ddr_trace.specs.Banks.{any_bank, bank_behind, is_active}
use Rattle.ddr_trace.specs.Commands.{is_refresh}
use Rattle.ddr_statistics.specs.Counts.{is_of_rank}

-- the commands up to the cycle, its own among them
abbrev pub up_to : ℕ → List Entry → List Entry
up_to cycle history = filter (λ e. nat_le e.cycle cycle) history

-- A bank of the rank is active in the cycle: each is from the cycle of its ACT on, until the cycle of the PRE or PREA that closes it or
-- the start of its auto-precharge, in which it is idle.
abbrev pub is_rank_active : Timing → Geometry → ℕ → List Entry → ℕ → Bool
is_rank_active t g rank history cycle = any_bank g rank (λ bank. is_active t cycle (bank_behind bank (up_to cycle history)))

-- the commands have a REF of the rank, and the cycle is fewer than RFC behind it
abbrev pub is_within_refresh : Timing → ℕ → List Entry → ℕ → Bool
is_within_refresh t rank history cycle =
    list_any (λ e. is_of_rank rank e.command && is_refresh e.command && nat_lt cycle (e.cycle + t.rfc)) history

-- The rank is being refreshed in the cycle: it is that of a REF, or fewer than RFC behind it, and no bank is active. (STATE and RFC see
-- to it that in a legal trace none is.)
abbrev pub is_rank_refreshed : Timing → Geometry → ℕ → List Entry → ℕ → Bool
is_rank_refreshed t g rank history cycle =
    is_within_refresh t rank (up_to cycle history) cycle && not (is_rank_active t g rank history cycle)

-- the rank is neither in the cycle
abbrev pub is_rank_idle : Timing → Geometry → ℕ → List Entry → ℕ → Bool
is_rank_idle t g rank history cycle = not (is_rank_active t g rank history cycle) && not (is_rank_refreshed t g rank history cycle)

-- how many of the cycles from the start to before the end pass the test
abbrev pub clocks_of : (ℕ → Bool) → ℕ → ℕ → ℕ
clocks_of test start end = count_by test (range_with_len start (end - start))

-- those of a rank in a trace of that start and end
unfoldable pub active_clocks : Timing → Geometry → ℕ → ℕ → ℕ → List Entry → ℕ
active_clocks t g start end rank history = clocks_of (is_rank_active t g rank history) start end

unfoldable pub refresh_clocks : Timing → Geometry → ℕ → ℕ → ℕ → List Entry → ℕ
refresh_clocks t g start end rank history = clocks_of (is_rank_refreshed t g rank history) start end

unfoldable pub idle_clocks : Timing → Geometry → ℕ → ℕ → ℕ → List Entry → ℕ
idle_clocks t g start end rank history = clocks_of (is_rank_idle t g rank history) start end
