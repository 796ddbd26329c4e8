-- In how many cycles of a channel writes were drained.
use Rattle.std.specs.Prelude.{◌≡◌, ◌<◌, ℕ, ◌+◌, suc, zero, min, Bool, false, if◌then◌else◌, List, slice_get}
use Rattle.std.specs.Option.{option_map, option_map_or}
use Rattle.ddr_timing.specs.declared.config.Config.{Config}
use Rattle.ddr_world.specs.State.{State}
use Rattle.ddr_rounds.specs.Rounds.{round}

-- in the channel of that number writes were drained in the cycle before
abbrev pub is_draining : State → ℕ → Bool
is_draining s c = option_map_or (λ side. side.channel.drain) (slice_get s.channels c) false

-- so many cycles count where they were drained in the last of them
abbrev pub counted_in : ℕ → State → ℕ → ℕ
counted_in cycles s c = if is_draining s c then cycles else 0

-- in how many cycles of so many rounds they were
abbrev pub drained : Config → ℕ → State → ℕ → ℕ
drained config zero s c = 0
drained config (suc n) s c = option_map_or (λ next. counted_in 1 next c + drained config n next c) (round config s) 0

-- a number that is raised, and stops at the last one that a `u64` holds
abbrev pub raised : ℕ → ℕ → ℕ
raised zero n = n
raised (suc more) n = min (n + suc more) 18446744073709551615

-- of each of so many channels, so many more
abbrev pub AreRaised : ℕ → (ℕ → ℕ) → List ℕ → List ℕ → Type 0
AreRaised channels more before after = (c : ℕ) → c < channels → slice_get after c ≡ option_map (raised (more c)) (slice_get before c)
