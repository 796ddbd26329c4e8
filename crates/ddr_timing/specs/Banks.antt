-- The banks of a channel, numbered over its ranks.
use Rattle.std.specs.Prelude.{ℕ, ◌+◌, ◌*◌}
use Rattle.ddr_timing.specs.declared.geometry.Geometry.{Geometry}
use Rattle.ddr_timing.specs.declared.units.TheConstants.{GROUP_BANKS, MOST_GROUPS}

-- how many banks a rank has
abbrev pub rank_bank_count : Geometry → ℕ
rank_bank_count shape = shape.groups * GROUP_BANKS

-- how many banks a channel has
abbrev pub bank_count : Geometry → ℕ
bank_count shape = shape.ranks * shape.groups * GROUP_BANKS

-- the number of a bank: rank by rank, in a rank group by group, and in a group bank by bank
abbrev pub bank_number : Geometry → ℕ → ℕ → ℕ → ℕ
bank_number shape rank group bank = (rank * shape.groups + group) * GROUP_BANKS + bank

-- its number in the widest geometry, in which a rank has as many groups as it may have
abbrev pub widest_bank_number : ℕ → ℕ → ℕ → ℕ
widest_bank_number rank group bank = (rank * MOST_GROUPS + group) * GROUP_BANKS + bank
