-- How a picture names commands and banks, and which commands it asks for.
use Rattle.std.specs.Prelude.{ℕ, ◌+◌, ◌-◌, ◌/◌, ◌%◌, ◌^◌, min, List, ◌++◌, codes}
use Rattle.std.specs.Fmt.{decimal}
use Rattle.ddr_timing.specs.declared.geometry.Geometry.{Geometry}
use Rattle.ddr_timing.specs.declared.units.TheConstants.{GROUP_BANKS}
use Rattle.ddr_trace.specs.declared.command.Command.{Command}
use Rattle.ddr_trace.specs.declared.command.Command.TheVariants.{Act, Rd, Wr, RdAuto, WrAuto, Pre, PreAll, Refresh}
use Rattle.ddr_trace.specs.Commands.{bank_of, group_of, rank_of}

-- a bank, as `r0g1b2`
unfoldable pub bank_name : ℕ → ℕ → ℕ → List ℕ
bank_name rank group bank = codes "r" ++ (decimal rank ++ (codes "g" ++ (decimal group ++ (codes "b" ++ decimal bank))))

-- the name of the bank with that number in the geometry
abbrev pub bank_numbered : Geometry → ℕ → List ℕ
bank_numbered g n = bank_name (n / GROUP_BANKS / g.groups) (n / GROUP_BANKS % g.groups) (n % GROUP_BANKS)

-- the bank of a command of one bank
abbrev pub name_of_bank : Command → List ℕ
name_of_bank command = bank_name (rank_of command) (group_of command) (bank_of command)

-- the cycle so many clocks after that one; cycles end at the last that 64 bits hold
abbrev pub after : ℕ → ℕ → ℕ
after cycle clocks = min (cycle + clocks) (2 ^ 64 - 1)
