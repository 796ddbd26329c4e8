-- In how many clocks of a channel requests were pending and no command went out, by what the next command waited for.
use Rattle.std.specs.Prelude.{ℕ, ◌-◌, fold, replicate, slice_index_or, slice_set, Option, Some, None}
use Rattle.ddr_statistics.specs.Noted.{raised}
use Rattle.ddr_trace.specs.declared.rule.Rule.{Rule}
use Rattle.ddr_trace.specs.Names.{number_of}
use Rattle.ddr_ledger.specs.declared.causes.Causes.{Causes}

abbrev pub no_causes : Causes
no_causes = record { cap = 0; choice = 0; rules = replicate 23 0 }

-- where a rule stands among all, from 0
abbrev pub place_of : Rule → ℕ
place_of r = number_of r - 1

-- so many clocks more, for which this rule held the command, or none did
abbrev pub charged : Option Rule → ℕ → Causes → Causes
charged None clocks c = record c { choice = raised clocks c.choice }
charged (Some r) clocks c = record c { rules = slice_set c.rules (place_of r) (raised clocks (slice_index_or c.rules (place_of r) 0)) }

-- so many clocks more, in which the oldest request had reached the cap
abbrev pub capped : ℕ → Causes → Causes
capped clocks c = record c { cap = raised clocks c.cap }

-- the clocks of all causes together
abbrev pub and_clocks : ℕ → ℕ → ℕ
and_clocks all clocks = raised clocks all

abbrev pub clocks_of : Causes → ℕ
clocks_of c = fold and_clocks (raised c.choice c.cap) c.rules
