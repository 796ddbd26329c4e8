use Rattle.std.proofs.Common.{◌≡◌, ◌++◌, length, string_bytes}
use Rattle.ddr_draw.specs.Waves.{dump_from}
use Rattle.ddr_draw.proofs.waves.dump_from.Given as goal

-- the rest is still to be told
abbrev pub invariant-changes : goal.invariant-changes
invariant-changes l = dump_from l.start l.initial.rest ≡ string_bytes l.text ++ dump_from l.last l.rest

abbrev pub decreases-changes : goal.decreases-changes
decreases-changes l = length l.rest
