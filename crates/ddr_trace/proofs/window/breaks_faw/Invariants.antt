use Rattle.std.proofs.Common.{◌≡◌, ◌-◌, ◌≤◌, length}
use Rattle.ddr_trace.specs.Rules.{breaks_faw}
use Rattle.ddr_trace.proofs.WindowLemmas.{breaks_faw_after}
use Rattle.ddr_trace.proofs.window.breaks_faw.Given as goal

abbrev pub invariant-loop-last : goal.invariant-loop-last
invariant-loop-last l =
    record { few : l.between ≤ 3; so_far : breaks_faw l.timing l.history l.entry ≡ breaks_faw_after l.timing l.entry (3 - l.between) l.earlier }

abbrev pub decreases-loop-last : goal.decreases-loop-last
decreases-loop-last l = length l.earlier
