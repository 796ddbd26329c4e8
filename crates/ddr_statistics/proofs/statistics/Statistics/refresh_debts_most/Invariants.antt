use Rattle.std.proofs.Common.{◌≡◌, ◌<◌, List, length}
use Rattle.ddr_timing.specs.declared.units.TheConstants.{CLOCK_STOP}
use Rattle.ddr_trace.specs.declared.command.Entry.{Entry}
use Rattle.ddr_statistics.specs.Debts.{IsInOrder, debts_most}
use Rattle.ddr_statistics.specs.Stands.{StandsFor}
use Rattle.ddr_statistics.proofs.statistics.Statistics.refresh_debts_most.Given as goal

abbrev pub invariant-loop-rank : goal.invariant-loop-rank
invariant-loop-rank l = (history : List Entry) → StandsFor l.self history → length history < CLOCK_STOP → IsInOrder l.end history
    → l.most ≡ debts_most l.self.timing.refi l.self.start l.end l.rank history
