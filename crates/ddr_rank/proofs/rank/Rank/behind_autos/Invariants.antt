-- The latest so far, with that of the banks left, is the latest of all.
use Rattle.std.proofs.Common.{◌≡◌, max, drop}
use Rattle.ddr_rank.specs.First.{behind_autos}
use Rattle.ddr_rank.proofs.rank.Rank.behind_autos.Given as goal

abbrev pub invariant-loop-bank : goal.invariant-loop-bank
invariant-loop-bank l =
    max l.end (behind_autos l.self.config.timing (drop l.bank-index l.bank-items)) ≡ behind_autos l.self.config.timing l.bank-items
