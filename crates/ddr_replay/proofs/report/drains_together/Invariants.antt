use Rattle.std.proofs.Common.{◌≡◌, drop}
use Rattle.std.specs.Prelude.{fold}
use Rattle.ddr_ledger.specs.Activities.{and_drains, drains_together}
use Rattle.ddr_replay.proofs.report.drains_together.Given as goal

abbrev pub invariant-loop-one : goal.invariant-loop-one
invariant-loop-one l = fold and_drains l.all (drop l.one-index l.activity) ≡ drains_together l.activity
