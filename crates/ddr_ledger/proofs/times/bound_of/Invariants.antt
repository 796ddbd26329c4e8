use Rattle.std.proofs.Common.{◌≡◌, ◌≤◌, ◌*◌, drop}
use Rattle.ddr_ledger.specs.Times.{bound_from}
use Rattle.ddr_ledger.proofs.times.bound_of.Given as goal

abbrev pub invariant-loop-bucket : goal.invariant-loop-bucket
invariant-loop-bucket l = record {
  bound : bound_from l.wanted l.seen l.bucket (drop l.bucket l.latency.histogram) ≡ bound_from l.wanted 0 0 l.latency.histogram;
  few : l.seen ≤ l.bucket * 18446744073709551615;
}
