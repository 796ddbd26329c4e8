use Rattle.std.proofs.Common.{◌≡◌, take}
use Rattle.ddr_trace.proofs.FaultLemmas.{IsCleanBelow}
use Rattle.ddr_legality.specs.OnePass.{HasPassed}
use Rattle.ddr_legality.proofs.checker.first_fault.Given as goal

abbrev pub invariant-loop-place : goal.invariant-loop-place
invariant-loop-place l = record {
  config : l.so_far.issued.config ≡ l.config;
  start : l.so_far.issued.start ≡ l.start;
  clean : IsCleanBelow l.config l.start l.end l.entries l.place;
  passed : HasPassed l.so_far (take l.place l.entries);
}
