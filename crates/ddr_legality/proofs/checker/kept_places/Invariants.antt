use Rattle.std.proofs.Common.{◌≡◌, true, take}
use Rattle.ddr_legality.specs.Followed.{AreFollowed}
use Rattle.ddr_legality.specs.OnePass.{HasPassed}
use Rattle.ddr_legality.proofs.KeptLemmas.{FlagsSoFar}
use Rattle.ddr_legality.proofs.checker.kept_places.Given as goal

abbrev pub invariant-loop-entry : goal.invariant-loop-entry
invariant-loop-entry l = record {
  config : l.so_far.issued.config ≡ l.config;
  start : l.so_far.issued.start ≡ l.start;
  flags : FlagsSoFar l.config l.start l.end l.entries l.kept.items l.entry-index;
  passed : l.is_followed ≡ true → HasPassed l.so_far (take l.entry-index l.entries);
  rising : AreFollowed l.config.geometry l.entries l.entry-index → l.is_followed ≡ true;
}
