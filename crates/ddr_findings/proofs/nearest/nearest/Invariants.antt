use Rattle.std.proofs.Common.{◌≡◌, take}
use Rattle.std.specs.Prelude.{fold}
use Rattle.ddr_timing.specs.declared.key.Key.TheVariants.{Version}
use Rattle.ddr_findings.specs.Nearest.{distance, nearer}
use Rattle.ddr_findings.proofs.nearest.nearest.Given as goal

abbrev pub invariant-loop-key : goal.invariant-loop-key
invariant-loop-key l = record {
  best : l.best ≡ fold (nearer l.name) Version (take l.key-index l.keys);
  least : l.least ≡ distance l.name l.best;
}
