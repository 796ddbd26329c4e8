use Rattle.std.proofs.Common.{◌≡◌, string_bytes, take}
use Rattle.ddr_findings.specs.Shown.{plain}
use Rattle.ddr_findings.proofs.shown.plain.Given as goal

abbrev pub invariant-loop-byte : goal.invariant-loop-byte
invariant-loop-byte l = string_bytes l.told ≡ plain (take l.byte-index l.byte-items)
