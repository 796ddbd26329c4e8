use Rattle.std.proofs.Common.{◌≡◌, ◌≤◌, drop}
use Rattle.ddr_capture.specs.Fields.{hex_after}
use Rattle.ddr_capture.proofs.hexadecimal.hex_of.Given as goal

abbrev pub invariant-loop-digit : goal.invariant-loop-digit
invariant-loop-digit l = record {
  rest : hex_after l.most l.number (drop l.digit-index l.digits) ≡ hex_after l.most 0 l.digits;
  bounded : l.number ≤ l.most;
}
