use Rattle.std.proofs.Common.{◌≡◌, ◌++◌, drop, string_bytes}
use Rattle.ddr_measure.specs.Text.{class_lines}
use Rattle.ddr_measure.proofs.text.class_lines.Given as goal

abbrev pub invariant-loop-class : goal.invariant-loop-class
invariant-loop-class l = string_bytes l.text ++ class_lines l.class (drop l.class l.classes) ≡ class_lines 0 l.classes
