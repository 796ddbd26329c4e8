use Rattle.std.proofs.Common.{◌≡◌, length, drop}
use Rattle.std.specs.Str.Lines.{lines}
use Rattle.ddr_text.specs.Instructions.{nothing_read, script_from}
use Rattle.ddr_text.proofs.instructions.instructions_of.Given as goal

abbrev pub invariant-loop-written : goal.invariant-loop-written
invariant-loop-written l = record {
  can_next : (goal.iterator-loop-written).can_next l.written-iterator;
  is_finite : (goal.iterator-loop-written).is_finite l.written-iterator;
  counted : l.line ≡ length l.yielded;
  said : script_from l.form l.line l.reading (drop l.line (lines l.text)) ≡ script_from l.form 0 nothing_read (lines l.text);
}
