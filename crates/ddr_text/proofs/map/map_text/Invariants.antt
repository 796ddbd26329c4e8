use Rattle.std.proofs.Common.{◌≡◌, length, drop, string_bytes}
use Rattle.std.specs.Str.Lines.{lines}
use Rattle.ddr_text.specs.MapText.{map_text, text_from}
use Rattle.ddr_text.proofs.map.map_text.Given as goal

abbrev pub invariant-loop-written : goal.invariant-loop-written
invariant-loop-written l = record {
  can_next : (goal.iterator-loop-written).can_next l.written-iterator;
  is_finite : (goal.iterator-loop-written).is_finite l.written-iterator;
  counted : l.line ≡ length l.yielded;
  said : text_from l.map.geometry l.line (string_bytes l.text) (drop l.line (lines l.body)) ≡ map_text l.map.geometry l.body;
}
