use Rattle.std.proofs.Common.{◌≡◌, length, drop}
use Rattle.std.specs.Str.Lines.{lines}
use Rattle.ddr_text.specs.Requests.{first_fault}
use Rattle.ddr_text.proofs.requests.check_requests.Given as goal

abbrev pub invariant-loop-written : goal.invariant-loop-written
invariant-loop-written l = record {
  can_next : (goal.iterator-loop-written).can_next l.written-iterator;
  is_finite : (goal.iterator-loop-written).is_finite l.written-iterator;
  counted : l.line ≡ length l.yielded;
  said : first_fault l.config l.line (drop l.line (lines l.text)) ≡ first_fault l.config 0 (lines l.text);
}
