use Rattle.std.proofs.Common.{◌≡◌, [], ◌++◌, replicate}
use Rattle.csv.specs.Records.{fields_of, partial_of}
use Rattle.ddr_trace_text.proofs.text.push_empty.Given as goal

abbrev pub invariant-loop-number : goal.invariant-loop-number
invariant-loop-number l =
    record { fields : fields_of l.fields ≡ fields_of l.initial.fields ++ replicate l._number []; partial : partial_of l.fields ≡ [] }
