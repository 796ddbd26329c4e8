use Rattle.std.proofs.Common.{arith}
use Rattle.std.proofs.lemmas.List.FromFn.{fill_by_all}
use Rattle.ddr_row_array.specs.Merge.{merged, byte_of}
use Rattle.ddr_row_array.proofs.merge.merge_words.Goals as goal

pub returns : goal.returns
unfolding merged
returns c =
    fill_by_all (byte_of c.args.mask c.args.line.now c.args.burst.now) c.loop-word.burst 64 0 (omega arith) (λ k h. c.loop-word.invariant.done k (omega arith))
