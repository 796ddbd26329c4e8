use Rattle.std.proofs.Common.{◌≡◌, get_or, sym, ap, ◌∙◌, arith}
use Rattle.std.proofs.lemmas.List.FromFn.{fill_by_all}
use Rattle.ddr_row_array.specs.Merge.{merged, byte_of}
use Rattle.ddr_row_array.proofs.Words.{whole_mask, byte_of-set}
use Rattle.ddr_row_array.proofs.merge.merge.Goals as goal

pub returns-then-mask-eq18446744073709551615 : goal.returns-then-mask-eq18446744073709551615
unfolding merged
returns-then-mask-eq18446744073709551615 c =
    let all : c.args.mask ≡ 18446744073709551615 = omega arith in
    fill_by_all (byte_of c.args.mask c.args.line.now c.args.burst.now) c.copy_from_slice.new.self 64 0 (omega arith)
    (λ k h. ap (λ l. get_or l k 0) c.copy_from_slice.ensures.after ∙ sym (byte_of-set c.args.mask c.args.line.now c.args.burst.now k (whole_mask c.args.mask k all (omega arith))))
