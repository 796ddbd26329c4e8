-- So many slots have their lines, and the next has not.
use Rattle.std.proofs.Common.{sym, ◌∙◌, arith}
use Rattle.std.proofs.lemmas.List.Sums.{prefix_len-le-length}
use Rattle.ddr_reorder.specs.View.{has_line}
use Rattle.ddr_reorder.proofs.Prefix.{prefix_len-more, prefix_len-stops}
use Rattle.ddr_reorder.proofs.slot.filled_prefix.Goals as goal

pub returns-then-not-is_filled : goal.returns-then-not-is_filled
returns-then-not-is_filled c = prefix_len-stops has_line _ _ c.loop-index.invariant (sym c.is_filled.ensures ∙ c.if-not-is_filled.true)

pub loop-index-preserved : goal.loop-index-preserved
loop-index-preserved c = prefix_len-more has_line _ _ c.loop-index.invariant (sym c.is_filled.ensures ∙ c.if-not-is_filled.false)

pub returns : goal.returns
returns c = omega (arith, prefix_len-le-length has_line c.args.slots.now.items, c.loop-index.invariant)
