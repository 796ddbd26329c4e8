-- The pieces of the text.
use Rattle.ddr_draw.specs.Legend.{legend}
use Rattle.ddr_draw.proofs.legend.legend.Goals as goal

pub returns : goal.returns
unfolding legend
returns c =
    simp (c.in_ok-activate.ensures, c.in_ok-row.ensures, c.in_ok-read.ensures, c.in_ok-write.ensures, c.in_ok-precharge.ensures, c.in_ok-refresh.ensures) at c.format.ensures.ok
