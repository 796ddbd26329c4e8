-- The pieces of the text.
use Rattle.ddr_explain.specs.Sentences.{far_text}
use Rattle.ddr_explain.proofs.sentence.far_text.Goals as goal

pub returns : goal.returns
unfolding far_text
returns c = simp (c.from.ensures, c.in_ok-at.ensures, c.in_ok-clocks.ensures, c.in_ok-before.ensures) at c.format.ensures.ok
