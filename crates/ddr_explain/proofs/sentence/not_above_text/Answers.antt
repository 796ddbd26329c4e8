-- The pieces of the text.
use Rattle.ddr_explain.specs.Sentences.{not_above_text}
use Rattle.ddr_explain.proofs.sentence.not_above_text.Goals as goal

pub returns : goal.returns
unfolding not_above_text
returns c = simp (c.in_ok-at.ensures, c.in_ok-before.ensures) at c.format.ensures.ok
