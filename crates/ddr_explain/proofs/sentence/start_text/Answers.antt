-- The pieces of the text.
use Rattle.ddr_explain.specs.Sentences.{start_text}
use Rattle.ddr_explain.proofs.sentence.start_text.Goals as goal

pub returns : goal.returns
unfolding start_text
returns c = simp (c.in_ok-at.ensures, c.in_ok-clocks.ensures, c.in_ok-before.ensures, c.label_of-label.ensures) at c.format.ensures.ok
