-- The pieces of the text.
use Rattle.ddr_explain.specs.Sentences.{outside_text}
use Rattle.ddr_explain.proofs.sentence.outside_text.Goals as goal

pub returns : goal.returns
unfolding outside_text
returns c = simp (c.in_ok-at.ensures, c.part_name-name.ensures, c.in_text_of-number.ensures, c.bound_name-bounding.ensures, c.in_text_of-bound.ensures) at c.format.ensures.ok
