-- The pieces of the text.
use Rattle.std.proofs.Common.{append_assoc}
use Rattle.ddr_explain.specs.Sentences.{close_text}
use Rattle.ddr_explain.proofs.sentence.close_text.Goals as goal

pub returns : goal.returns
unfolding close_text
returns c = simp (append_assoc, c.in_ok-at.ensures, c.in_ok-clocks.ensures, c.in_ok-before.ensures, c.in_ok-limit.ensures, c.aside_of-aside.ensures, c.label_of-label.ensures) at c.format.ensures.ok
