-- The pieces of the text.
use Rattle.std.proofs.Common.{append_assoc}
use Rattle.ddr_explain.specs.Sentences.{due_text}
use Rattle.ddr_explain.proofs.sentence.due_text.Goals as goal

pub returns : goal.returns
unfolding due_text
returns c = simp append_assoc at c.format.ensures.ok
