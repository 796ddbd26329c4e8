-- The pieces of the text.
use Rattle.std.proofs.Common.{append_assoc}
use Rattle.ddr_explain.specs.Sentences.{state_text}
use Rattle.ddr_explain.proofs.state.state_text.Goals as goal

pub returns : goal.returns
unfolding state_text
returns c = simp (append_assoc, c.in_ok-at.ensures, c.in_ok-state.ensures, c.in_ok-wanted.ensures, c.rank-rank.ensures, c.label_of-label.ensures) at c.format.ensures.ok
