-- What holds once every queue was joined.
use Rattle.ddr_workers.proofs.HeadlineLemmas.{got_all, none_left}
use Rattle.ddr_workers.proofs.headline.headline.Goals as goal

pub returns-clause-replies : goal.returns-clause-replies
returns-clause-replies c = λ ports workers left joined p e there. got_all ports workers left p e joined there

pub returns-clause-empty : goal.returns-clause-empty
returns-clause-empty c = λ ports workers left joined p e there. none_left ports workers left p e joined there
