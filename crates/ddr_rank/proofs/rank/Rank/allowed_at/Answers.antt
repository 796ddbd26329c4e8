-- The first cycle is told, and from the given one on it is the later of the two.
use Rattle.ddr_rank.proofs.FirstLemmas.{allowed_told, legal_told}
use Rattle.ddr_rank.proofs.rank.Rank.allowed_at.Goals as goal

pub returns-clause-first : goal.returns-clause-first
returns-clause-first c = λ history cycle stands begun below.
    allowed_told c.args.self.now history c.args.from cycle c.args.command _ _ c.first_cycle.ensures c.max.ensures begun below stands c.requires

pub returns-clause-legal : goal.returns-clause-legal
returns-clause-legal c = λ history cycle stands begun below.
    legal_told c.args.self.now history c.args.from cycle c.args.command _ _ c.first_cycle.ensures c.max.ensures begun below stands c.requires
