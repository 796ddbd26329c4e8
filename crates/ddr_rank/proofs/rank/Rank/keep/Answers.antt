use Rattle.ddr_rank.proofs.NotedLemmas.{stands_after}
use Rattle.ddr_rank.proofs.rank.Rank.keep.Goals as goal

pub returns-clause-stands : goal.returns-clause-stands
returns-clause-stands c = λ history stands after.
    stands_after c.args.self.now _ history c.args.entry.now (rw (← c.note.ensures) c.raise.ensures.rest) (rw (← c.note.ensures) c.raise.ensures.raised) stands after c.requires
