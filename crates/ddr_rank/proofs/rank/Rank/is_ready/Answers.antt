-- The first cycles and the state of banks tell.
use Rattle.std.proofs.Common.{◌∙◌}
use Rattle.ddr_rank.proofs.MayLemmas.{may_told}
use Rattle.ddr_rank.proofs.rank.Rank.is_ready.Goals as goal

pub returns : goal.returns
returns c = λ history stands after.
    c.may_now.ensures ∙ may_told c.args.self.now history c.args.cycle c.args.command.now c.requires.below stands c.requires.placed
