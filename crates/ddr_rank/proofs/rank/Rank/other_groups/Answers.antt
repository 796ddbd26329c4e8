use Rattle.std.proofs.Common.{rules, tests}
use Rattle.ddr_rank.proofs.rank.Rank.other_groups.Goals as goal

pub loop-other-preserved : goal.loop-other-preserved
loop-other-preserved c = search (tests, rules)
