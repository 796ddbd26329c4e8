-- The statistics are those of the channel's commands.
use Rattle.ddr_counting.proofs.NotingLemmas.{noted_of}
use Rattle.ddr_c.proofs.host.Core.channel_numbers.Goals as goal

pub all_are_counted-requires-clause-noted : goal.all_are_counted-requires-clause-noted
all_are_counted-requires-clause-noted c =
    let core = c.args.self.now in
    noted_of core.world core.noting c.args.channel c.in-Some.side.now c.at-statistics.result.now core.follows c.at-statistics.ensures c.in-Some.ensures.value c.in-Some.ensures.config
