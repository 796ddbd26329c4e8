use Rattle.std.proofs.Common.{arith}
use Rattle.std.proofs.lemmas.Grind.{common_steps}
use Rattle.ddr_statistics.proofs.TextLemmas.{next_text}
use Rattle.ddr_ledger.specs.Places.{rank_table_of}
use Rattle.ddr_ledger.proofs.places.ranks_tables.Goals as goal

pub loop-rank-preserved : goal.loop-rank-preserved
loop-rank-preserved c =
    let channel = c.args.channel.now in
    let rank = c.loop-rank.rank in
    grind (arith, common_steps, c.rank_numbers-numbers.ensures, next_text (rank_table_of channel.config c.args.number channel.now channel.trace) rank)
