use Rattle.std.proofs.Common.{◌*◌, arith}
use Rattle.std.proofs.lemmas.Grind.{common_steps}
use Rattle.ddr_statistics.proofs.TextLemmas.{next_text}
use Rattle.ddr_ledger.specs.Places.{bank_table_at}
use Rattle.ddr_ledger.proofs.places.banks_tables.Goals as goal

pub loop-place-preserved : goal.loop-place-preserved
loop-place-preserved c =
    let trace = c.args.channel.now.trace in
    let counted = c.bank.ensures.counted trace c.all_are_counted.ensures.stands in
    grind (arith, common_steps, counted, next_text (bank_table_at (c.geometry.result.now.groups * 4) c.args.number trace) c.loop-place.place)
