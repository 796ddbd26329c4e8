use Rattle.std.proofs.Common.{◌<◌, length, get_or, arith}
use Rattle.std.proofs.lemmas.List.{get_or_default}
use Rattle.std.proofs.lemmas.List.Edits.{map_over_more}
use Rattle.ddr_rank.specs.Ready.{free, raised}
use Rattle.ddr_rank.proofs.ready.raise_all.Goals as goal

pub loop-bank-preserved : goal.loop-bank-preserved
loop-bank-preserved c =
    let within : c.loop-bank.bank-index < length c.args.banks.now = omega arith in
    let there : c.loop-bank.bank-index < length c.loop-bank.banks = omega arith in
    rw c.raise.ensures
    (map_over_more (raised c.args.to.now) c.args.banks.now c.loop-bank.banks c.loop-bank.bank-index (get_or c.loop-bank.banks c.loop-bank.bank-index free) within c.loop-bank.invariant (get_or_default c.loop-bank.banks c.loop-bank.bank-index free (get_or c.loop-bank.banks c.loop-bank.bank-index free) there))
