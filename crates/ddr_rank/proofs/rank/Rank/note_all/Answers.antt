use Rattle.std.proofs.Common.{◌<◌, length, get_or, arith}
use Rattle.std.proofs.lemmas.List.{get_or_default}
use Rattle.std.proofs.lemmas.List.Edits.{map_over_more}
use Rattle.ddr_rank.specs.Noted.{bank_noted}
use Rattle.ddr_rank.specs.Readiness.{idle}
use Rattle.ddr_rank.proofs.rank.Rank.note_all.Goals as goal

pub loop-bank-preserved : goal.loop-bank-preserved
loop-bank-preserved c =
    let within : c.loop-bank.bank-index < length c.deref_mut-bank-items.result.now = omega arith in
    let there : c.loop-bank.bank-index < length c.loop-bank.bank-items = omega arith in
    rw c.note.ensures
    (map_over_more (bank_noted c.args.entry.now) c.deref_mut-bank-items.result.now c.loop-bank.bank-items c.loop-bank.bank-index (get_or c.loop-bank.bank-items c.loop-bank.bank-index idle) within c.loop-bank.invariant (get_or_default c.loop-bank.bank-items c.loop-bank.bank-index idle (get_or c.loop-bank.bank-items c.loop-bank.bank-index idle) there))
