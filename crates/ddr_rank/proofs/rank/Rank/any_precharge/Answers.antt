use Rattle.std.proofs.Common.{◌≡◌, length, arith}
use Rattle.ddr_rank.proofs.rank.Rank.any_precharge.Goals as goal

pub returns : goal.returns
returns c =
    let whole : c.loop-bank.bank-index ≡ length c.deref-bank-items.result.now = omega arith in
    rw (← c.self.view_is, ← c.deref-bank-items.ensures.value, ← whole) c.loop-bank.invariant
