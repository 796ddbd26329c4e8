-- The kept number fits.
use Rattle.std.proofs.Common.{◌<◌, ◌^◌, arith}
use Rattle.ddr_ledger.proofs.WaitedLemmas.{full_for}
use Rattle.ddr_ledger.proofs.waited.Waited.fill.Goals as goal

pub returns : goal.returns
returns c =
    let small : c.args.self.now.window < 2 ^ 64 = omega arith in
    full_for c.args.rounds c.saturating_add-self.result c.args.self.now small c.saturating_add-self.ensures
