-- Nothing was issued to a rank that there isn't.
use Rattle.std.proofs.Common.{◌≤◌, sym, ap, arith}
use Rattle.ddr_trace.specs.Banks.{open_row}
use Rattle.ddr_legality.proofs.IssuedLemmas.{all_placed}
use Rattle.ddr_legality.proofs.RankLemmas.{beyond_idle}
use Rattle.ddr_legality.proofs.bus_readiness.BusReadiness.open_row.Goals as goal

pub returns-in_default : goal.returns-in_default
returns-in_default c = λ history issued.
    let i = c.args.self.now in
    let beyond : i.config.geometry.ranks ≤ c.args.rank = omega (arith, i.config.geometry.ranks_range) in
    sym (ap (open_row i.config.timing c.args.cycle) (beyond_idle i.config.geometry c.args.rank c.args.group c.args.bank history beyond (all_placed i history issued)))
