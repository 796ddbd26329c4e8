use Rattle.std.proofs.Common.{None}
use Rattle.ddr_row_array.proofs.Opened.{opened-set, bank_within_list}
use Rattle.ddr_row_array.proofs.row_array.RowArray.precharge.Goals as goal

pub returns-clause-opened : goal.returns-clause-opened
returns-clause-opened c =
    let within = bank_within_list c.self.inside c.args.bank (rw (← c.self.view_is) at c.requires) in
    rw (← c.self.view_is) (λ b. opened-set c.self.inside.opened.items c.args.bank b None within)
