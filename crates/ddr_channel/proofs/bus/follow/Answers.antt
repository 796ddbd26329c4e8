-- A command closes and opens rows of the banks that it names, and of no others.
use Rattle.std.proofs.Common.{◌+◌, ◌*◌, ◌&&◌, cond, eqb, leb, ltb, None, sym, ap, ◌∙◌}
use Rattle.ddr_trace.specs.declared.command.Command.{Command}
use Rattle.ddr_row_array.specs.Rows.{open_row}
use Rattle.ddr_timing.specs.Banks.{bank_number}
use Rattle.ddr_channel.specs.Issue.{row_after}
use Rattle.ddr_channel.proofs.IssueLemmas.{closes_bank, row_after_all, row_after_pre, bank_of}
use Rattle.ddr_channel.proofs.bus.follow.Goals as goal

pub returns-in-PreAll-clause-opened : goal.returns-in-PreAll-clause-opened
returns-in-PreAll-clause-opened c = λ rank group bank here.
    let shape = c.args.shape.now in
    let n = bank_number shape rank group bank in
    let row = open_row c.args.rows.now n in
    c.close_banks.ensures.opened n
    ∙ ap (λ m. cond (leb (c.in-PreAll.rank * m) n && ltb n (c.in-PreAll.rank * m + m)) None row) c.rank_banks-banks.ensures
    ∙ row_after_all shape c.in-PreAll.rank rank group bank row here
    ∙ ap (λ (x : Command). row_after rank group bank x row) (sym c.in-PreAll.is)

pub returns-in-Pre-clause-opened : goal.returns-in-Pre-clause-opened
returns-in-Pre-clause-opened c = λ rank group bank here.
    let shape = c.args.shape.now in
    let n = bank_number shape rank group bank in
    let row = open_row c.args.rows.now n in
    c.precharge.ensures.opened n
    ∙ ap (λ m. cond (eqb n m) None row) c.number-in-Pre.ensures.number
    ∙ row_after_pre shape c.in-Pre.rank c.in-Pre.group c.in-Pre.bank rank group bank row (bank_of shape c.args.rows.now c.args.command c.in-Pre.rank c.in-Pre.group c.in-Pre.bank c.in-Pre.is c.requires.may) here
    ∙ closes_bank c.args.command c.in-Pre.rank c.in-Pre.group c.in-Pre.bank rank group bank row c.in-Pre.is
