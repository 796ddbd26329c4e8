-- Each entry makes of the bank what it makes of it behind those before.
use Rattle.std.proofs.Common.{refl, ap, take, sym, ◌∙◌}
use Rattle.std.proofs.lemmas.List.{take_more}
use Rattle.ddr_trace.specs.Banks.{bank_behind}
use Rattle.ddr_trace.proofs.BankLemmas.{bank_behind-append}
use Rattle.ddr_draw.proofs.starts.bank_behind.Goals as goal

pub loop-entry-init : goal.loop-entry-init
unfolding bank_behind
loop-entry-init c = refl

pub loop-entry-preserved : goal.loop-entry-preserved
loop-entry-preserved c =
    c.bank_after-bank.ensures
    ∙ rw (c.loop-entry.invariant) (sym (ap (bank_behind c.args.command.now) (take_more c.args.entries.now c.loop-entry.entry-index _ c.loop-entry-test.true)
    ∙ bank_behind-append c.args.command.now (take c.loop-entry.entry-index c.args.entries.now) _))
