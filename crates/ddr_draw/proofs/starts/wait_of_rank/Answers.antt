-- One bank more.
use Rattle.std.proofs.Common.{ℕ, Option, ap, sym, ◌∙◌}
use Rattle.ddr_trace.specs.declared.rule.Rule.TheVariants as rule
use Rattle.ddr_draw.specs.declared.held.Held.{Held}
use Rattle.ddr_draw.specs.Held.{bank_at, wait_of_bank}
use Rattle.ddr_draw.proofs.BankLemmas.{fold-range}
use Rattle.ddr_draw.proofs.starts.wait_of_rank.Goals as goal

pub loop-number-preserved : goal.loop-number-preserved
loop-number-preserved c =
    let f : Option Held → ℕ → Option Held = λ found n. wait_of_bank c.args.config.now.timing rule.RpRef c.args.first c.args.recent.now (bank_at c.args.rank n) found in
    c.wait_of_bank-best.ensures
    ∙ ap (λ bank. wait_of_bank c.args.config.now.timing rule.RpRef c.args.first c.args.recent.now bank c.loop-number.best) c.bank_at-bank.ensures
    ∙ ap (λ best. f best c.loop-number.number) c.loop-number.invariant
    ∙ sym (fold-range f c.args.found c.loop-number.number)
